-- A push takes the longest front that it may: up to a forbidden byte, or to the first byte whose releases do not fit.
use Prim.Native.Nat.{ℕ, zero, suc, ◌+◌, ◌≤◌, ◌<◌, zero-le}
use native.Mathlib.Omega.{arith}
use native.Mathlib.Nat.{add-zero, le_refl, le_of_eq, not-suc-le-zero}
use lib.Dec.{leb}
use mathlib.Core.Path.{◌≡◌, refl, ap, ap₂, sym, ◌∙◌, subst, subst⁻¹}
use mathlib.Core.Bool.{Bool, true, false, ◌&&◌, false≢true}
use mathlib.Core.List.{List, [], ◌∷◌, ◌++◌, append-nil}
use mathlib.Core.Option.{Option, none, some}
use lib.ListN.{length, take, get_or, length-append, length-map}
use lib.Seq.{append_snoc, take-length}
use borrow.Author.Tests.{le-leb, leb-true, ne_eqb}
use Rattle.desk.specs.Push.{Out, Next, Answer, answers, marked, took, fits, forbidden, run, push_of, shifted, Seen, seen, Follows, accepts_by}
use Rattle.desk.specs.Push.{accepts, Longest, came_to}
use Rattle.desk.proofs.Choice.{and_left, and_right}
use Rattle.desk.proofs.Pushing.{run_ends, run_takes, run_stops, run_forbidden}
use Rattle.desk.proofs.Cutting.{Since, since_none, since_more, pushed_since, shifted_none}

-- a push that the entry checks refuse
pub push_refused : {S : Type 0} (next : Next S) (n : ℕ) (s : S) (chunk : List ℕ) (w m : ℕ) → (n ≡ 0 → ⊥) → push_of next n s chunk w m ≡ answers n s
unfolding push_of
push_refused next n s chunk w m h = rw (ne_eqb n 0 h)

-- taken never falls
run_more : {S : Type 0} (next : Next S) (w m : ℕ) (a : Answer S) (bs : List ℕ) → a.taken ≤ (run next w m a bs).taken
run_more next w m a [] = le_of_eq (ap (λ (x : Answer _). x.taken) (sym (run_ends next w m a)))
run_more {S} next w m a (b ∷ bs) = go (next a.after b) refl (λ o. run_more next w m (took a o) bs)
  where
    go : (r : Option (Out S)) → next a.after b ≡ r → ((o : Out S) → a.taken + 1 ≤ (run next w m (took a o) bs).taken)
        → a.taken ≤ (run next w m a (b ∷ bs)).taken
    go none e ih = le_of_eq (ap (λ (x : Answer S). x.taken) (sym (run_forbidden next w m a b bs e)))
    go (some o) e ih = fit (fits w m a o) refl
      where
        fit : (c : Bool) → fits w m a o ≡ c → a.taken ≤ (run next w m a (b ∷ bs)).taken
        fit false d = le_of_eq (ap (λ (x : Answer S). x.taken) (sym (run_stops next w m a b bs o e d)))
        fit true d =
            let i = ih o in
            let q : (run next w m a (b ∷ bs)).taken ≡ (run next w m (took a o) bs).taken =
            ap (λ (x : Answer S). x.taken) (run_takes next w m a b bs o e d) in omega arith

-- a push that answers 0 passed its entry checks
pub push_entered : {S : Type 0} (next : Next S) (e : ℕ) (s : S) (chunk : List ℕ) (w m : ℕ) → (push_of next e s chunk w m).number ≡ 0 → e ≡ 0
push_entered next zero s chunk w m z = refl
push_entered next (suc n) s chunk w m z =
    sym (ap (λ (a : Answer _). a.number) (push_refused next (suc n) s chunk w m (λ e. let x : ⊥ = omega arith in x))) ∙ z

-- where no byte is forbidden, its number is that of the entry checks
module _ {S : Type 0} (next : Next S) (never : (s : S) (b : ℕ) → next s b ≡ none → ⊥) where
  run_number : (w m : ℕ) (a : Answer S) (bs : List ℕ) → (run next w m a bs).number ≡ a.number
  run_number w m a [] = ap (λ (x : Answer S). x.number) (run_ends next w m a)
  run_number w m a (b ∷ bs) = go (next a.after b) refl (λ o. run_number w m (took a o) bs)
    where
      go : (r : Option (Out S)) → next a.after b ≡ r → ((o : Out S) → (run next w m (took a o) bs).number ≡ a.number)
          → (run next w m a (b ∷ bs)).number ≡ a.number
      go none e ih = absurd (never a.after b e)
      go (some o) e ih = fit (fits w m a o) refl
        where
          fit : (c : Bool) → fits w m a o ≡ c → (run next w m a (b ∷ bs)).number ≡ a.number
          fit false d = ap (λ (x : Answer S). x.number) (run_stops next w m a b bs o e d)
          fit true d = ap (λ (x : Answer S). x.number) (run_takes next w m a b bs o e d) ∙ ih o

  pub never_7 : (e : ℕ) (s : S) (chunk : List ℕ) (w m : ℕ) → (push_of next e s chunk w m).number ≡ e
  unfolding push_of
  never_7 zero s chunk w m = run_number w m (answers 0 s) chunk
  never_7 (suc n) s chunk w m = ap (λ (a : Answer S). a.number) (push_refused next (suc n) s chunk w m (λ e. let x : ⊥ = omega arith in x))

-- FROM ANY STATE a push takes at least one byte, where it is not forbidden and all that it releases fits
pub takes_first : {S : Type 0} (next : Next S) (s : S) (b : ℕ) (bs : List ℕ) (w m : ℕ) (o : Out S)
    → next s b ≡ some o → length o.bytes ≤ w → length (marked o.mark []) ≤ m → 1 ≤ (push_of next 0 s (b ∷ bs) w m).taken
unfolding push_of
takes_first {S} next s b bs w m o e x y =
    let d : fits w m (answers 0 s) o ≡ true =
    ap₂ ◌&&◌ (le-leb (0 + length o.bytes) w (omega arith)) (le-leb (0 + length (marked o.mark [])) m (omega arith)) in
    let q : (run next w m (answers 0 s) (b ∷ bs)).taken ≡ (run next w m (took (answers 0 s) o) bs).taken =
    ap (λ (a : Answer S). a.taken) (run_takes next w m (answers 0 s) b bs o e d) in
    let i = run_more next w m (took (answers 0 s) o) bs in
    omega arith

-- a forbidden byte at the front answers 7, with nothing taken
pub stops_first : {S : Type 0} (next : Next S) (s : S) (b : ℕ) (bs : List ℕ) (w m : ℕ) → next s b ≡ none → push_of next 0 s (b ∷ bs) w m ≡ answers 7 s
unfolding push_of
stops_first next s b bs w m e = run_forbidden next w m (answers 0 s) b bs e

-- A PUSH THAT ANSWERS 0 takes at least one byte, where all that the first releases fits
pub takes_one : {S : Type 0} (next : Next S) (s : S) (b : ℕ) (bs : List ℕ) (e w m : ℕ)
    → ((o : Out S) → next s b ≡ some o → (length o.bytes ≤ w) × (length (marked o.mark []) ≤ m))
    → (push_of next e s (b ∷ bs) w m).number ≡ 0 → 1 ≤ (push_of next e s (b ∷ bs) w m).taken
takes_one {S} next s b bs e w m room z = subst (λ (k : ℕ). 1 ≤ (push_of next k s (b ∷ bs) w m).taken) (sym zero_e) (go (next s b) refl)
  where
    zero_e : e ≡ 0
    zero_e = push_entered next e s (b ∷ bs) w m z

    go : (r : Option (Out S)) → next s b ≡ r → 1 ≤ (push_of next 0 s (b ∷ bs) w m).taken
    go (some o) q = let f = room o q in takes_first next s b bs w m o q f.0 f.1
    go none q =
        let seven : ◌≡◌ {A = ℕ} 0 7 =
        sym z ∙ ap (λ (k : ℕ). (push_of next k s (b ∷ bs) w m).number) zero_e ∙ ap (λ (a : Answer S). a.number) (stops_first next s b bs w m q) in
        let x : ⊥ = omega arith in absurd x

module _ {S : Type 0} {next : Next S} {s₀ : S} {rule : List ℕ → Seen S} (f : Follows next s₀ rule) where
  -- what is handed out only grows
  longer : (h t : List ℕ) → accepts next (rule h).state t ≡ true
      → (length (rule h).bytes ≤ length (rule (h ++ t)).bytes) × (length (rule h).ends ≤ length (rule (h ++ t)).ends)
  longer h [] e =
      let q = ap rule (sym (append-nil h)) in
      (le_of_eq (ap (λ (v : Seen S). length v.bytes) q), le_of_eq (ap (λ (v : Seen S). length v.ends) q))
  longer h (b ∷ t) e = go (next (rule h).state b) refl e (λ o q k. longer (h ++ b ∷ []) t k)
    where
      go : (r : Option (Out S)) → next (rule h).state b ≡ r → accepts_by r (λ o. accepts next o.after t) ≡ true
          → ((o : Out S) → next (rule h).state b ≡ some o → accepts next (rule (h ++ b ∷ [])).state t ≡ true
          → (length (rule (h ++ b ∷ [])).bytes ≤ length (rule ((h ++ b ∷ []) ++ t)).bytes)
          × (length (rule (h ++ b ∷ [])).ends ≤ length (rule ((h ++ b ∷ []) ++ t)).ends))
          → (length (rule h).bytes ≤ length (rule (h ++ b ∷ t)).bytes) × (length (rule h).ends ≤ length (rule (h ++ b ∷ t)).ends)
      go none q k ih = absurd (false≢true k)
      go (some o) q k ih =
          let m = f.more h b o q in
          let i = ih o q (ap (λ (v : Seen S). accepts next v.state t) m ∙ k) in
          let g : length (rule (h ++ b ∷ [])).bytes ≡ length (rule h).bytes + length o.bytes =
          ap (λ (v : Seen S). length v.bytes) m ∙ length-append (rule h).bytes o.bytes in
          let d : length (rule (h ++ b ∷ [])).ends ≡ length (rule h).ends + length (marked o.mark (rule h).bytes) =
          ap (λ (v : Seen S). length v.ends) m ∙ length-append (rule h).ends _ in
          subst (λ (l : List ℕ). (length (rule h).bytes ≤ length (rule l).bytes) × (length (rule h).ends ≤ length (rule l).ends))
          (append_snoc h b t) (omega (arith, i.0, g), omega (arith, i.1, d))

  -- what was handed out since h₀, by its lengths
  sizes : (h₀ h : List ℕ) (a : Answer S) → Since f h₀ h a
      → (length (rule h).bytes ≡ length (rule h₀).bytes + length a.bytes) × (length (rule h).ends ≡ length (rule h₀).ends + length a.marks)
  sizes h₀ h a q = (
    ap (λ (v : Seen S). length v.bytes) q.seen_is ∙ length-append (rule h₀).bytes a.bytes,
    ap (λ (v : Seen S). length v.ends) q.seen_is
        ∙ length-append (rule h₀).ends (shifted (length (rule h₀).bytes) a.marks)
        ∙ ap (λ (k : ℕ). length (rule h₀).ends + k) (length-map a.marks (λ (x : ℕ). length (rule h₀).bytes + x)),
  )

  -- no front of n bytes that may be taken, from the state s after the bytes h, is longer than c
  abbrev AtMost : ℕ → ℕ → List ℕ → List ℕ → S → List ℕ → ℕ → ℕ → Type 0
  AtMost w m h₀ h s bs c n =
      n ≤ length bs → accepts next s (take n bs) ≡ true → length (rule (h ++ take n bs)).bytes ≤ length (rule h₀).bytes + w
      → length (rule (h ++ take n bs)).ends ≤ length (rule h₀).ends + m → n ≤ c

  -- a run, from the answer a after the bytes h
  record Long (w m : ℕ) (h₀ h : List ℕ) (a : Answer S) (bs : List ℕ) (r : Answer S) : Type 0 where
    count : ℕ
    few : count ≤ length bs
    taken : r.taken ≡ a.taken + count
    accepted : accepts next a.after (take count bs) ≡ true
    bytes_fit : length r.bytes ≤ w
    marks_fit : length r.marks ≤ m
    since : Since f h₀ (h ++ take count bs) r
    longest : (n : ℕ) → AtMost w m h₀ h a.after bs count n
    number_7 : r.number ≡ 7 → (count < length bs) × (next r.after (get_or bs count 0) ≡ none)
    number_0 : (r.number ≡ 7 → ⊥) → (r.number ≡ 0) × (count < length bs → next r.after (get_or bs count 0) ≡ none → ⊥)

  module _ (w m : ℕ) (h₀ : List ℕ) where
    since_here : (h : List ℕ) (a : Answer S) → Since f h₀ h a → Since f h₀ (h ++ []) a
    since_here h a q = record { seen_is = ap rule (append-nil h) ∙ q.seen_is }

    long_end : (h : List ℕ) (a : Answer S) → a.number ≡ 0 → length a.bytes ≤ w → length a.marks ≤ m → Since f h₀ h a → Long w m h₀ h a [] a
    long_end h a z hb hm q =
        record {
          count = 0;
          few = le_refl 0;
          taken = sym (add-zero a.taken);
          accepted = refl;
          bytes_fit = hb;
          marks_fit = hm;
          since = since_here h a q;
          longest = λ n k _ _ _. k;
          number_7 = λ e. let x : ⊥ = omega arith in absurd x;
          number_0 = λ e. (z, λ k _. absurd (not-suc-le-zero k));
        }

    long_forbidden : (h : List ℕ) (a : Answer S) (b : ℕ) (bs : List ℕ) → length a.bytes ≤ w → length a.marks ≤ m → Since f h₀ h a
        → next a.after b ≡ none → Long w m h₀ h a (b ∷ bs) (forbidden a)
    long_forbidden h a b bs hb hm q e =
        record {
          count = 0;
          few = zero-le;
          taken = sym (add-zero a.taken);
          accepted = refl;
          bytes_fit = hb;
          marks_fit = hm;
          since = record { seen_is = ap rule (append-nil h) ∙ q.seen_is };
          longest = λ n. elim n as (AtMost w m h₀ h a.after (b ∷ bs) 0) [
            | zero ↦ λ _ _ _ _. zero-le
            | suc n ↦ λ _ k _ _. absurd
                (false≢true (ap (λ (r : Option (Out S)). accepts_by r (λ o. accepts next o.after (take n bs))) (sym e) ∙ k))
          ];
          number_7 = λ _. (omega arith, e);
          number_0 = λ k. absurd (k refl);
        }

    long_full : (h : List ℕ) (a : Answer S) (b : ℕ) (bs : List ℕ) (o : Out S) → a.number ≡ 0 → length a.bytes ≤ w → length a.marks ≤ m
        → Since f h₀ h a → next a.after b ≡ some o → fits w m a o ≡ false → Long w m h₀ h a (b ∷ bs) a
    long_full h a b bs o z hb hm q e d =
        record {
          count = 0;
          few = zero-le;
          taken = sym (add-zero a.taken);
          accepted = refl;
          bytes_fit = hb;
          marks_fit = hm;
          since = since_here h a q;
          longest = λ n. elim n as (AtMost w m h₀ h a.after (b ∷ bs) 0)
              [ zero ↦ λ _ _ _ _. zero-le | suc n ↦ λ _ k x y. absurd (over n k x y) ];
          number_7 = λ k. let x : ⊥ = omega arith in absurd x;
          number_0 = λ _. (z, λ _ k. absurd (let u : ◌≡◌ {A = ℕ} 0 1 = cc in omega arith));
        }
      where
        over : (n : ℕ) → accepts next a.after (b ∷ take n bs) ≡ true → length (rule (h ++ b ∷ take n bs)).bytes ≤ length (rule h₀).bytes + w
            → length (rule (h ++ b ∷ take n bs)).ends ≤ length (rule h₀).ends + m → ⊥
        over n k x y =
            let s' = since_more f h₀ h a b o e q in
            let z' = sizes h₀ (h ++ b ∷ []) (took a o) s' in
            let st : (rule (h ++ b ∷ [])).state ≡ o.after = ap (λ (v : Seen S). v.state) s'.seen_is in
            let acc : accepts next (rule (h ++ b ∷ [])).state (take n bs) ≡ true =
            ap (λ (s : S). accepts next s (take n bs)) st
            ∙ ap (λ (r : Option (Out S)). accepts_by r (λ o. accepts next o.after (take n bs))) (sym e) ∙ k in
            let l = longer (h ++ b ∷ []) (take n bs) acc in
            let j : (h ++ b ∷ []) ++ take n bs ≡ h ++ b ∷ take n bs = append_snoc h b (take n bs) in
            let x' : length (rule ((h ++ b ∷ []) ++ take n bs)).bytes ≤ length (rule h₀).bytes + w =
            subst⁻¹ (λ (u : List ℕ). length (rule u).bytes ≤ length (rule h₀).bytes + w) j x in
            let y' : length (rule ((h ++ b ∷ []) ++ take n bs)).ends ≤ length (rule h₀).ends + m =
            subst⁻¹ (λ (u : List ℕ). length (rule u).ends ≤ length (rule h₀).ends + m) j y in
            let zb : length (rule (h ++ b ∷ [])).bytes ≡ length (rule h₀).bytes + (length a.bytes + length o.bytes) =
            z'.0 ∙ ap (λ (u : ℕ). length (rule h₀).bytes + u) (length-append a.bytes o.bytes) in
            let zm : length (rule (h ++ b ∷ [])).ends ≡ length (rule h₀).ends + (length a.marks + length (marked o.mark a.bytes)) =
            z'.1 ∙ ap (λ (u : ℕ). length (rule h₀).ends + u) (length-append a.marks (marked o.mark a.bytes)) in
            false≢true (sym d ∙ ap₂ ◌&&◌ (le-leb (length a.bytes + length o.bytes) w (omega (arith, l.0, zb)))
            (le-leb (length a.marks + length (marked o.mark a.bytes)) m (omega (arith, l.1, zm))))

    long_takes : (h : List ℕ) (a : Answer S) (b : ℕ) (bs : List ℕ) (o : Out S) (r : Answer S) → next a.after b ≡ some o
        → Long w m h₀ (h ++ b ∷ []) (took a o) bs r → Long w m h₀ h a (b ∷ bs) r
    long_takes h a b bs o r e l =
        record {
          count = suc l.count;
          few = omega (arith, l.few);
          taken = l.taken ∙ omega arith;
          accepted = ap (λ (x : Option (Out S)). accepts_by x (λ o. accepts next o.after (take l.count bs))) e ∙ l.accepted;
          bytes_fit = l.bytes_fit;
          marks_fit = l.marks_fit;
          since = subst (λ (u : List ℕ). Since f h₀ u r) (append_snoc h b (take l.count bs)) l.since;
          longest = λ n. elim n as (AtMost w m h₀ h a.after (b ∷ bs) (suc l.count))
              [ zero ↦ λ _ _ _ _. zero-le | suc n ↦ λ k acc x y. more n k acc x y ];
          number_7 = λ z. let p = l.number_7 z in (omega (arith, p.0), p.1);
          number_0 = λ z. let p = l.number_0 z in (p.0, λ k. p.1 (omega arith));
        }
      where
        more : (n : ℕ) → AtMost w m h₀ h a.after (b ∷ bs) (suc l.count) (suc n)
        more n k acc x y =
            let j : (h ++ b ∷ []) ++ take n bs ≡ h ++ b ∷ take n bs = append_snoc h b (take n bs) in
            let i = l.longest n (omega arith) (ap (λ (u : Option (Out S)). accepts_by u (λ o. accepts next o.after (take n bs))) (sym e) ∙ acc)
            (subst⁻¹ (λ (u : List ℕ). length (rule u).bytes ≤ length (rule h₀).bytes + w) j x)
            (subst⁻¹ (λ (u : List ℕ). length (rule u).ends ≤ length (rule h₀).ends + m) j y) in
            omega arith

    long : (h : List ℕ) (a : Answer S) (bs : List ℕ) → a.number ≡ 0 → length a.bytes ≤ w → length a.marks ≤ m → Since f h₀ h a
        → Long w m h₀ h a bs (run next w m a bs)
    long h a [] z hb hm q = subst⁻¹ (Long w m h₀ h a []) (run_ends next w m a) (long_end h a z hb hm q)
    long h a (b ∷ bs) z hb hm q = go (next a.after b) refl (λ o e x y. long (h ++ b ∷ []) (took a o) bs z x y (since_more f h₀ h a b o e q))
      where
        go : (r : Option (Out S)) → next a.after b ≡ r
            → ((o : Out S) → next a.after b ≡ some o → length (a.bytes ++ o.bytes) ≤ w → length (a.marks ++ marked o.mark a.bytes) ≤ m
            → Long w m h₀ (h ++ b ∷ []) (took a o) bs (run next w m (took a o) bs))
            → Long w m h₀ h a (b ∷ bs) (run next w m a (b ∷ bs))
        go none e ih = subst⁻¹ (Long w m h₀ h a (b ∷ bs)) (run_forbidden next w m a b bs e) (long_forbidden h a b bs hb hm q e)
        go (some o) e ih = fit (fits w m a o) refl
          where
            fit : (c : Bool) → fits w m a o ≡ c → Long w m h₀ h a (b ∷ bs) (run next w m a (b ∷ bs))
            fit false d = subst⁻¹ (Long w m h₀ h a (b ∷ bs)) (run_stops next w m a b bs o e d) (long_full h a b bs o z hb hm q e d)
            fit true d =
                let x =
                leb-true (length a.bytes + length o.bytes) w
                (and_left (leb (length a.bytes + length o.bytes) w) (leb (length a.marks + length (marked o.mark a.bytes)) m) d) in
                let y =
                leb-true (length a.marks + length (marked o.mark a.bytes)) m
                (and_right (leb (length a.bytes + length o.bytes) w) (leb (length a.marks + length (marked o.mark a.bytes)) m) d) in
                subst⁻¹ (Long w m h₀ h a (b ∷ bs)) (run_takes next w m a b bs o e d)
                (long_takes h a b bs o (run next w m (took a o) bs) e
                (ih o e (subst⁻¹ (λ (n : ℕ). n ≤ w) (length-append a.bytes o.bytes) x)
                (subst⁻¹ (λ (n : ℕ). n ≤ m) (length-append a.marks (marked o.mark a.bytes)) y)))

  -- A PUSH TAKES THE LONGEST FRONT THAT IT MAY
  pub push_longest : (h chunk : List ℕ) (w m : ℕ) → Longest next rule h chunk w m (push_of next 0 (rule h).state chunk w m)
  unfolding push_of
  push_longest h chunk w m =
      let a = run next w m (answers 0 (rule h).state) chunk in
      let l = long w m h h (answers 0 (rule h).state) chunk refl zero-le zero-le (since_none f h 0 (rule h).state refl) in
      let e : a.taken ≡ l.count = omega (arith, l.taken) in
      let z = sizes h (h ++ take l.count chunk) a l.since in
      rw e
      (record {
        few = l.few;
        accepted = l.accepted;
        fit = record { bytes_fit = omega (arith, z.0, l.bytes_fit); ends_fit = omega (arith, z.1, l.marks_fit) };
        longest = λ n k acc x. l.longest n k acc x.bytes_fit x.ends_fit;
        number_7 = l.number_7;
        number_0 = l.number_0;
      })

  -- ONE PUSH FROM THE START takes a whole list and hands out what the rule gives for it, wherever no byte is forbidden and the rooms hold that
  pub whole_push : (chunk : List ℕ) (w m : ℕ) → accepts next s₀ chunk ≡ true → length (rule chunk).bytes ≤ w → length (rule chunk).ends ≤ m
      → push_of next 0 s₀ chunk w m ≡ came_to (length chunk) (rule chunk).state (rule chunk).bytes (rule chunk).ends
  whole_push chunk w m acc fb fe =
      let new = f.new in
      let start : (rule []).state ≡ s₀ = ap (λ (v : Seen S). v.state) new in
      let no_bytes : (rule []).bytes ≡ [] = ap (λ (v : Seen S). v.bytes) new in
      let no_ends : (rule []).ends ≡ [] = ap (λ (v : Seen S). v.ends) new in
      let a = push_of next 0 s₀ chunk w m in
      let l : Longest next rule [] chunk w m a =
      subst (λ (s : S). Longest next rule [] chunk w m (push_of next 0 s chunk w m)) start (push_longest [] chunk w m) in
      let whole : take (length chunk) chunk ≡ chunk = take-length chunk in
      let least : length chunk ≤ a.taken =
      l.longest (length chunk) (le_refl _) (ap₂ (accepts next) start whole ∙ acc)
      (rw whole (record { bytes_fit = omega (arith, fb); ends_fit = omega (arith, fe) })) in
      let all : a.taken ≡ length chunk = omega (arith, l.few) in
      let no_7 : a.number ≡ 0 = (l.number_0 (λ z. let k = l.number_7 z in let x : ⊥ = omega (arith, k.0) in x)).0 in
      let e : rule chunk ≡ seen a.after ((rule []).bytes ++ a.bytes) ((rule []).ends ++ shifted (length (rule []).bytes) a.marks) =
      ap rule (sym whole ∙ ap (λ (n : ℕ). take n chunk) (sym all)) ∙ (pushed_since f [] chunk s₀ 0 w m start).seen_is in
      let here : rule chunk ≡ seen a.after a.bytes a.marks =
      e
      ∙ ap₂ (λ (x y : List ℕ). seen a.after (x ++ a.bytes) (y ++ shifted (length x) a.marks)) no_bytes no_ends
      ∙ ap (seen a.after a.bytes) (shifted_none a.marks) in
      λ i. record { number = no_7 i; taken = all i; bytes = (sym here i).bytes; marks = (sym here i).ends; after = (sym here i).state }
