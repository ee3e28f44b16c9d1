-- What pushes took holds no forbidden byte; and enough room takes everything up to one.
use Prim.Native.Nat.{ℕ, zero, suc, ◌+◌, ◌*◌, ◌≤◌, ◌<◌}
use native.Mathlib.Omega.{arith}
use native.Mathlib.Nat.{mul-suc, mul-le-mul_left}
use lib.Dec.{ltb}
use mathlib.Core.Path.{◌≡◌, refl, ap, sym, ◌∙◌, subst}
use mathlib.Core.Bool.{Bool, true, false, false≢true}
use mathlib.Core.List.{List, [], ◌∷◌, ◌++◌, append-nil}
use mathlib.Core.Option.{Option, none, some}
use lib.ListN.{length, take, drop, get_or, length-append, length-take}
use lib.Seq.{append_snoc, take-suc}
use borrow.Author.Tests.{ltb-true, ltb-false}
use Rattle.desk.specs.Push.{Out, Next, Entry, Answer, marked, push_of, Pushes, Seen, Follows, accepts_by, accepts, Longest}
use Rattle.desk.proofs.Cutting.{taken_front, pushed_few, pushed_since, pushes_cut}
use Rattle.desk.proofs.Taking.{push_refused, push_entered, push_longest}

module _ {S : Type 0} {next : Next S} {s₀ : S} {rule : List ℕ → Seen S} (f : Follows next s₀ rule) where
  accepts_append : (h₀ h c : List ℕ) → accepts next (rule h₀).state h ≡ true → accepts next (rule (h₀ ++ h)).state c ≡ true
      → accepts next (rule h₀).state (h ++ c) ≡ true
  accepts_append h₀ [] c p q = ap (λ (l : List ℕ). accepts next (rule l).state c) (sym (append-nil h₀)) ∙ q
  accepts_append h₀ (b ∷ h) c p q =
      go (next (rule h₀).state b) refl p
      (λ a. accepts_append (h₀ ++ b ∷ []) h c a (ap (λ (l : List ℕ). accepts next (rule l).state c) (append_snoc h₀ b h) ∙ q))
    where
      go : (r : Option (Out S)) → next (rule h₀).state b ≡ r → accepts_by r (λ o. accepts next o.after h) ≡ true
          → (accepts next (rule (h₀ ++ b ∷ [])).state h ≡ true → accepts next (rule (h₀ ++ b ∷ [])).state (h ++ c) ≡ true)
          → accepts_by r (λ o. accepts next o.after (h ++ c)) ≡ true
      go none e a ih = a
      go (some o) e a ih =
          let st : (rule (h₀ ++ b ∷ [])).state ≡ o.after = ap (λ (v : Seen S). v.state) (f.more h₀ b o e) in
          ap (λ (s : S). accepts next s (h ++ c)) (sym st) ∙ ih (ap (λ (s : S). accepts next s h) st ∙ a)

  push_accepted : (h chunk : List ℕ) (entry w m : ℕ)
      → accepts next (rule h).state (take (push_of next entry (rule h).state chunk w m).taken chunk) ≡ true
  push_accepted h chunk zero w m = (push_longest f h chunk w m).accepted
  push_accepted h chunk (suc n) w m =
      ap (λ (k : ℕ). accepts next (rule h).state (take k chunk))
      (ap (λ (a : Answer S). a.taken) (push_refused next (suc n) (rule h).state chunk w m (λ e. let x : ⊥ = omega arith in x)))

  accepted_more : {entry : Entry S} {stream : List ℕ} {n : ℕ} {s : S} {given ends : List ℕ} → Pushes next entry s₀ stream n s given ends
      → accepts next (rule []).state (take n stream) ≡ true
      → (e k w m taken : ℕ) → taken ≡ (push_of next e s (take k (drop n stream)) w m).taken
      → accepts next (rule []).state (take (n + taken) stream) ≡ true
  accepted_more {entry} {stream} {n} {s} p acc e k w m taken q =
      let chunk = take k (drop n stream) in
      let st : (rule (take n stream)).state ≡ s = ap (λ (v : Seen S). v.state) (pushes_cut f p).rule_gives in
      let few = pushed_few f (take n stream) chunk s e w m st in
      let here : accepts next (rule (take n stream)).state (take taken chunk) ≡ true =
      ap (λ (x : ℕ). accepts next (rule (take n stream)).state (take x chunk)) q
      ∙ ap (λ (x : S). accepts next (rule (take n stream)).state (take (push_of next e x chunk w m).taken chunk)) (sym st)
      ∙ push_accepted (take n stream) chunk e w m in
      ap (accepts next (rule []).state) (sym (taken_front n k taken stream (omega arith)))
      ∙ accepts_append [] (take n stream) (take taken chunk) acc here

  -- WHAT PUSHES TOOK holds no forbidden byte
  pub pushes_accepted : {entry : Entry S} {stream : List ℕ} {n : ℕ} {s : S} {given ends : List ℕ} → Pushes next entry s₀ stream n s given ends
      → accepts next (rule []).state (take n stream) ≡ true
  pushes_accepted Pushes.none_yet = refl
  pushes_accepted (Pushes.one_more p k out marks out' marks' number taken wrote marked_n s' o) =
      accepted_more p (pushes_accepted p) _ k (length out) (length marks) taken o.taken_is

  -- ---- where each byte releases at most c bytes and d marks, enough room takes everything up to a forbidden byte

  module _ (c d : ℕ) (each : (s : S) (b : ℕ) (o : Out S) → next s b ≡ some o → (length o.bytes ≤ c) × (length (marked o.mark []) ≤ d)) where
    grows_by : (h t : List ℕ) → accepts next (rule h).state t ≡ true
        → (length (rule (h ++ t)).bytes ≤ length (rule h).bytes + c * length t)
        × (length (rule (h ++ t)).ends ≤ length (rule h).ends + d * length t)
    grows_by h [] e =
        let q = ap rule (append-nil h) in
        (omega (arith, ap (λ (v : Seen S). length v.bytes) q), omega (arith, ap (λ (v : Seen S). length v.ends) q))
    grows_by h (b ∷ t) e = go (next (rule h).state b) refl e (λ k. grows_by (h ++ b ∷ []) t k)
      where
        go : (r : Option (Out S)) → next (rule h).state b ≡ r → accepts_by r (λ o. accepts next o.after t) ≡ true
            → (accepts next (rule (h ++ b ∷ [])).state t ≡ true
            → (length (rule ((h ++ b ∷ []) ++ t)).bytes ≤ length (rule (h ++ b ∷ [])).bytes + c * length t)
            × (length (rule ((h ++ b ∷ []) ++ t)).ends ≤ length (rule (h ++ b ∷ [])).ends + d * length t))
            → (length (rule (h ++ b ∷ t)).bytes ≤ length (rule h).bytes + c * suc (length t))
            × (length (rule (h ++ b ∷ t)).ends ≤ length (rule h).ends + d * suc (length t))
        go none q k ih = absurd (false≢true k)
        go (some o) q k ih =
            let m = f.more h b o q in
            let i = ih (ap (λ (v : Seen S). accepts next v.state t) m ∙ k) in
            let one = each (rule h).state b o q in
            let g : length (rule (h ++ b ∷ [])).bytes ≡ length (rule h).bytes + length o.bytes =
            ap (λ (v : Seen S). length v.bytes) m ∙ length-append (rule h).bytes o.bytes in
            let n : length (rule (h ++ b ∷ [])).ends ≡ length (rule h).ends + length (marked o.mark []) =
            ap (λ (v : Seen S). length v.ends) m ∙ length-append (rule h).ends _
            ∙ ap (λ (x : ℕ). length (rule h).ends + x) (marks_same o.mark (rule h).bytes) in
            subst (λ (l : List ℕ). (length (rule l).bytes ≤ length (rule h).bytes + c * suc (length t))
            × (length (rule l).ends ≤ length (rule h).ends + d * suc (length t))) (append_snoc h b t)
            (omega (arith, i.0, g, one.0, mul-suc c (length t)), omega (arith, i.1, n, one.1, mul-suc d (length t)))
          where
            marks_same : (x : Bool) (l : List ℕ) → length (marked x l) ≡ length (marked x [])
            marks_same true l = refl
            marks_same false l = refl

    takes_up_to : (h chunk : List ℕ) (w m : ℕ) → c * length chunk ≤ w → d * length chunk ≤ m → (push_of next 0 (rule h).state chunk w m).number ≡ 0
        → (push_of next 0 (rule h).state chunk w m).taken ≡ length chunk
    takes_up_to h chunk w m cw dm z = go (ltb (push_of next 0 (rule h).state chunk w m).taken (length chunk)) refl
      where
        l : Longest next rule h chunk w m (push_of next 0 (rule h).state chunk w m)
        l = push_longest f h chunk w m

        -- one byte more would be taken too
        more : (t : ℕ) → t ≡ (push_of next 0 (rule h).state chunk w m).taken → t < length chunk → (r : Option (Out S))
            → next (rule (h ++ take t chunk)).state (get_or chunk t 0) ≡ r → (r ≡ none → ⊥) → suc t ≤ (push_of next 0 (rule h).state chunk w m).taken
        more t e k none q n = absurd (n refl)
        more t e k (some o) q n =
            let front : take (suc t) chunk ≡ take t chunk ++ get_or chunk t 0 ∷ [] = take-suc chunk t 0 k in
            let acc : accepts next (rule h).state (take (suc t) chunk) ≡ true =
            ap (accepts next (rule h).state) front
            ∙ accepts_append h (take t chunk) (get_or chunk t 0 ∷ []) (ap (λ (x : ℕ). accepts next (rule h).state (take x chunk)) e ∙ l.accepted)
            (ap (λ (x : Option (Out S)). accepts_by x (λ _. true)) q) in
            let g = grows_by h (take (suc t) chunk) acc in
            let few : length (take (suc t) chunk) ≤ length chunk = omega (arith, length-take (suc t) chunk) in
            l.longest (suc t) k acc
            (record { bytes_fit = omega (arith, g.0, mul-le-mul_left c few); ends_fit = omega (arith, g.1, mul-le-mul_left d few) })

        go : (x : Bool) → ltb (push_of next 0 (rule h).state chunk w m).taken (length chunk) ≡ x
            → (push_of next 0 (rule h).state chunk w m).taken ≡ length chunk
        go false q = omega (arith, l.few, ltb-false (push_of next 0 (rule h).state chunk w m).taken (length chunk) q)
        go true q =
            let k = ltb-true (push_of next 0 (rule h).state chunk w m).taken (length chunk) q in
            let st : (rule (h ++ take (push_of next 0 (rule h).state chunk w m).taken chunk)).state ≡ (push_of next 0 (rule h).state chunk w m).after =
            ap (λ (v : Seen S). v.state) (pushed_since f h chunk (rule h).state 0 w m refl).seen_is in
            let n = (l.number_0 (λ s. let x : ⊥ = omega (arith, z) in x)).1 k in
            let o =
            more (push_of next 0 (rule h).state chunk w m).taken refl k _ refl
            (λ e. n (ap (λ (s : S). next s (get_or chunk (push_of next 0 (rule h).state chunk w m).taken 0)) (sym st) ∙ e)) in
            let x : ⊥ = omega (arith, o) in absurd x

    -- A PUSH THAT ANSWERS 0, with room for all, takes all
    pub enough_room : (h chunk : List ℕ) (e w m : ℕ) → c * length chunk ≤ w → d * length chunk ≤ m
        → (push_of next e (rule h).state chunk w m).number ≡ 0 → (push_of next e (rule h).state chunk w m).taken ≡ length chunk
    enough_room h chunk e w m cw dm z =
        let same = ap (λ (k : ℕ). push_of next k (rule h).state chunk w m) (push_entered next e (rule h).state chunk w m z) in
        ap (λ (a : Answer S). a.taken) same ∙ takes_up_to h chunk w m cw dm (ap (λ (a : Answer S). a.number) (sym same) ∙ z)
