-- However a stream is cut into pushes, what is handed out is what the rule gives for the bytes taken. For every reader and writer whose step gives
-- its rule.
use Prim.Native.Nat.{ℕ, suc, ◌+◌, ◌-◌, ◌≤◌, zero-le, min}
use native.Mathlib.Omega.{arith}
use native.Mathlib.Nat.{add-zero, zero-add}
use lib.Dec.{eqb}
use mathlib.Core.Path.{◌≡◌, refl, ap, ap₂, sym, ◌∙◌, subst⁻¹}
use mathlib.Core.Bool.{Bool, true, false, cond}
use mathlib.Core.List.{List, [], ◌∷◌, ◌++◌, append_assoc, append-nil, map-append}
use mathlib.Core.Option.{Option, none, some}
use lib.ListN.{length, take, drop, length-append, length-drop, length-take}
use lib.Seq.{append_snoc, take-take, take-add}
use Rattle.desk.specs.Push.{Out, Next, Entry, Answer, answers, marked, took, fits, run, push_of, Gives, shifted, Pushes, Seen, seen, Follows}
use Rattle.desk.specs.Push.{Cut}
use Rattle.desk.proofs.Choice.{cond_by}
use Rattle.desk.proofs.Room.{front, with_front_at_least}
use Rattle.desk.proofs.Pushing.{run_ends, run_takes, run_stops, run_forbidden}

shifted_mark : (k : ℕ) (c : Bool) (l : List ℕ) → shifted k (marked c l) ≡ cond c ((k + length l) ∷ []) []
shifted_mark k true l = refl
shifted_mark k false l = refl

marked_by : (c : Bool) (l : List ℕ) (k : ℕ) → length l ≡ k → marked c l ≡ cond c (k ∷ []) []
marked_by c l k e = ap (λ (n : ℕ). cond c (n ∷ []) []) e

pub shifted_none : (l : List ℕ) → shifted 0 l ≡ l
shifted_none [] = refl
shifted_none (x ∷ l) = ap₂ {C = List ℕ} ◌∷◌ (zero-add x) (shifted_none l)

-- what a call wrote, read off its rooms
module _ {S : Type 0} {a : Answer S} {out marks out' marks' : List ℕ} {number taken wrote marked_n : ℕ} {s : S}
    (g : Gives a out marks out' marks' number taken wrote marked_n s) where
  pub gave_bytes : take wrote out' ≡ a.bytes
  gave_bytes = ap₂ take g.wrote_is g.room ∙ front out a.bytes

  pub gave_marks : take marked_n marks' ≡ a.marks
  gave_marks = ap₂ take g.marked_is g.mark_room ∙ front marks a.marks

  pub gave_marks_fit : marked_n ≤ length marks'
  gave_marks_fit = rw (g.mark_room, g.marked_is) (with_front_at_least marks a.marks)

-- what was taken of a push's chunk is the stream's next bytes
pub taken_front : (n k taken : ℕ) (stream : List ℕ) → taken ≤ length (take k (drop n stream))
    → take n stream ++ take taken (take k (drop n stream)) ≡ take (n + taken) stream
taken_front n k taken stream h =
    let lens : length (take k (drop n stream)) ≡ min k (length stream - n) = length-take k (drop n stream) ∙ ap (min k) (length-drop n stream) in
    ap (λ (l : List ℕ). take n stream ++ l) (take-take taken k (drop n stream) (omega arith)) ∙ sym (take-add n taken stream)

module _ {S : Type 0} {next : Next S} {s₀ : S} {rule : List ℕ → Seen S} (f : Follows next s₀ rule) where
  -- what a call handed out is what the rule gives for the bytes h, beyond what it gives for h₀
  pub record Since (h₀ h : List ℕ) (a : Answer S) : Type 0 where
    pub seen_is : rule h ≡ seen a.after ((rule h₀).bytes ++ a.bytes) ((rule h₀).ends ++ shifted (length (rule h₀).bytes) a.marks)

  pub since_none : (h : List ℕ) (n : ℕ) (s : S) → (rule h).state ≡ s → Since h h (answers n s)
  since_none h n s e = record { seen_is = λ i. seen (e i) (sym (append-nil (rule h).bytes) i) (sym (append-nil (rule h).ends) i) }

  pub since_more : (h₀ h : List ℕ) (a : Answer S) (b : ℕ) (o : Out S) → next a.after b ≡ some o → Since h₀ h a → Since h₀ (h ++ b ∷ []) (took a o)
  since_more h₀ h a b o q w =
      let e = w.seen_is in
      let g : (rule h).bytes ≡ (rule h₀).bytes ++ a.bytes = ap (λ (v : Seen S). v.bytes) e in
      let n : length (rule h).bytes ≡ length (rule h₀).bytes + length a.bytes = ap length g ∙ length-append (rule h₀).bytes a.bytes in
      let m : (rule h).ends ++ marked o.mark (rule h).bytes ≡ (rule h₀).ends ++ shifted (length (rule h₀).bytes)
      (a.marks ++ marked o.mark a.bytes) =
      ap₂ ◌++◌ (ap (λ (v : Seen S). v.ends) e)
      (marked_by o.mark (rule h).bytes (length (rule h₀).bytes + length a.bytes) n
      ∙ sym (shifted_mark (length (rule h₀).bytes) o.mark a.bytes))
      ∙ append_assoc (rule h₀).ends (shifted (length (rule h₀).bytes) a.marks) _
      ∙ ap (λ (l : List ℕ). (rule h₀).ends ++ l)
      (sym (map-append (λ (x : ℕ). length (rule h₀).bytes + x) a.marks (marked o.mark a.bytes))) in
      let y : (rule h).bytes ++ o.bytes ≡ (rule h₀).bytes ++ (a.bytes ++ o.bytes) =
      ap (λ (l : List ℕ). l ++ o.bytes) g ∙ append_assoc (rule h₀).bytes a.bytes o.bytes in
      record { seen_is = f.more h b o (ap (λ (v : Seen S). next v.state b) e ∙ q) ∙ (λ i. seen o.after (y i) (m i)) }

  -- a run takes some bytes, and hands out what the rule gives for them
  record Ran (w m : ℕ) (h₀ h : List ℕ) (a : Answer S) (bs : List ℕ) (r : Answer S) : Type 0 where
    count : ℕ
    few : count ≤ length bs
    taken : r.taken ≡ a.taken + count
    since : Since h₀ (h ++ take count bs) r

  ran_none : (w m : ℕ) (h₀ h : List ℕ) (a : Answer S) (bs : List ℕ) (n : ℕ) → Since h₀ h a
      → Ran w m h₀ h a bs (record { number = n; taken = a.taken; bytes = a.bytes; marks = a.marks; after = a.after })
  ran_none w m h₀ h a bs n q =
      record { count = 0; few = zero-le; taken = sym (add-zero a.taken); since = record { seen_is = ap rule (append-nil h) ∙ q.seen_is } }

  ran : (w m : ℕ) (h₀ h : List ℕ) (a : Answer S) (bs : List ℕ) → Since h₀ h a → Ran w m h₀ h a bs (run next w m a bs)
  ran w m h₀ h a [] q = subst⁻¹ (Ran w m h₀ h a []) (run_ends next w m a) (ran_none w m h₀ h a [] a.number q)
  ran w m h₀ h a (b ∷ bs) q = go (next a.after b) refl (λ o e. ran w m h₀ (h ++ b ∷ []) (took a o) bs (since_more h₀ h a b o e q))
    where
      go : (r : Option (Out S)) → next a.after b ≡ r
          → ((o : Out S) → next a.after b ≡ some o → Ran w m h₀ (h ++ b ∷ []) (took a o) bs (run next w m (took a o) bs))
          → Ran w m h₀ h a (b ∷ bs) (run next w m a (b ∷ bs))
      go none e ih = subst⁻¹ (Ran w m h₀ h a (b ∷ bs)) (run_forbidden next w m a b bs e) (ran_none w m h₀ h a (b ∷ bs) 7 q)
      go (some o) e ih = fit (fits w m a o) refl
        where
          fit : (c : Bool) → fits w m a o ≡ c → Ran w m h₀ h a (b ∷ bs) (run next w m a (b ∷ bs))
          fit false d = subst⁻¹ (Ran w m h₀ h a (b ∷ bs)) (run_stops next w m a b bs o e d) (ran_none w m h₀ h a (b ∷ bs) a.number q)
          fit true d =
              let r = ih o e in
              subst⁻¹ (Ran w m h₀ h a (b ∷ bs)) (run_takes next w m a b bs o e d)
              (record {
                count = suc r.count;
                few = omega (arith, r.few);
                taken = r.taken
                    ∙ omega arith;
                since = record { seen_is = ap rule (sym (append_snoc h b (take r.count bs))) ∙ r.since.seen_is };
              })

  -- a push from the state of h, refused or not
  record Pushing (h chunk : List ℕ) (a : Answer S) : Type 0 where
    few : a.taken ≤ length chunk
    since : Since h (h ++ take a.taken chunk) a

  pushing : (h chunk : List ℕ) (s : S) (entry w m : ℕ) → (rule h).state ≡ s → Pushing h chunk (push_of next entry s chunk w m)
  unfolding push_of
  pushing h chunk s entry w m q =
      cond_by (Pushing h chunk) (eqb entry 0) (run next w m (answers 0 s) chunk) (answers entry s) (λ _. went) (λ _. refused)
    where
      refused : Pushing h chunk (answers entry s)
      refused = record { few = zero-le; since = record { seen_is = ap rule (append-nil h) ∙ (since_none h entry s q).seen_is } }

      went : Pushing h chunk (run next w m (answers 0 s) chunk)
      went =
          let r = ran w m h h (answers 0 s) chunk (since_none h 0 s q) in
          let e : (run next w m (answers 0 s) chunk).taken ≡ r.count = omega (arith, r.taken) in
          record {
            few = omega (arith, r.few);
            since = subst⁻¹ (λ (n : ℕ). Since h (h ++ take n chunk) (run next w m (answers 0 s) chunk)) e r.since;
          }

  -- what a push took and handed out, from the state of h
  pub pushed_few : (h chunk : List ℕ) (s : S) (entry w m : ℕ) → (rule h).state ≡ s → (push_of next entry s chunk w m).taken ≤ length chunk
  pushed_few h chunk s entry w m q = (pushing h chunk s entry w m q).few

  pub pushed_since : (h chunk : List ℕ) (s : S) (entry w m : ℕ) → (rule h).state ≡ s
      → Since h (h ++ take (push_of next entry s chunk w m).taken chunk) (push_of next entry s chunk w m)
  pushed_since h chunk s entry w m q = (pushing h chunk s entry w m q).since

  cut_more : {stream : List ℕ} {n : ℕ} {s : S} {given ends : List ℕ} → Cut rule stream n s given ends
      → (entry k : ℕ) (out marks out' marks' : List ℕ) (number taken wrote marked_n : ℕ) (s' : S)
      → Gives (push_of next entry s (take k (drop n stream)) (length out) (length marks)) out marks out' marks' number taken wrote marked_n s'
      → Cut rule stream (n + taken) s' (given ++ take wrote out') (ends ++ shifted (length given) (take marked_n marks'))
  cut_more {stream} {n} {s} {given} {ends} c entry k out marks out' marks' number taken wrote marked_n s' o =
      let h = take n stream in
      let chunk = take k (drop n stream) in
      let a = push_of next entry s chunk (length out) (length marks) in
      let e = c.rule_gives in
      let p = pushing h chunk s entry (length out) (length marks) (ap (λ (v : Seen S). v.state) e) in
      let few : taken ≤ length chunk = omega (arith, p.few, o.taken_is) in
      let lens : length chunk ≡ min k (length stream - n) = length-take k (drop n stream) ∙ ap (min k) (length-drop n stream) in
      let all : h ++ take a.taken chunk ≡ take (n + taken) stream =
      ap (λ (x : ℕ). h ++ take x chunk) (sym o.taken_is) ∙ taken_front n k taken stream few in
      let bytes : (rule h).bytes ++ a.bytes ≡ given ++ take wrote out' = ap₂ ◌++◌ (ap (λ (v : Seen S). v.bytes) e) (sym (gave_bytes o)) in
      let marks_e : (rule h).ends ++ shifted (length (rule h).bytes) a.marks ≡ ends ++ shifted (length given) (take marked_n marks') =
      ap₂ ◌++◌ (ap (λ (v : Seen S). v.ends) e) (ap₂ shifted (ap (λ (v : Seen S). length v.bytes) e) (sym (gave_marks o))) in
      record {
        within = omega (arith, c.within);
        rule_gives = ap rule (sym all) ∙ p.since.seen_is ∙ (λ i. seen (sym o.state_is i) (bytes i) (marks_e i));
      }

  -- AFTER EACH PUSH, HOWEVER THE STREAM IS CUT
  pub pushes_cut : {entry : Entry S} {stream : List ℕ} {n : ℕ} {s : S} {given ends : List ℕ} → Pushes next entry s₀ stream n s given ends
      → Cut rule stream n s given ends
  pushes_cut Pushes.none_yet = record { within = zero-le; rule_gives = f.new }
  pushes_cut (Pushes.one_more p k out marks out' marks' number taken wrote marked_n s' o) =
      cut_more (pushes_cut p) _ k out marks out' marks' number taken wrote marked_n s' o
