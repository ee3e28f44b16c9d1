-- THERE IS A WAY: rooms that hold what a byte releases take a whole stream that holds no forbidden byte. For every reader and writer whose step
-- gives its rule.
use Prim.Native.Nat.{ℕ, ◌+◌, ◌≤◌}
use native.Mathlib.Omega.{arith}
use mathlib.Core.Path.{◌≡◌, refl, ap, sym, ◌∙◌, subst}
use mathlib.Core.Bool.{true, false≢true}
use mathlib.Core.List.{List, [], ◌∷◌, ◌++◌, append-nil}
use mathlib.Core.Option.{Option, none, some}
use lib.ListN.{length, take, drop, length-append}
use lib.Seq.{append_snoc, take_at, drop_at}
use Rattle.desk.specs.Room.{with_front}
use Rattle.desk.specs.Push.{Out, Next, Entry, Answer, marked, push_of, push_by, Gives, Pushes, Seen, Follows, accepts_by, accepts, Way}
use Rattle.desk.proofs.Cutting.{pushed_few, pushes_cut}
use Rattle.desk.proofs.Taking.{takes_first}

-- AN OUTCOME OF EVERY ANSWER: it returns what the answer says, and writes that into the rooms
pub an_outcome : {S : Type 0} (a : Answer S) (out marks : List ℕ)
    → Gives a out marks (with_front out a.bytes) (with_front marks a.marks)
    a.number a.taken (length a.bytes) (length a.marks) a.after
an_outcome a out marks =
    record { number_is = refl; taken_is = refl; wrote_is = refl; marked_is = refl; state_is = refl; room = refl; mark_room = refl }

module _ {S : Type 0} {next : Next S} {s₀ : S} {rule : List ℕ → Seen S} (f : Follows next s₀ rule) (entry : Entry S) (stream out marks : List ℕ)
    (passes : (h : List ℕ) → entry (rule h).state 1 (length out) (length marks) ≡ 0)
    (each : (h : List ℕ) (b : ℕ) (o : Out S) → next (rule h).state b ≡ some o
    → (length o.bytes ≤ length out) × (length (marked o.mark []) ≤ length marks))
  where
    abbrev WayTo : ℕ → Type 0
    WayTo n = Way next entry s₀ stream n (length out) (length marks)

    -- a push of one byte more
    one_byte : (h : List ℕ) (b : ℕ) (t : List ℕ) → h ++ b ∷ t ≡ stream → (o : Out S) → next (rule h).state b ≡ some o
        → WayTo (length h) → WayTo (length (h ++ b ∷ []))
    one_byte h b t e o q v =
        let s = v.state in
        let chunk = take 1 (drop (length h) stream) in
        let is : chunk ≡ b ∷ [] = ap (λ (l : List ℕ). take 1 (drop (length h) l)) (sym e) ∙ ap (take 1) (drop_at h (b ∷ t) (length h) refl) in
        let front : take (length h) stream ≡ h = ap (take (length h)) (sym e) ∙ take_at h (b ∷ t) (length h) refl in
        let st : (rule h).state ≡ s =
        ap (λ (l : List ℕ). (rule l).state) (sym front) ∙ ap (λ (x : Seen S). x.state) (pushes_cut f v.pushes).rule_gives in
        let a = push_by next entry s chunk (length out) (length marks) in
        let room = each h b o q in
        let first : 1 ≤ (push_of next 0 s (b ∷ []) (length out) (length marks)).taken =
        takes_first next s b [] (length out) (length marks) o (ap (λ (x : S). next x b) (sym st) ∙ q) room.0 room.1 in
        let enters : entry s (length (b ∷ [])) (length out) (length marks) ≡ 0 =
        ap (λ (x : S). entry x 1 (length out) (length marks)) (sym st) ∙ passes h in
        let same : a.taken ≡ (push_of next 0 s (b ∷ []) (length out) (length marks)).taken =
        ap (λ (l : List ℕ). (push_by next entry s l (length out) (length marks)).taken) is
        ∙ ap (λ (k : ℕ). (push_of next k s (b ∷ []) (length out) (length marks)).taken) enters in
        let few : (push_of next 0 s (b ∷ []) (length out) (length marks)).taken ≤ 1 = pushed_few f h (b ∷ []) s 0 (length out) (length marks) st in
        let one : length h + a.taken ≡ length (h ++ b ∷ []) = simp length-append (omega arith) in
        subst WayTo one
        (record {
          state = a.after;
          given = v.given ++ take (length a.bytes) (with_front out a.bytes);
          ends = _;
          pushes = Pushes.one_more v.pushes 1 out marks _ _ _ _ _ _ _ (an_outcome a out marks);
          lent = (refl, refl, v.lent);
        })

    to_the_end : (h t : List ℕ) → h ++ t ≡ stream → accepts next (rule h).state t ≡ true → WayTo (length h) → WayTo (length stream)
    to_the_end h [] e acc v = subst WayTo (ap length (sym (append-nil h) ∙ e)) v
    to_the_end h (b ∷ t) e acc v = go (next (rule h).state b) refl acc (λ a u. to_the_end (h ++ b ∷ []) t (append_snoc h b t ∙ e) a u)
      where
        go : (r : Option (Out S)) → next (rule h).state b ≡ r → accepts_by r (λ o. accepts next o.after t) ≡ true
            → (accepts next (rule (h ++ b ∷ [])).state t ≡ true → WayTo (length (h ++ b ∷ [])) → WayTo (length stream)) → WayTo (length stream)
        go none q a ih = absurd (false≢true a)
        go (some o) q a ih = ih (ap (λ (x : Seen S). accepts next x.state t) (f.more h b o q) ∙ a) (one_byte h b t e o q v)

    -- byte by byte, with these rooms each time
    pub way : accepts next s₀ stream ≡ true → Way next entry s₀ stream (length stream) (length out) (length marks)
    way acc =
        let start : (rule []).state ≡ s₀ = ap (λ (v : Seen S). v.state) f.new in
        to_the_end [] stream refl (ap (λ (x : S). accepts next x stream) start ∙ acc)
        (record { state = s₀; given = []; ends = []; pushes = Pushes.none_yet; lent = tt })
