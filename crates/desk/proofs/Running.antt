-- The loop of `run`, by what the step and the piece writers ensure: one byte more, and where it stops. And a push, by its entry checks and the run.
use Prim.Native.Nat.{ℕ, zero, suc, ◌+◌, ◌-◌, ◌≤◌, ◌<◌}
use native.Mathlib.Omega.{arith}
use mathlib.Core.Path.{◌≡◌, refl, ap, sym, ◌∙◌, subst, subst⁻¹}
use mathlib.Core.Bool.{Bool, true, false}
use mathlib.Core.List.{List}
use mathlib.Core.Option.{none, some}
use lib.Dec.{ltb}
use lib.ListN.{length, take, get_or, length-append, length-replicate}
use lib.Seq.{length-take-le}
use mir.Val.{bool_byte}
use borrow.Author.Tests.{ltb-true, ltb-false}
use borrow.Rule.Slice.PartMut.{mid_of, put_mid}
use Rattle.std.specs.Prelude.{Result, Ok, Err, IsOk}
use Rattle.std.proofs.Common.{rules}
use Rattle.desk.specs.Refusing.{refusal_number}
use Rattle.desk.specs.Room.{with_front}
use Rattle.desk.specs.Push.{Next, Answer, answers, marked, push_of, run, Gives}
use Rattle.desk.specs.Steps.{released, mark_list, out_of, Runs, pushed_of, Gave}
use Rattle.desk.specs.declared.push.Pushed.{Pushed}
use Rattle.desk.specs.declared.push.Step.{Step}
use Rattle.desk.specs.declared.refusal.Refusal.{Refusal}
use Rattle.desk.specs.declared.refusal.Refusal.TheVariants.{TooLong, BadState}
use Rattle.desk.proofs.Pushing.{wrote, Going, going_more, gives, gives_refused, push_runs, stop_full, stop_full_marks, stop_forbidden}
use Rattle.desk.proofs.Refusing.{number_some}
use Rattle.desk.proofs.Room.{with_front_none}
use Rattle.desk.proofs.Taking.{push_refused, never_7}

-- so many bytes are released
pub released_count : (lead n b : ℕ) → length (released lead n b) ≡ n
released_count lead zero b = refl
released_count lead (suc n) b = simp (length-append, length-replicate) (omega arith)

mark_count : (c : Bool) (n : ℕ) → length (mark_list c n) ≡ bool_byte c
mark_count true n = refl
mark_count false n = refl

module _ {S : Type 0} {next : Next S} {chunk out₀ marks₀ : List ℕ} {s₀ : S} {out marks : List ℕ} {s : S} {t w m : ℕ}
    (g : Going next chunk out₀ marks₀ s₀ out marks s t w m) {i : ℕ} (k : t ≡ i) (h : i < length chunk) where
  abbrev byte : ℕ
  byte = get_or chunk i 0

  abbrev Stops : ℕ → Type 0
  Stops n = Gives (run next (length out₀) (length marks₀) (answers 0 s₀) chunk) out₀ marks₀ out marks n t w m s

  within : t < length chunk
  within = omega arith

  read : byte ≡ get_or chunk t 0
  read = ap (λ (j : ℕ). get_or chunk j 0) (sym k)

  -- the byte is forbidden
  pub runs_forbidden : none ≡ next s byte → Stops 7
  runs_forbidden q = gives g 7 (stop_forbidden g within read (sym q))

  module _ (lead : ℕ) (d : Step S) (q : some (out_of lead byte d) ≡ next s byte) where
    marks_are : mark_list d.ends w ≡ marked d.ends (take w out)
    marks_are = ap (mark_list d.ends) (sym (length-take-le w out g.out_few))

    marks_count : {ends : ℕ} → ends ≡ bool_byte d.ends → length (marked d.ends (take w out)) ≡ ends
    marks_count e = ap length (sym marks_are) ∙ mark_count d.ends w ∙ sym e

    -- it is taken
    pub runs_on : d.count ≤ length out - w → {ends : ℕ} → ends ≡ bool_byte d.ends → ends ≤ length marks - m → (part mpart : List ℕ)
        → part ≡ with_front (mid_of w (length out - w) out) (released lead d.count byte)
        → mpart ≡ with_front (mid_of m (length marks - m) marks) (mark_list d.ends w)
        → Going next chunk out₀ marks₀ s₀ (put_mid w (length out - w) out part) (put_mid m (length marks - m) marks mpart)
        d.after (t + 1) (w + d.count) (m + ends)
    runs_on ho {ends} ee hm part mpart eo em =
        let n : length (released lead d.count byte) ≡ d.count = released_count lead d.count byte in
        going_more g within read (out_of lead byte d) (sym q) d.count ends n (marks_count ee)
        (wrote w d.count (released lead d.count byte) out part g.out_few ho n eo)
        (wrote m ends (marked d.ends (take w out)) marks mpart g.marks_few hm (marks_count ee)
        (em ∙ ap (with_front (mid_of m (length marks - m) marks)) marks_are))

    -- what `lacks_mark` tells, of the count of marks
    pub mark_fits : {ends : ℕ} → ends ≡ bool_byte d.ends → ltb (length marks - m) (length (mark_list d.ends 0)) ≡ false → ends ≤ length marks - m
    mark_fits e q = omega (arith, ltb-false (length marks - m) (length (mark_list d.ends 0)) q, mark_count d.ends 0, e)

    pub mark_lacks : ltb (length marks - m) (length (mark_list d.ends 0)) ≡ true → length marks - m < bool_byte d.ends
    mark_lacks q = omega (arith, ltb-true (length marks - m) (length (mark_list d.ends 0)) q, mark_count d.ends 0)

    -- what it releases does not fit, or its mark
    pub runs_full : length out - w < d.count → Stops 0
    runs_full f = gives g 0 (stop_full g within read (out_of lead byte d) (sym q) d.count _ (released_count lead d.count byte) refl f)

    pub runs_full_marks : {ends : ℕ} → ends ≡ bool_byte d.ends → length marks - m < ends → Stops 0
    runs_full_marks {ends} ee f =
        gives g 0 (stop_full_marks g within read (out_of lead byte d) (sym q) d.count ends (released_count lead d.count byte) (marks_count ee) f)

-- ---- a push: its entry checks, and the run

module _ {S : Type 0} (next : Next S) (s : S) (chunk room marks : List ℕ) where
  module _ (entry : ℕ) where
    abbrev pushing : Answer S
    pushing = push_of next entry s chunk (length room) (length marks)

    -- it passes them, and runs
    pub push_gave : {s' : S} {room' marks' : List ℕ} {p : Pushed} → 0 ≡ entry → Runs next s chunk room marks s' room' marks' (Ok p)
        → Gave pushing room marks s' room' marks' (Ok p)
    push_gave {s'} {room'} {marks'} {p} e r =
        subst⁻¹ (λ (a : Answer S). Gave a room marks s' room' marks' (Ok p)) (push_runs next entry s chunk (length room) (length marks) (sym e)) r

    -- it is refused, and changes nothing
    pub gave_refused : (why : Refusal) → refusal_number why ≡ entry → Gave pushing room marks s room marks (Err why)
    gave_refused why e =
        let z = number_some why in
        subst⁻¹ (λ (n : ℕ). Gives pushing room marks room marks n 0 0 0 s) e
        (gives_refused next entry s chunk room marks (λ q. let x : ⊥ = omega arith in x))

  -- where no byte is forbidden, none is met
  pub never_met : {s' : S} {room' marks' : List ℕ} {p : Pushed} → ((x : S) (b : ℕ) → next x b ≡ none → ⊥)
      → Runs next s chunk room marks s' room' marks' (Err p) → ⊥
  never_met never r =
      let n = never_7 next never 0 s chunk (length room) (length marks) in
      let q = push_runs next 0 s chunk (length room) (length marks) refl in
      let z : ◌≡◌ {A = ℕ} 7 0 = r.number_is ∙ ap (λ (a : Answer S). a.number) (sym q) ∙ n in
      omega arith

  pub always_done : ((x : S) (b : ℕ) → next x b ≡ none → ⊥) → (s' : S) (room' marks' : List ℕ) (r : Result Pushed Pushed)
      → Runs next s chunk room marks s' room' marks' r → IsOk r
  always_done never s' room' marks' (Ok p) g = search rules
  always_done never s' room' marks' (Err p) g = absurd (never_met never g)

-- an outcome of a number alone leaves all as it was
pub gave_kept : {S : Type 0} {a : Answer S} {s : S} (n : ℕ) {room marks room' marks' : List ℕ} {number taken wrote marked_n : ℕ} {s' : S}
    → Gives a room marks room' marks' number taken wrote marked_n s' → a ≡ answers n s → (s' ≡ s) × (room' ≡ room) × (marks' ≡ marks)
gave_kept {S} n {room} {marks} o e = (
  o.state_is ∙ ap (λ (x : Answer S). x.after) e,
  o.room ∙ ap (λ (x : Answer S). with_front room x.bytes) e ∙ sym (with_front_none room),
  o.mark_room ∙ ap (λ (x : Answer S). with_front marks x.marks) e ∙ sym (with_front_none marks),
)

-- so does a push that is refused, where no byte is forbidden
pub push_kept : {S : Type 0} (next : Next S) → ((x : S) (b : ℕ) → next x b ≡ none → ⊥) → (entry : ℕ) (s : S) (chunk : List ℕ) (why : Refusal)
    → {room marks room' marks' : List ℕ} {s' : S}
    → Gave (push_of next entry s chunk (length room) (length marks)) room marks s' room' marks' (Err why)
    → (s' ≡ s) × (room' ≡ room) × (marks' ≡ marks)
push_kept next never entry s chunk why {room} {marks} o =
    let z = number_some why in
    let n = o.number_is ∙ never_7 next never entry s chunk (length room) (length marks) in
    gave_kept entry o (push_refused next entry s chunk (length room) (length marks) (λ q. let x : ⊥ = omega arith in x))

-- an outcome that is done
pub gave_done : {S : Type 0} {a : Answer S} {room marks room' marks' : List ℕ} {number taken wrote marked_n : ℕ} {s' : S}
    → Gives a room marks room' marks' number taken wrote marked_n s' → number ≡ 0
    → Gave a room marks s' room' marks' (Ok (record { taken = taken; written = wrote; marked = marked_n }))
gave_done {a = a} {room} {marks} {room'} {marks'} {number} {taken} {wrote} {marked_n} {s'} o z =
    subst (λ (n : ℕ). Gives a room marks room' marks' n taken wrote marked_n s') z o

-- where no byte is forbidden, any outcome of a push is that of a call
pub as_result : {S : Type 0} {next : Next S} → ((x : S) (b : ℕ) → next x b ≡ none → ⊥) → {entry : ℕ} (s : S) (chunk : List ℕ) → entry ≤ 2
    → {room marks room' marks' : List ℕ} {number taken wrote marked_n : ℕ} {s' : S}
    → Gives (push_of next entry s chunk (length room) (length marks)) room marks room' marks' number taken wrote marked_n s'
    → (r : Result Pushed Refusal) × Gave (push_of next entry s chunk (length room) (length marks)) room marks s' room' marks' r
    × (pushed_of r ≡ record { taken = taken; written = wrote; marked = marked_n })
as_result {S} {next} never {entry} s chunk few {room} {marks} {room'} {marks'} {number} {taken} {wrote} {marked_n} {s'} o = go entry refl few
  where
    a : Answer S
    a = push_of next entry s chunk (length room) (length marks)

    number_entry : number ≡ entry
    number_entry = o.number_is ∙ never_7 next never entry s chunk (length room) (length marks)

    nothing : (why : Refusal) → entry ≡ refusal_number why
        → (r : Result Pushed Refusal) × Gave (push_of next entry s chunk (length room) (length marks)) room marks s' room' marks' r
        × (pushed_of r ≡ record { taken = taken; written = wrote; marked = marked_n })
    nothing why e =
        let some = number_some why in
        let z : entry ≡ 0 → ⊥ = λ q. omega arith in
        let alone = push_refused next entry s chunk (length room) (length marks) z in
        let t : taken ≡ 0 = o.taken_is ∙ ap (λ (x : Answer S). x.taken) alone in
        let w : wrote ≡ 0 = o.wrote_is ∙ ap (λ (x : Answer S). length x.bytes) alone in
        let m : marked_n ≡ 0 = o.marked_is ∙ ap (λ (x : Answer S). length x.marks) alone in (
          Err why,
          record {
            number_is = sym (number_entry ∙ e) ∙ o.number_is;
            taken_is = sym t ∙ o.taken_is;
            wrote_is = sym w ∙ o.wrote_is;
            marked_is = sym m ∙ o.marked_is;
            state_is = o.state_is;
            room = o.room;
            mark_room = o.mark_room;
          },
          λ i. record { taken = sym t i; written = sym w i; marked = sym m i },
        )

    go : (n : ℕ) → entry ≡ n → n ≤ 2
        → (r : Result Pushed Refusal) × Gave (push_of next entry s chunk (length room) (length marks)) room marks s' room' marks' r
        × (pushed_of r ≡ record { taken = taken; written = wrote; marked = marked_n })
    go zero e h = (Ok (record { taken = taken; written = wrote; marked = marked_n }), gave_done o (number_entry ∙ e), refl)
    go (suc zero) e h = nothing TooLong e
    go (suc (suc zero)) e h = nothing BadState e
    go (suc (suc (suc n))) e h = absurd (let x : ⊥ = omega arith in x)
