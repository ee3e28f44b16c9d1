-- A reset, by the branches of the code.
use Prim.Native.Nat.{ℕ, ◌≤◌, ◌<◌}
use native.Mathlib.Omega.{arith}
use mathlib.Core.Path.{◌≡◌, refl, ap, ap₂, sym, ◌∙◌, subst⁻¹}
use mathlib.Core.Bool.{Bool, true, false, cond, ◌&&◌, and-false}
use mathlib.Core.List.{List, [], ◌∷◌}
use lib.Dec.{leb}
use lib.ListN.{length, replicate, length-replicate}
use borrow.Author.Tests.{le-leb, lt-leb, ne_eqb}
use mir.Val.{bool_byte}
use Rattle.std.specs.Prelude.{Result, Ok, Err}
use Rattle.desk.specs.Refusing.{refusal_number}
use Rattle.desk.specs.Room.{with_front}
use Rattle.desk.specs.Push.{Answer, answers}
use Rattle.desk.specs.Steps.{Gave}
use Rattle.desk.specs.declared.push.Pushed.{Pushed}
use Rattle.desk.specs.declared.refusal.Refusal.{Refusal}
use Rattle.desk.specs.declared.refusal.Refusal.TheVariants.{NoRoom}
use Rattle.desk.proofs.Pushing.{gives_alone}
use Rattle.desk.proofs.Refusing.{number_some}
use Rattle.annexb.specs.declared.AnnexBReader.{AnnexBReader}
use Rattle.annexb.specs.Seen.{new}
use Rattle.annexb.specs.Answer.{entering, closing, reset_answer, FrameReset}

module _ (s : AnnexBReader) (room marks : List ℕ) where
  pub reset_refused : (why : Refusal) → refusal_number why ≡ entering s 0 (length room) (length marks)
      → FrameReset s room marks s room marks (Err why)
  unfolding reset_answer
  reset_refused why e =
      let z = number_some why in
      let n : refusal_number why ≡ 0 → ⊥ = λ q. omega arith in
      rw (← e, ne_eqb (refusal_number why) 0 n) (gives_alone (refusal_number why) s room marks)

  module _ (z : 0 ≡ entering s 0 (length room) (length marks)) where
    went : reset_answer s (length room) (length marks) ≡ closing s (length room) (length marks)
    unfolding reset_answer
    went = rw (← z) refl

    reset_is : (a : Answer AnnexBReader) (r : Result Pushed Refusal) {s' : AnnexBReader} {room' marks' : List ℕ}
        → closing s (length room) (length marks) ≡ a → Gave a room marks s' room' marks' r → FrameReset s room marks s' room' marks' r
    reset_is a r {s'} {room'} {marks'} q g = subst⁻¹ (λ (x : Answer AnnexBReader). Gave x room marks s' room' marks' r) (went ∙ q) g

    module _ (held ends : ℕ) (eh : held ≡ cond s.in_unit s.zeros 0) (ee : ends ≡ bool_byte s.in_unit) where
      reset_10 : s.in_unit ≡ true → (leb s.zeros (length room) && leb 1 (length marks)) ≡ false → FrameReset s room marks s room marks (Err NoRoom)
      unfolding closing
      reset_10 o k = reset_is (answers 10 s) (Err NoRoom) (rw (o, k) refl) (gives_alone 10 s room marks)

      pub reset_no_room : length room < held → FrameReset s room marks s room marks (Err NoRoom)
      reset_no_room h = go s.in_unit refl eh
        where
          go : (o : Bool) → s.in_unit ≡ o → held ≡ cond o s.zeros 0 → FrameReset s room marks s room marks (Err NoRoom)
          go true o e = reset_10 o (rw (lt-leb s.zeros (length room) (omega arith)) refl)
          go false o e = absurd (let x : ⊥ = omega arith in x)

      pub reset_no_mark : length marks < ends → FrameReset s room marks s room marks (Err NoRoom)
      reset_no_mark h = go s.in_unit refl ee
        where
          go : (o : Bool) → s.in_unit ≡ o → ends ≡ bool_byte o → FrameReset s room marks s room marks (Err NoRoom)
          go true o e = reset_10 o (rw (lt-leb 1 (length marks) (omega arith)) (and-false (leb s.zeros (length room))))
          go false o e = absurd (let x : ⊥ = omega arith in x)

      pub reset_ends : {room' marks' : List ℕ} → held ≤ length room → ends ≤ length marks → room' ≡ with_front room (replicate held 0)
          → marks' ≡ with_front marks (replicate ends held)
          → FrameReset s room marks new room' marks' (Ok (record { taken = 0; written = held; marked = ends }))
      unfolding closing
      reset_ends {room'} {marks'} a b p q = go s.in_unit refl eh ee
        where
          go : (o : Bool) → s.in_unit ≡ o → held ≡ cond o s.zeros 0 → ends ≡ bool_byte o
              → FrameReset s room marks new room' marks' (Ok (record { taken = 0; written = held; marked = ends }))
          go true o e f =
              let h : s.zeros ≤ length room = omega arith in
              let k : 1 ≤ length marks = omega arith in
              reset_is (record { number = 0; taken = 0; bytes = replicate s.zeros 0; marks = s.zeros ∷ []; after = new })
              (Ok (record { taken = 0; written = held; marked = ends })) (rw (o, le-leb s.zeros (length room) h, le-leb 1 (length marks) k) refl)
              (record {
                number_is = refl;
                taken_is = refl;
                wrote_is = e ∙ sym (length-replicate s.zeros 0);
                marked_is = f;
                state_is = refl;
                room = p ∙ ap (λ (n : ℕ). with_front room (replicate n 0)) e;
                mark_room = q ∙ ap₂ (λ (n x : ℕ). with_front marks (replicate n x)) f e;
              })
          go false o e f =
              reset_is (answers 0 new) (Ok (record { taken = 0; written = held; marked = ends })) (rw o refl)
              (record {
                number_is = refl;
                taken_is = refl;
                wrote_is = e;
                marked_is = f;
                state_is = refl;
                room = p ∙ ap (λ (n : ℕ). with_front room (replicate n 0)) e;
                mark_room = q ∙ ap (λ (n : ℕ). with_front marks (replicate n held)) f;
              })
