-- Every number that a push and a reset can give is given by some input.
use Prim.Native.Nat.{ℕ, ◌<◌}
use native.Mathlib.Omega.{arith}
use mathlib.Core.Path.{◌≡◌, refl, ap, ◌∙◌}
use mathlib.Core.Bool.{Bool, true, false, ◌||◌}
use mathlib.Core.List.{List, [], ◌∷◌}
use lib.Dec.{ltb}
use lib.ListN.{length, replicate, length-replicate}
use borrow.Author.Tests.{lt-ltb}
use Rattle.desk.specs.Numbers.{most, any_over, entry_of}
use Rattle.desk.proofs.Entering.{entry_long}
use Rattle.annexb.specs.declared.AnnexBReader.{AnnexBReader}
use Rattle.annexb.specs.Seen.{at, new}
use Rattle.annexb.specs.Answer.{push_answer, closing, reset_answer}
use Rattle.annexb.proofs.Laws.{push_number}

-- a chunk over the limit, whatever the state and the rooms; a room's length is a number, and computes
pub long_chunk : (s : AnnexBReader) (chunk : List ℕ) (w m : ℕ) → most < length chunk → (push_answer s chunk w m).number ≡ 1
long_chunk s chunk w m h =
    push_number s chunk w m
    ∙ entry_long (length chunk ∷ w ∷ m ∷ []) (ltb 2 s.zeros) (ap (λ (c : Bool). c || any_over (w ∷ m ∷ [])) (lt-ltb most (length chunk) h))

over_limit : (n : ℕ) → most < n → most < length (replicate {A = ℕ} n 0)
over_limit n h = omega (arith, length-replicate {A = ℕ} n 0)

pub record PushNumbers : Type 0 where
  pub gives_0 : (push_answer new [] 0 0).number ≡ 0
  pub gives_1_chunk : (push_answer new (replicate 16777217 0) 0 0).number ≡ 1
  pub gives_1_room : (push_answer new [] 16777217 0).number ≡ 1
  pub gives_1_marks : (push_answer new [] 0 16777217).number ≡ 1
  pub gives_2 : (push_answer (at false 3) [] 0 0).number ≡ 2

pub push_numbers : PushNumbers
unfolding entry_of
push_numbers =
    record {
      gives_0 = push_number new [] 0 0;
      gives_1_chunk = long_chunk new (replicate 16777217 0) 0 0 (over_limit 16777217 (omega arith));
      gives_1_room = push_number new [] 16777217 0;
      gives_1_marks = push_number new [] 0 16777217;
      gives_2 = push_number (at false 3) [] 0 0;
    }

pub record ResetNumbers : Type 0 where
  pub gives_0 : (reset_answer new 0 0).number ≡ 0
  pub gives_1_room : (reset_answer new 16777217 0).number ≡ 1
  pub gives_1_marks : (reset_answer new 0 16777217).number ≡ 1
  pub gives_2 : (reset_answer (at true 3) 3 1).number ≡ 2
  pub gives_10_room : (reset_answer (at true 1) 0 1).number ≡ 10
  pub gives_10_mark : (reset_answer (at true 0) 0 0).number ≡ 10

pub reset_numbers : ResetNumbers
unfolding entry_of closing reset_answer
reset_numbers =
    record {
      gives_0 = refl;
      gives_1_room = refl;
      gives_1_marks = refl;
      gives_2 = refl;
      gives_10_room = refl;
      gives_10_mark = refl;
    }
