-- Every number that a call can give is given by some input.
use mathlib.Core.Path.{◌≡◌, refl, sym, subst}
use mathlib.Core.List.{List, [], ◌∷◌}
use mathlib.Core.Bool.{true, false}
use mathlib.Core.Option.{none, some}
use Prim.Native.Nat.{ℕ, ◌<◌}
use native.Mathlib.Omega.{arith}
use borrow.Author.Tests.{lt-ltb}
use lib.ListN.{length, replicate, length-replicate}
use lib.IntN.{pos, negsuc}
use Rattle.desk.specs.Numbers.{most, entry_of}
use Rattle.desk.proofs.Entering.{entry_long}
use Rattle.bits.specs.Rule.{bit_at, value_at, first_one, last_one, top_of}
use Rattle.bits.specs.Step.{wrote, kept, writer, stored, bytes_of}
use Rattle.bits.specs.Answer.{got, no, told, denied, past_end, bad_writer, read_bits, read_bit, read_ue, read_se, skipped, has_more}
use Rattle.bits.specs.Answer.{finish_rbsp, finish_sei, mapped, whole_bytes, write_bits, write_bit, write_ue, write_se, write_trailing}

-- ---- 1

-- a slice of 16,777,217 bytes
pub long : List ℕ
long = replicate 16777217 0

pub over : most < length long
unfolding long
over = subst (λ (n : ℕ). most < n) (sym (length-replicate {A = ℕ} 16777217 0)) (omega arith)

pub number_1 :
    (read_bits long 0 0 ≡ no 1)
    × (read_bit long 0 ≡ no 1)
    × (read_ue long 0 ≡ no 1)
    × (read_se long 0 ≡ no 1)
    × (skipped long 0 0 ≡ no 1)
    × (has_more long 0 ≡ denied 1)
    × (finish_rbsp long 0 ≡ 1)
    × (finish_sei long 0 ≡ 1)
    × (write_bits long (writer 0 0 0) 0 0 ≡ kept 1 long)
    × (write_bit long (writer 0 0 0) true ≡ kept 1 long)
    × (write_ue long (writer 0 0 0) 0 ≡ kept 1 long)
    × (write_se long (writer 0 0 0) (pos 0) ≡ kept 1 long)
    × (write_trailing long (writer 0 0 0) ≡ kept 1 long)
unfolding read_bits read_bit read_ue read_se skipped has_more finish_rbsp finish_sei write_bits write_bit write_ue write_se write_trailing
number_1 =
    let r = entry_long (length long ∷ 0 ∷ 0 ∷ []) (past_end long 0) (rw (lt-ltb most (length long) over)) in
    let w = entry_long (length long ∷ 0 ∷ 0 ∷ []) (bad_writer (length long) (writer 0 0 0)) (rw (lt-ltb most (length long) over)) in
    (rw r, rw r, rw r, rw r, rw r, rw r, rw r, rw r, rw w, rw w, rw w, rw w, rw w)

-- ---- reading

pub reading_done :
    (read_bits (0xa0 ∷ []) 0 3 ≡ got 5 3)
    × (read_bits [] 0 0 ≡ got 0 0)
    × (read_bit (0x80 ∷ []) 0 ≡ got true 1)
    × (read_ue (0x28 ∷ []) 0 ≡ got 4 5)
    × (read_se (0x28 ∷ []) 0 ≡ got (negsuc 1) 5)
    × (skipped (0 ∷ []) 0 8 ≡ got tt 8)
    × (has_more (0xc0 ∷ []) 0 ≡ told true)
    × (has_more (0x80 ∷ []) 0 ≡ told false)
    × (finish_sei [] 0 ≡ 0)
    × (finish_sei (0x80 ∷ []) 0 ≡ 0)
    × (mapped 3 ≡ told (pos 2))
    × (whole_bytes 16 ≡ some 2)
    × (whole_bytes 17 ≡ none)
unfolding read_bits read_bit read_ue read_se skipped has_more finish_sei entry_of past_end value_at first_one last_one bit_at
reading_done = (refl, refl, refl, refl, refl, refl, refl, refl, refl, refl, refl, refl, refl)

pub number_2 :
    (read_bits [] 1 0 ≡ no 2)
    × (read_bit [] 1 ≡ no 2)
    × (read_ue [] 1 ≡ no 2)
    × (read_se [] 1 ≡ no 2)
    × (skipped [] 1 0 ≡ no 2)
    × (has_more [] 1 ≡ denied 2)
    × (finish_rbsp [] 1 ≡ 2)
    × (finish_sei [] 1 ≡ 2)
unfolding read_bits read_bit read_ue read_se skipped has_more finish_rbsp finish_sei entry_of past_end
number_2 = (refl, refl, refl, refl, refl, refl, refl, refl)

pub number_3 : read_bits [] 0 33 ≡ no 3
unfolding read_bits entry_of past_end
number_3 = refl

-- 32 zeros and no one are 4; a one too late for its bits is 4
pub number_4 :
    (read_bits [] 0 1 ≡ no 4)
    × (read_bit [] 0 ≡ no 4)
    × (read_ue (0 ∷ 0 ∷ 0 ∷ 0 ∷ []) 0 ≡ no 4)
    × (read_ue (0x01 ∷ []) 0 ≡ no 4)
    × (read_se (0 ∷ 0 ∷ 0 ∷ 0 ∷ []) 0 ≡ no 4)
    × (read_se (0x01 ∷ []) 0 ≡ no 4)
    × (skipped [] 0 1 ≡ no 4)
    × (finish_rbsp [] 0 ≡ 4)
unfolding read_bits read_bit read_ue read_se skipped finish_rbsp entry_of past_end first_one last_one bit_at
number_4 = (refl, refl, refl, refl, refl, refl, refl, refl)

-- a one after 32 zeros is 5, though no bits follow
pub number_5 :
    (read_ue (0 ∷ 0 ∷ 0 ∷ 0 ∷ 0x80 ∷ []) 0 ≡ no 5)
    × (read_ue (0 ∷ 0 ∷ 0 ∷ 0 ∷ 0x01 ∷ []) 0 ≡ no 5)
    × (read_se (0 ∷ 0 ∷ 0 ∷ 0 ∷ 0x80 ∷ []) 0 ≡ no 5)
unfolding read_ue read_se entry_of past_end first_one bit_at
number_5 = (refl, refl, refl)

pub number_6 :
    (finish_rbsp (0x40 ∷ []) 0 ≡ 6)
    × (finish_sei (0x40 ∷ []) 0 ≡ 6)
    × (finish_sei (0 ∷ []) 0 ≡ 6)
unfolding finish_rbsp finish_sei entry_of past_end last_one bit_at
number_6 = (refl, refl, refl)

pub number_9 :
    (mapped 4294967295 ≡ denied 9)
    × (write_ue [] (writer 0 0 0) 4294967295 ≡ kept 9 [])
    × (write_se [] (writer 0 0 0) (negsuc 2147483647) ≡ kept 9 [])
unfolding write_ue write_se entry_of
number_9 = (refl, refl, refl)

-- ---- writing

pub writing_done :
    (write_bits (7 ∷ 7 ∷ []) (writer 0 1 1) 9 5 ≡ wrote (writer 1 1 2) (0x81 ∷ 7 ∷ []))
    × (write_bit [] (writer 0 0 0) true ≡ wrote (writer 0 1 1) [])
    × (write_ue (7 ∷ []) (writer 0 1 4) 4 ≡ wrote (writer 1 1 1) (0x12 ∷ []))
    × (write_se [] (writer 0 0 0) (negsuc 0) ≡ wrote (writer 0 3 3) [])
    × (write_trailing (7 ∷ []) (writer 0 5 3) ≡ wrote (writer 1 0 0) (0xb0 ∷ []))
unfolding write_bits write_bit write_ue write_se write_trailing entry_of top_of stored bytes_of
writing_done = (refl, refl, refl, refl, refl)

-- written past the room; a count of 8; a value not below 2 ^ count
pub writing_2 :
    (write_bits [] (writer 1 0 0) 0 0 ≡ kept 2 [])
    × (write_bits [] (writer 0 0 8) 0 0 ≡ kept 2 [])
    × (write_bits [] (writer 0 1 0) 0 0 ≡ kept 2 [])
    × (write_bit [] (writer 0 1 0) true ≡ kept 2 [])
    × (write_ue [] (writer 1 0 0) 0 ≡ kept 2 [])
    × (write_se [] (writer 1 0 0) (pos 0) ≡ kept 2 [])
    × (write_trailing [] (writer 1 0 0) ≡ kept 2 [])
unfolding write_bits write_bit write_ue write_se write_trailing entry_of
writing_2 = (refl, refl, refl, refl, refl, refl, refl)

-- a width over 32; a value that needs more bits than its width
pub writing_3 :
    (write_bits [] (writer 0 0 0) 33 0 ≡ kept 3 [])
    × (write_bits [] (writer 0 0 0) 1 2 ≡ kept 3 [])
unfolding write_bits entry_of
writing_3 = (refl, refl)

pub number_10 :
    (write_bits [] (writer 0 0 0) 8 0 ≡ kept 10 [])
    × (write_bit [] (writer 0 0 7) true ≡ kept 10 [])
    × (write_ue [] (writer 0 0 7) 0 ≡ kept 10 [])
    × (write_se [] (writer 0 0 7) (pos 0) ≡ kept 10 [])
    × (write_trailing [] (writer 0 0 0) ≡ kept 10 [])
unfolding write_bits write_bit write_ue write_se write_trailing entry_of top_of
number_10 = (refl, refl, refl, refl, refl)
