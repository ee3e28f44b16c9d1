-- A REFUSAL AND ITS NUMBER (document 01's table), and what a call answers: a value, or the number of a refusal.
use Rattle.std.specs.Prelude.{ℕ, Result, Ok, Err}
use Rattle.desk.specs.Numbers.{done, too_long, bad_state, bad_width, bits_run_out, exp_golomb_too_large, remaining_data, forbidden_byte, empty_nal}
use Rattle.desk.specs.Numbers.{no_code, no_room, bad_geometry, bad_map_type, bad_run_length, invalid_top_left, invalid_bottom_right}
use Rattle.desk.specs.Numbers.{bad_change_rate, bad_pic_size, bad_num_ref_idx}
use Rattle.desk.specs.declared.refusal.Refusal.{Refusal}
use Rattle.desk.specs.declared.refusal.Refusal.TheVariants.{TooLong, BadState, BadWidth, BitsRunOut, ExpGolombTooLarge, RemainingData, ForbiddenByte}
use Rattle.desk.specs.declared.refusal.Refusal.TheVariants.{EmptyNal, NoCode, NoRoom, BadGeometry, BadMapType, BadRunLength, InvalidTopLeft}
use Rattle.desk.specs.declared.refusal.Refusal.TheVariants.{InvalidBottomRight, BadChangeRate, BadPicSize, BadNumRefIdx}

abbrev pub refusal_number : Refusal → ℕ
refusal_number TooLong = too_long
refusal_number BadState = bad_state
refusal_number BadWidth = bad_width
refusal_number BitsRunOut = bits_run_out
refusal_number ExpGolombTooLarge = exp_golomb_too_large
refusal_number RemainingData = remaining_data
refusal_number ForbiddenByte = forbidden_byte
refusal_number EmptyNal = empty_nal
refusal_number NoCode = no_code
refusal_number NoRoom = no_room
refusal_number BadGeometry = bad_geometry
refusal_number BadMapType = bad_map_type
refusal_number BadRunLength = bad_run_length
refusal_number InvalidTopLeft = invalid_top_left
refusal_number InvalidBottomRight = invalid_bottom_right
refusal_number BadChangeRate = bad_change_rate
refusal_number BadPicSize = bad_pic_size
refusal_number BadNumRefIdx = bad_num_ref_idx

-- an answer's number: 0, or that of its refusal
abbrev pub answered : {A : Type 0} → Result A Refusal → ℕ
answered (Ok a) = done
answered (Err e) = refusal_number e
