-- WHAT EACH CALL ANSWERS, for everything that goes in, refusals included; and the contracts that tie a call's result to it.
use Rattle.std.specs.Prelude.{ℕ, zero, suc, ◌+◌, ◌-◌, ◌/◌, ◌%◌, ◌^◌, ◌≡◌, List, [], ◌∷◌, Bool, false, cond, ◌||◌, length, ltb, leb, eqb, ℤ, nat_abs}
use Rattle.std.specs.Prelude.{Result, Ok, Err, Option as Optional, Some, None}
use Rattle.std.proofs.Math.Option.{Option, none, some}
use Rattle.desk.specs.Numbers.{done, bad_width, bits_run_out, exp_golomb_too_large, remaining_data, no_code, no_room, entry_of}
use Rattle.desk.specs.Refusing.{refusal_number}
use Rattle.desk.specs.declared.refusal.Refusal.{Refusal}
use Rattle.bits.specs.Rule.{size, value_at, first_one, last_one, signed_of, unsigned_of, prefix_of}
use Rattle.bits.specs.Step.{Wrote, wrote, kept, writer, whole_with, stored}
use Rattle.bits.specs.declared.BitReader.{BitReader}
use Rattle.bits.specs.declared.BytePos.{BytePos}
use Rattle.bits.specs.declared.BitWriter.{BitWriter}

-- what a read gives: a value and the place after it; or a number of the table, and the reader stays where it was
pub data Ans (A : Type 0) : Type 0 where
  got : A → ℕ → Ans A
  no : ℕ → Ans A

-- what a question gives: an answer, or a number of the table
pub data Told (A : Type 0) : Type 0 where
  told : A → Told A
  denied : ℕ → Told A

-- the next field is read from where the one before it stopped, or the whole read is refused
abbrev pub and_then : {A B : Type 0} → Ans A → (A → ℕ → Ans B) → Ans B
and_then (got a p) f = f a p
and_then (no n) f = no n

-- a number of the entry checks, unless it is 0
abbrev pub unless : {A : Type 0} → (ℕ → A) → ℕ → A → A
unless refuse zero x = x
unless refuse (suc n) x = refuse (suc n)

-- ---- reading

-- the reader at place p, and at the start
abbrev pub reader_at : ℕ → BitReader
reader_at p = record { at = record { 0 = p } }

abbrev pub new_reader : BitReader
new_reader = reader_at 0

-- the position is past the end
unfoldable pub past_end : List ℕ → ℕ → Bool
past_end s p = ltb (size s) p

-- entry checks 1 and 2 of a reader at place p
abbrev pub entry_at : List ℕ → ℕ → ℕ
entry_at s p = entry_of (length s ∷ 0 ∷ 0 ∷ []) (past_end s p)

-- u(n) at p
unfoldable pub read_bits : List ℕ → ℕ → ℕ → Ans ℕ
read_bits s p n =
    unless no (entry_at s p)
    (cond (ltb 32 n) (no bad_width) (cond (ltb (size s) (p + n)) (no bits_run_out) (got (value_at s p n) (p + n))))

-- one bit, as yes or no
abbrev pub as_bool : Ans ℕ → Ans Bool
as_bool (got v q) = got (eqb v 1) q
as_bool (no n) = no n

unfoldable pub read_bit : List ℕ → ℕ → Ans Bool
read_bit s p = as_bool (read_bits s p 1)

-- ue(v) at p whose one stands at q: q - p zeros, the one, and as many bits
abbrev pub ue_from : List ℕ → ℕ → Option ℕ → Ans ℕ
ue_from s p none = no bits_run_out
ue_from s p (some q) =
    cond (ltb 31 (q - p)) (no exp_golomb_too_large)
    (cond (ltb (size s) (q + 1 + (q - p))) (no bits_run_out)
    (got (2 ^ (q - p) - 1 + value_at s (q + 1) (q - p)) (q + 1 + (q - p))))

unfoldable pub read_ue : List ℕ → ℕ → Ans ℕ
read_ue s p = unless no (entry_at s p) (ue_from s p (first_one s p (size s - p)))

-- se(v)
abbrev pub as_signed : Ans ℕ → Ans ℤ
as_signed (got k q) = got (signed_of k) q
as_signed (no n) = no n

unfoldable pub read_se : List ℕ → ℕ → Ans ℤ
read_se s p = as_signed (read_ue s p)

-- n bits on
unfoldable pub skipped : List ℕ → ℕ → ℕ → Ans Unit
skipped s p n = unless no (entry_at s p) (cond (ltb (size s) (p + n)) (no bits_run_out) (got tt (p + n)))

-- is L, the last one at or after p, behind p?
abbrev pub lies_behind : ℕ → Option ℕ → Bool
lies_behind p none = false
lies_behind p (some l) = ltb p l

unfoldable pub has_more : List ℕ → ℕ → Told Bool
has_more s p = unless denied (entry_at s p) (told (lies_behind p (last_one s p (size s - p))))

-- 0 where L is p, 6 where it is behind p, and another number where there is no L
abbrev pub finish_from : ℕ → ℕ → Option ℕ → ℕ
finish_from missing p none = missing
finish_from missing p (some l) = cond (eqb l p) done remaining_data

unfoldable pub finish_rbsp : List ℕ → ℕ → ℕ
finish_rbsp s p = unless (λ n. n) (entry_at s p) (finish_from bits_run_out p (last_one s p (size s - p)))

unfoldable pub finish_sei : List ℕ → ℕ → ℕ
finish_sei s p = unless (λ n. n) (entry_at s p) (cond (eqb p (size s)) done (finish_from remaining_data p (last_one s p (size s - p))))

-- ---- what a call of the code stands for: what it returns, and the reader that it leaves

abbrev pub answer : {A : Type 0} → Result A Refusal → BitReader → Ans A
answer (Ok a) r = got a r.at.0
answer (Err e) r = no (refusal_number e)

-- without the reader
abbrev pub told_by : {A : Type 0} → Result A Refusal → Told A
told_by (Ok a) = told a
told_by (Err e) = denied (refusal_number e)

abbrev pub told_of : {A : Type 0} → Ans A → Told A
told_of (got a q) = told a
told_of (no n) = denied n

-- an answer's number: 0, or that of the refusal
abbrev pub number : {A : Type 0} → Ans A → ℕ
number (got a q) = done
number (no n) = n

abbrev pub told_number : {A : Type 0} → Told A → ℕ
told_number (told a) = done
told_number (denied n) = n

-- the reader that an answer leaves. A refusal leaves it as it came.
abbrev pub reader_back : {A : Type 0} → BitReader → Ans A → BitReader
reader_back from (got a q) = reader_at q
reader_back from (no n) = from

-- THE CONTRACT OF READING: a call with the reader `from` answers a, and leaves the reader `after`
pub record Reads {A : Type 0} (from after : BitReader) (r : Result A Refusal) (a : Ans A) : Type 0 where
  pub answers : told_by r ≡ told_of a
  pub cursor : after ≡ reader_back from a

-- ---- positions, and se(v)'s mapping as a call

-- the place of the byte that starts at a bit's place
abbrev pub whole_bytes : ℕ → Option ℕ
whole_bytes p = cond (eqb (p % 8) 0) (some (p / 8)) none

abbrev pub aligned_answer : Optional BytePos → Option ℕ
aligned_answer (Some b) = some b.0
aligned_answer None = none

abbrev pub aligned_back : Option ℕ → Optional BytePos
aligned_back (some b) = Some (record { 0 = b })
aligned_back none = None

-- 2 ^ 32 - 1, the last of the u32, has no code
abbrev pub mapped : ℕ → Told ℤ
mapped k = cond (leb 4294967295 k) (denied no_code) (told (signed_of k))

-- ---- writing

-- nothing written, nothing pending
abbrev pub new_writer : BitWriter
new_writer = writer 0 0 0

-- bytes written past the room; a pending count over 7; a pending value not below 2 ^ count
abbrev pub bad_writer : ℕ → BitWriter → Bool
bad_writer len st = ltb len st.written.0 || (ltb 7 st.count || leb (2 ^ st.count) st.pending)

-- entry checks 1 and 2 of a writer in a room of len bytes
abbrev pub entry_on : ℕ → BitWriter → ℕ
entry_on len st = entry_of (len ∷ 0 ∷ 0 ∷ []) (bad_writer len st)

-- n bits of v, where the whole bytes have room
abbrev pub roomed : List ℕ → BitWriter → ℕ → ℕ → Wrote
roomed o st n v = cond (ltb (length o) (whole_with st n)) (kept no_room o) (stored o st n v)

-- u(n) of v
unfoldable pub write_bits : List ℕ → BitWriter → ℕ → ℕ → Wrote
write_bits o st n v =
    unless (λ k. kept k o) (entry_on (length o) st)
    (cond (ltb 32 n) (kept bad_width o) (cond (leb (2 ^ n) v) (kept bad_width o) (roomed o st n v)))

abbrev pub bit_number : Bool → ℕ
bit_number b = cond b 1 0

unfoldable pub write_bit : List ℕ → BitWriter → Bool → Wrote
write_bit o st b = write_bits o st 1 (bit_number b)

-- ue(v)'s code: M zeros, a one and M bits are v + 1 as a number of 2 M + 1 bits
abbrev pub ue_width : ℕ → ℕ
ue_width v = prefix_of v + (prefix_of v + 1)

-- 9 for a value that no code has: among the u32, 2 ^ 32 - 1
unfoldable pub write_ue : List ℕ → BitWriter → ℕ → Wrote
write_ue o st v =
    unless (λ k. kept k o) (entry_on (length o) st) (cond (leb 4294967295 v) (kept no_code o) (roomed o st (ue_width v) (v + 1)))

-- 9 for a value that no code has: among the i32, -2 ^ 31
unfoldable pub write_se : List ℕ → BitWriter → ℤ → Wrote
write_se o st z =
    unless (λ k. kept k o) (entry_on (length o) st)
    (cond (leb 2147483648 (nat_abs z)) (kept no_code o) (roomed o st (ue_width (unsigned_of z)) (unsigned_of z + 1)))

-- trailing bits: a one, and zeros that fill up the byte
unfoldable pub write_trailing : List ℕ → BitWriter → Wrote
write_trailing o st = unless (λ k. kept k o) (entry_on (length o) st) (roomed o st (8 - st.count) (2 ^ (7 - st.count)))

-- ---- what a call of the code stands for: what it returns, the writer that it leaves, and the room

abbrev pub outcome : Result Unit Refusal → BitWriter → List ℕ → Wrote
outcome (Ok u) st o = wrote st o
outcome (Err e) st o = kept (refusal_number e) o

abbrev pub wrote_told : Wrote → Told Unit
wrote_told (wrote st o) = told tt
wrote_told (kept n o) = denied n

abbrev pub wrote_number : Wrote → ℕ
wrote_number (wrote st o) = done
wrote_number (kept n o) = n

-- the writer and the room that an answer leaves. A refusal leaves the writer as it came.
abbrev pub writer_back : BitWriter → Wrote → BitWriter
writer_back from (wrote st o) = st
writer_back from (kept n o) = from

abbrev pub room_back : Wrote → List ℕ
room_back (wrote st o) = o
room_back (kept n o) = o

-- THE CONTRACT OF WRITING: a call with the writer `from` answers a, and leaves the writer `after` and the room
pub record Writes (from after : BitWriter) (r : Result Unit Refusal) (room : List ℕ) (a : Wrote) : Type 0 where
  pub answers : told_by r ≡ wrote_told a
  pub writer : after ≡ writer_back from a
  pub memory : room ≡ room_back a
