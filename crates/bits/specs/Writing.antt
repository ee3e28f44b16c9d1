-- WRITING, AND READING BACK: what the laws of proofs/Writing.antt and proofs/WriteRead.antt say, with the answers' names passed on shut.
use Rattle.std.specs.Prelude.{ℕ, ◌+◌, ◌/◌, ◌≤◌, ◌<◌, ◌≡◌, List, [], ◌∷◌, ◌++◌, Bool, true, length, take, drop, ℤ, Ok}
use Rattle.desk.specs.Numbers.{most, too_long, bad_state, bad_width, no_code, no_room}
use Rattle.bits.specs.Rule.{bits, bits_of, URange, ue_code, UeRange, se_code, SeRange}
pub use Rattle.bits.specs.Rule.{trailing_bits}
pub use Rattle.bits.specs.Step.{Good, Wrote, wrote, kept, writer}
use Rattle.bits.specs.Answer.{got, read_bits, read_bit, read_ue, read_se}
pub use Rattle.bits.specs.Answer.{new_writer, bad_writer, Writes, outcome, wrote_told, wrote_number, writer_back, room_back}
pub use Rattle.bits.specs.Answer.{write_bits, write_bit, write_ue, write_se, write_trailing}
use Rattle.bits.specs.Reading.{bit_code}
use Rattle.bits.specs.declared.BitWriter.{BitWriter}

-- the bits that a writer stands for: those of the bytes written, then the pending ones
abbrev pub content : List ℕ → BitWriter → List ℕ
content o st = bits (take st.written.0 o) ++ bits_of st.count st.pending

-- ---- what one call does

-- the content has grown by exactly the bits of a code, and the room behind the bytes written is as it was
pub record Appends (o : List ℕ) (st : BitWriter) (code o' : List ℕ) (st' : BitWriter) : Type 0 where
  pub good : Good (length o) st'
  pub grown : content o' st' ≡ content o st ++ code
  pub rest : drop st'.written.0 o' ≡ drop st'.written.0 o
  pub long : length o' ≡ length o

-- why a number is answered by a call that writes a code, which only values that have one (Has) are given; 10 exactly where the whole bytes would
-- pass the room
pub data WhyNot (o : List ℕ) (st : BitWriter) (code : List ℕ) (Has : Type 0) (without : ℕ) : ℕ → Type 0 where
  room_too_long : most < length o → WhyNot o st code Has without too_long
  state_bad : length o ≤ most → bad_writer (length o) st ≡ true → WhyNot o st code Has without bad_state
  code_missing : Good (length o) st → (Has → ⊥) → WhyNot o st code Has without without
  room_too_short : Good (length o) st → Has → length o < (length (content o st) + length code) / 8 → WhyNot o st code Has without no_room

-- what a call's answer means
abbrev pub WriteMeans : List ℕ → BitWriter → List ℕ → Type 0 → ℕ → Wrote → Type 0
WriteMeans o st code Has without (wrote st' o') = Good (length o) st × Has × Appends o st code o' st'
WriteMeans o st code Has without (kept k o') = (o' ≡ o) × WhyNot o st code Has without k

-- ---- a field, which is written by one call and read by another

pub data Field : Type 0 where
  u : ℕ → ℕ → Field
  flag : Bool → Field
  ue : ℕ → Field
  se : ℤ → Field

abbrev pub code_of : Field → List ℕ
code_of (u n v) = bits_of n v
code_of (flag b) = bit_code b
code_of (ue v) = ue_code v
code_of (se z) = se_code z

abbrev pub HasCode : Field → Type 0
HasCode (u n v) = (n ≤ 32) × URange n v
HasCode (flag b) = Unit
HasCode (ue v) = UeRange v
HasCode (se z) = SeRange z

-- the number of a value that has none
abbrev pub without : Field → ℕ
without (u n v) = bad_width
without (flag b) = bad_width
without (ue v) = no_code
without (se z) = no_code

abbrev pub write_field : List ℕ → BitWriter → Field → Wrote
write_field o st (u n v) = write_bits o st n v
write_field o st (flag b) = write_bit o st b
write_field o st (ue v) = write_ue o st v
write_field o st (se z) = write_se o st z

-- the field is read at p, up to q
abbrev pub ReadsField : List ℕ → ℕ → Field → ℕ → Type 0
ReadsField s p (u n v) q = read_bits s p n ≡ got v q
ReadsField s p (flag b) q = read_bit s p ≡ got b q
ReadsField s p (ue v) q = read_ue s p ≡ got v q
ReadsField s p (se z) q = read_se s p ≡ got z q

-- ---- sequences

-- calls that write the fields one after the other, of which nothing is known but that each meets its contract and is done
pub data WritesFields : List ℕ → BitWriter → List Field → List ℕ → BitWriter → Type 0 where
  nothing : {o : List ℕ} {st : BitWriter} → WritesFields o st [] o st
  one_more : {o o₁ o₂ : List ℕ} {st st₁ st₂ : BitWriter} {f : Field} {fs : List Field}
      → Writes st st₁ (Ok tt) o₁ (write_field o st f) → WritesFields o₁ st₁ fs o₂ st₂ → WritesFields o st (f ∷ fs) o₂ st₂

-- the fields are read one after the other, from p up to q
pub data ReadBack (s : List ℕ) : ℕ → List Field → ℕ → Type 0 where
  end : {p : ℕ} → ReadBack s p [] p
  then : {p q r : ℕ} {f : Field} {fs : List Field} → ReadsField s p f q → ReadBack s q fs r → ReadBack s p (f ∷ fs) r
