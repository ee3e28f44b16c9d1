-- WHAT EACH CALL ANSWERS, refusals included, and the one record that is its contract.
use Rattle.std.specs.Prelude.{ℕ, suc, ◌≤◌, ◌<◌, ◌≡◌, cond, List, [], ◌∷◌, length, take, drop, ltb, Result, Ok, Err}
use Rattle.std.proofs.Math.Option.{Option, none, some}
use Rattle.desk.specs.Numbers.{most, done, too_long, forbidden_byte, empty_nal, no_room, any_over}
use Rattle.desk.specs.Push.{Answer, push_by, Gives}
use Rattle.desk.specs.Refusing.{refusal_number}
use Rattle.desk.specs.Room.{with_front}
use Rattle.desk.specs.Search.{is3, first}
use Rattle.desk.specs.Steps.{Gave}
use Rattle.desk.specs.declared.push.Pushed.{Pushed}
use Rattle.desk.specs.declared.refusal.Refusal.{Refusal}
use Rattle.desk.specs.declared.refusal.Refusal.TheVariants.{ForbiddenByte}
use Rattle.rbsp.specs.Rule.{unescape, first_break}
use Rattle.rbsp.specs.Step.{read_step, read_entry, write_step, write_entry, zeros}
use Rattle.rbsp.specs.declared.reader.ParseState.{ParseState}
use Rattle.rbsp.specs.declared.reader.Stopped.{Stopped}
use Rattle.rbsp.specs.declared.reader.Stopped.TheVariants.{Refused, Forbidden as StoppedForbidden}
use Rattle.rbsp.specs.declared.writer.ByteWriter.{ByteWriter}
use Rattle.rbsp.specs.declared.nal.Decoded.{Decoded}
use Rattle.rbsp.specs.declared.nal.Decoded.TheVariants.{Own, Filled}
use Rattle.rbsp.specs.declared.nal.Undecoded.{Undecoded}
use Rattle.rbsp.specs.declared.nal.Undecoded.TheVariants.{TooLong, Empty, Forbidden, NoRoom}

-- ---- the pushes: no marks are written, so none are lent

-- the number of the reader's answer, and the counts: a refusal alone took nothing and wrote nothing
abbrev pub read_number : Result Pushed Stopped → ℕ
read_number (Ok p) = done
read_number (Err (Refused e)) = refusal_number e
read_number (Err (StoppedForbidden p)) = forbidden_byte

abbrev pub read_counts : Result Pushed Stopped → Pushed
read_counts (Ok p) = p
read_counts (Err (Refused e)) = record { taken = 0; written = 0; marked = 0 }
read_counts (Err (StoppedForbidden p)) = p

-- an outcome is the answer: what is returned, the state left, and all of the room at exit; and a forbidden byte is told with what came before it,
-- never by its number alone
pub record ReadGave (a : Answer ParseState) (out out' : List ℕ) (s' : ParseState) (r : Result Pushed Stopped) : Type 0 where
  pub gives : Gives a out [] out' [] (read_number r) (read_counts r).taken (read_counts r).written (read_counts r).marked s'
  pub delivers : r ≡ Err (Refused ForbiddenByte) → ⊥

abbrev pub WriteGave : Answer ByteWriter → List ℕ → List ℕ → ByteWriter → Result Pushed Refusal → Type 0
WriteGave a out out' s' r = Gave a out [] s' out' [] r

-- THE CONTRACTS
abbrev pub ReadPush : ParseState → ParseState → List ℕ → List ℕ → List ℕ → Result Pushed Stopped → Type 0
ReadPush s s' chunk out out' r = ReadGave (push_by read_step read_entry s chunk (length out) 0) out out' s' r

abbrev pub WritePush : ByteWriter → ByteWriter → List ℕ → List ℕ → List ℕ → Result Pushed Refusal → Type 0
WritePush s s' chunk out out' r = WriteGave (push_by write_step write_entry s chunk (length out) 0) out out' s' r

abbrev pub new_byte_writer : ByteWriter
new_byte_writer = zeros 0

-- ---- a whole NAL

-- the number, what goes with it (the index of the forbidden byte, or the count of bytes that the room was filled with), and the bytes that are
-- written
pub record Decoding : Type 0 where
  pub number : ℕ
  pub value : Option ℕ
  pub bytes : List ℕ

abbrev pub refuses : ℕ → Decoding
refuses n = record { number = n; value = none; bytes = [] }

-- what was kept of the tail fills the front of the room
abbrev pub fills : List ℕ → Decoding
fills tail = record { number = done; value = some (length (unescape tail)); bytes = unescape tail }

-- a tail that holds no forbidden byte, for a room of w bytes: its own where nothing was removed, else it fills the front of the room
abbrev pub decode_kept : ℕ → List ℕ → Option ℕ → Decoding
decode_kept w tail none = record { number = done; value = none; bytes = [] }
decode_kept w tail (some i) = cond (ltb w (length (unescape tail))) (refuses no_room) (fills tail)

-- by the first break of the tail; the header is byte 0 of the NAL
abbrev pub decode_tail : ℕ → List ℕ → Option ℕ → Decoding
decode_tail w tail none = decode_kept w tail (first is3 tail)
decode_tail w tail (some k) = record { number = forbidden_byte; value = some (suc k); bytes = [] }

-- order 8, 7, 10
abbrev pub decode_nal : ℕ → List ℕ → Decoding
decode_nal w [] = refuses empty_nal
decode_nal w (header ∷ tail) = decode_tail w tail (first_break tail)

-- before them 1
unfoldable pub decode_of : List ℕ → ℕ → Decoding
decode_of nal w = cond (any_over (length nal ∷ w ∷ [])) (refuses too_long) (decode_nal w nal)

-- the number of each refusal; the number and the value of each answer
abbrev pub refused_with : Undecoded → ℕ
refused_with TooLong = too_long
refused_with Empty = empty_nal
refused_with (Forbidden i) = forbidden_byte
refused_with NoRoom = no_room

abbrev pub number_of : Result Decoded Undecoded → ℕ
number_of (Ok d) = done
number_of (Err e) = refused_with e

abbrev pub value_of : Result Decoded Undecoded → Option ℕ
value_of (Ok Own) = none
value_of (Ok (Filled n)) = some n
value_of (Err TooLong) = none
value_of (Err Empty) = none
value_of (Err (Forbidden i)) = some i
value_of (Err NoRoom) = none

pub record Decodes (nal room room' : List ℕ) (r : Result Decoded Undecoded) : Type 0 where
  pub number_is : number_of r ≡ (decode_of nal (length room)).number
  pub value_is : value_of r ≡ (decode_of nal (length room)).value
  pub room_is : room' ≡ with_front room (decode_of nal (length room)).bytes

-- what the caller is shown: the NAL's own tail, or the filled front of the room; of a refusal nothing
abbrev pub shown_of : List ℕ → List ℕ → Result Decoded Undecoded → List ℕ
shown_of nal room (Ok Own) = drop 1 nal
shown_of nal room (Ok (Filled n)) = take n room
shown_of nal room (Err e) = []

-- what the first pass over a NAL's tail finds: how many bytes are kept, or the place of a forbidden one
abbrev pub Surveys : List ℕ → Result ℕ ℕ → Type 0
Surveys tail (Ok n) = (first_break tail ≡ none) × (n ≡ length (unescape tail))
Surveys tail (Err i) = (first_break tail ≡ some i) × (i < length tail)

-- a NAL that may be filled, once its tail was looked through
pub record Fillable (nal room : List ℕ) (kept : ℕ) : Type 0 where
  pub some_nal : 1 ≤ length nal
  pub nal_few : length nal ≤ most
  pub room_few : length room ≤ most
  pub unbroken : first_break (drop 1 nal) ≡ none
  pub kept_is : kept ≡ length (unescape (drop 1 nal))
