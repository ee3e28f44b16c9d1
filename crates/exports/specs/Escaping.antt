-- The numbers of the states and answers of `rbsp`.
use Rattle.std.specs.Prelude.{ℕ, Bool, cond, eqb, List, [], ◌∷◌, Result, Ok, Err}
use Rattle.desk.specs.Numbers.{done, too_long, forbidden_byte, empty_nal, no_room}
use Rattle.desk.specs.Refusing.{answered}
use Rattle.desk.specs.Steps.{pushed_of}
use Rattle.desk.specs.declared.push.Pushed.{Pushed}
use Rattle.desk.specs.declared.refusal.Refusal.{Refusal}
use Rattle.rbsp.specs.declared.reader.ParseState.{ParseState}
use Rattle.rbsp.specs.declared.reader.ParseState.TheVariants.{Start, Skip, PostThree}
use Rattle.rbsp.specs.declared.reader.Stopped.{Stopped}
use Rattle.rbsp.specs.declared.writer.ByteWriter.{ByteWriter}
use Rattle.rbsp.specs.declared.nal.Decoded.{Decoded}
use Rattle.rbsp.specs.declared.nal.Decoded.TheVariants.{Own, Filled}
use Rattle.rbsp.specs.declared.nal.Undecoded.{Undecoded}
use Rattle.rbsp.specs.declared.nal.Undecoded.TheVariants.{TooLong, Empty, Forbidden, NoRoom}
use Rattle.rbsp.specs.Answer.{read_number, read_counts, ReadPush, WritePush, Decodes}
use Rattle.exports.specs.Fronts.{Fronts, FrontsOn}

-- any three numbers are a state of the reader: behind a removed 03; else with bytes yet to drop; else behind so many zeros
abbrev pub reader_of : ℕ → ℕ → Bool → ParseState
reader_of zeros skip behind_three = cond behind_three PostThree (cond (eqb skip 0) (Start zeros) (Skip skip))

-- and back
abbrev pub state_numbers : ParseState → List ℕ
state_numbers (Start z) = z ∷ 0 ∷ 0 ∷ []
state_numbers (Skip k) = 0 ∷ k ∷ 0 ∷ []
state_numbers PostThree = 0 ∷ 0 ∷ 1 ∷ []

-- the number, the bytes taken and the bytes written
abbrev pub stop_numbers : Result Pushed Stopped → List ℕ
stop_numbers r = read_number r ∷ (read_counts r).taken ∷ (read_counts r).written ∷ []

-- what a push from three numbers answers, and the state behind it: where no byte was taken, and so where it was refused at entry, they come back as
-- they came
abbrev pub read_numbers : ℕ → ℕ → Bool → Result Pushed Stopped → ParseState → List ℕ
read_numbers zeros skip behind_three r after =
    read_number r ∷ (read_counts r).taken ∷ (read_counts r).written
    ∷ cond (eqb (read_counts r).taken 0) (zeros ∷ skip ∷ cond behind_three 1 0 ∷ []) (state_numbers after)

abbrev pub FrontsRead : ℕ → ℕ → Bool → List ℕ → List ℕ → List ℕ → List ℕ → Type 0
FrontsRead zeros skip behind_three chunk out out' =
    FrontsOn (λ r after. ReadPush (reader_of zeros skip behind_three) after chunk out out' r) (read_numbers zeros skip behind_three)

abbrev pub writer_of : ℕ → ByteWriter
writer_of zeros = record { zero_count = zeros }

abbrev pub write_numbers : Result Pushed Refusal → ByteWriter → List ℕ
write_numbers r after = answered r ∷ (pushed_of r).taken ∷ (pushed_of r).written ∷ after.zero_count ∷ []

abbrev pub FrontsWrite : ByteWriter → List ℕ → List ℕ → List ℕ → List ℕ → Type 0
FrontsWrite s chunk out out' = FrontsOn (λ r after. WritePush s after chunk out out' r) write_numbers

-- the number; whether the room was filled; and the count of filled bytes, or the index of the forbidden byte
abbrev pub decode_numbers : Result Decoded Undecoded → List ℕ
decode_numbers (Ok Own) = done ∷ 0 ∷ 0 ∷ []
decode_numbers (Ok (Filled n)) = done ∷ 1 ∷ n ∷ []
decode_numbers (Err TooLong) = too_long ∷ 0 ∷ 0 ∷ []
decode_numbers (Err Empty) = empty_nal ∷ 0 ∷ 0 ∷ []
decode_numbers (Err (Forbidden i)) = forbidden_byte ∷ 0 ∷ i ∷ []
decode_numbers (Err NoRoom) = no_room ∷ 0 ∷ 0 ∷ []

abbrev pub FrontsDecode : List ℕ → List ℕ → List ℕ → List ℕ → Type 0
FrontsDecode nal room room' = Fronts (Decodes nal room room') decode_numbers
