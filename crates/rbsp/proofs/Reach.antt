-- Every number that a call can give is given by some input.
use Prim.Native.Nat.{ℕ, ◌<◌}
use native.Mathlib.Omega.{arith}
use mathlib.Core.Path.{◌≡◌, refl, ap, ◌∙◌}
use mathlib.Core.List.{List, [], ◌∷◌}
use lib.ListN.{length}
use borrow.Author.Tests.{lt-ltb}
use Rattle.desk.specs.Numbers.{most, entry_of}
use Rattle.desk.specs.Push.{Answer, answers, run, push_of}
use Rattle.desk.proofs.Entering.{entry_long}
use Rattle.desk.proofs.Taking.{push_refused}
use Rattle.rbsp.specs.Rule.{unescape}
use Rattle.rbsp.specs.Step.{read_step, skipping, read_entry, write_step, write_entry, zeros, bad_reader}
use Rattle.rbsp.specs.Answer.{refuses, decode_of}
use Rattle.rbsp.specs.declared.reader.ParseState.{ParseState}
use Rattle.rbsp.specs.declared.reader.ParseState.TheVariants.{Start, PostThree}
use Rattle.rbsp.specs.declared.writer.ByteWriter.{ByteWriter}

-- a push of the reader, and of the writer, with the entry checks
abbrev reader : ParseState → List ℕ → ℕ → Answer ParseState
reader s chunk w = push_of read_step (read_entry s (length chunk) w 0) s chunk w 0

abbrev writer : ByteWriter → List ℕ → ℕ → Answer ByteWriter
writer s chunk w = push_of write_step (write_entry s (length chunk) w 0) s chunk w 0

pub record Reached : Type 0 where
  -- reading: a removed 03 is taken with no room; 1 is given for a room of one element too many; 2 for a stored run of 3; 7 whatever room is left
  pub read_0 : reader (Start 2) (3 ∷ []) 0 ≡ record { number = 0; taken = 1; bytes = []; marks = []; after = PostThree }
  pub read_1 : reader (skipping 0) [] 16777217 ≡ answers 1 (skipping 0)
  pub read_2 : reader (Start 3) [] 0 ≡ answers 2 (Start 3)
  pub read_7 : reader (skipping 0) (0 ∷ 0 ∷ 1 ∷ 5 ∷ []) 2 ≡ record { number = 7; taken = 2; bytes = 0 ∷ 0 ∷ []; marks = []; after = Start 2 }
  pub read_7_again : reader (Start 2) (1 ∷ 5 ∷ []) 0 ≡ answers 7 (Start 2)
  -- one behind a byte that did not fit is not met
  pub read_unmet : reader (skipping 0) (9 ∷ 0 ∷ 0 ∷ 1 ∷ []) 2 ≡ record { number = 0; taken = 2; bytes = 9 ∷ 0 ∷ []; marks = []; after = Start 1 }
  -- a skipped byte is taken with no room, and unexamined
  pub read_skipped : reader (skipping 2) (0 ∷ 0 ∷ 1 ∷ []) 0 ≡ record { number = 0; taken = 2; bytes = []; marks = []; after = Start 0 }
  -- writing: room 1 takes a byte that releases one, and not one that releases two
  pub write_0 : writer (zeros 0) (0 ∷ []) 1 ≡ record { number = 0; taken = 1; bytes = 0 ∷ []; marks = []; after = zeros 1 }
  pub write_0_full : writer (zeros 2) (0 ∷ []) 1 ≡ answers 0 (zeros 2)
  pub write_1 : writer (zeros 0) [] 16777217 ≡ answers 1 (zeros 0)
  pub write_2 : writer (zeros 3) [] 0 ≡ answers 2 (zeros 3)
  -- a whole NAL: 0, 7 and 8 are document 01's cases (Sheets); 10 with one byte too little room, and not where nothing was removed
  pub decode_1 : decode_of [] 16777217 ≡ refuses 1
  pub decode_10 : decode_of (0x68 ∷ 0 ∷ 0 ∷ 3 ∷ []) 1 ≡ refuses 10

pub reached : Reached
unfolding run push_of entry_of decode_of unescape
reached =
    record {
      read_0 = refl;
      read_1 = refl;
      read_2 = refl;
      read_7 = refl;
      read_7_again = refl;
      read_unmet = refl;
      read_skipped = refl;
      write_0 = refl;
      write_0_full = refl;
      write_1 = refl;
      write_2 = refl;
      decode_1 = refl;
      decode_10 = refl;
    }

-- a chunk or a NAL that is too long answers 1 too, whatever the state is
pub chunk_1 : (s : ParseState) (chunk : List ℕ) (w : ℕ) → most < length chunk → reader s chunk w ≡ answers 1 s
chunk_1 s chunk w h =
    ap (λ (e : ℕ). push_of read_step e s chunk w 0) (entry_long (length chunk ∷ w ∷ 0 ∷ []) (bad_reader s) (rw (lt-ltb most (length chunk) h)))
    ∙ push_refused read_step 1 s chunk w 0 (λ e. let x : ⊥ = omega arith in x)

pub nal_1 : (nal : List ℕ) (w : ℕ) → most < length nal → decode_of nal w ≡ refuses 1
unfolding decode_of
nal_1 nal w h = rw (lt-ltb most (length nal) h)
