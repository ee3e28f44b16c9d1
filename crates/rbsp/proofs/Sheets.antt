-- The sheets pulled for checking (document 01), proved together: escaping.
use Prim.Native.Nat.{ℕ}
use mathlib.Core.Path.{◌≡◌, refl}
use mathlib.Core.List.{List, [], ◌∷◌}
use mathlib.Core.Option.{none, some}
use Rattle.std.specs.Prelude.{Ok}
use Rattle.rbsp.specs.Rule.{escape, unescape}
use Rattle.rbsp.specs.Answer.{decode_of, shown_of}
use Rattle.rbsp.specs.declared.nal.Decoded.TheVariants.{Own, Filled}

-- 68 12 34 00 00 03 00 86 gives 12 34 00 00 00 86 (from src/rbsp.rs)
abbrev with_escape : List ℕ
with_escape = 0x68 ∷ 0x12 ∷ 0x34 ∷ 0 ∷ 0 ∷ 3 ∷ 0 ∷ 0x86 ∷ []

-- 68 E8 43 8F 13 21 30: own tail, room untouched
abbrev without_escape : List ℕ
without_escape = 0x68 ∷ 0xE8 ∷ 0x43 ∷ 0x8F ∷ 0x13 ∷ 0x21 ∷ 0x30 ∷ []

pub record Sheets : Type 0 where
  -- in a room of 6 bytes, and what is then shown
  pub removed : decode_of with_escape 6 ≡ record { number = 0; value = some 6; bytes = 0x12 ∷ 0x34 ∷ 0 ∷ 0 ∷ 0 ∷ 0x86 ∷ [] }
  pub removed_shown : shown_of with_escape (0x12 ∷ 0x34 ∷ 0 ∷ 0 ∷ 0 ∷ 0x86 ∷ 0xAA ∷ []) (Ok (Filled 6)) ≡ 0x12 ∷ 0x34 ∷ 0 ∷ 0 ∷ 0 ∷ 0x86 ∷ []
  -- in no room at all
  pub own : decode_of without_escape 0 ≡ record { number = 0; value = none; bytes = [] }
  pub own_shown : shown_of without_escape [] (Ok Own) ≡ 0xE8 ∷ 0x43 ∷ 0x8F ∷ 0x13 ∷ 0x21 ∷ 0x30 ∷ []
  -- 68 12 34 00 00 00 86: 7, place 5
  pub forbidden : decode_of (0x68 ∷ 0x12 ∷ 0x34 ∷ 0 ∷ 0 ∷ 0 ∷ 0x86 ∷ []) 6 ≡ record { number = 7; value = some 5; bytes = [] }
  -- 68 00 00 03: 00 00
  pub last_three : decode_of (0x68 ∷ 0 ∷ 0 ∷ 3 ∷ []) 2 ≡ record { number = 0; value = some 2; bytes = 0 ∷ 0 ∷ [] }
  -- 68 00 00 03 04: 7, place 4
  pub four : decode_of (0x68 ∷ 0 ∷ 0 ∷ 3 ∷ 4 ∷ []) 4 ≡ record { number = 7; value = some 4; bytes = [] }
  -- 68: nothing
  pub header_alone : decode_of (0x68 ∷ []) 0 ≡ record { number = 0; value = none; bytes = [] }
  pub header_alone_shown : shown_of (0x68 ∷ []) [] (Ok Own) ≡ []
  -- empty: 8
  pub empty : decode_of [] 0 ≡ record { number = 8; value = none; bytes = [] }
  -- 00 00 00 00 00 escapes to 00 00 03 00 00 03 00; 00 00 03 to 00 00 03 03
  pub five_zeros : escape (0 ∷ 0 ∷ 0 ∷ 0 ∷ 0 ∷ []) ≡ 0 ∷ 0 ∷ 3 ∷ 0 ∷ 0 ∷ 3 ∷ 0 ∷ []
  pub three : escape (0 ∷ 0 ∷ 3 ∷ []) ≡ 0 ∷ 0 ∷ 3 ∷ 3 ∷ []
  -- a removed 03 as the last byte does not come back
  pub lost : escape (unescape (0 ∷ 0 ∷ 3 ∷ [])) ≡ 0 ∷ 0 ∷ []

pub sheets : Sheets
unfolding decode_of escape unescape
sheets =
    record {
      removed = refl;
      removed_shown = refl;
      own = refl;
      own_shown = refl;
      forbidden = refl;
      last_three = refl;
      four = refl;
      header_alone = refl;
      header_alone_shown = refl;
      empty = refl;
      five_zeros = refl;
      three = refl;
      lost = refl;
    }
