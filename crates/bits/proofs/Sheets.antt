-- Document 01's starred cases of ue and finish, proved together, by computing.
use mathlib.Core.Path.{◌≡◌, refl}
use mathlib.Core.List.{[], ◌∷◌, ◌++◌}
use lib.ListN.{replicate}
use Rattle.desk.specs.Numbers.{entry_of}
use Rattle.bits.specs.Rule.{bit_at, last_one, bits_of, top_of, ue_code}
use Rattle.bits.specs.Answer.{past_end, finish_rbsp}

-- ue 0, 1, 2, 3 are 1, 010, 011, 00100, and 2^32-2 is 31 zeros, 32 ones; finish: 80 00 00 at 0: 0. C0 at 0: 6, at 1: 0. 00: 4. 40 at 0: 6
pub sheets :
    (ue_code 0 ≡ 1 ∷ [])
    × (ue_code 1 ≡ 0 ∷ 1 ∷ 0 ∷ [])
    × (ue_code 2 ≡ 0 ∷ 1 ∷ 1 ∷ [])
    × (ue_code 3 ≡ 0 ∷ 0 ∷ 1 ∷ 0 ∷ 0 ∷ [])
    × (ue_code 4294967294 ≡ replicate 31 0 ++ replicate 32 1)
    × (finish_rbsp (0x80 ∷ 0x00 ∷ 0x00 ∷ []) 0 ≡ 0)
    × (finish_rbsp (0xc0 ∷ []) 0 ≡ 6)
    × (finish_rbsp (0xc0 ∷ []) 1 ≡ 0)
    × (finish_rbsp (0x00 ∷ []) 0 ≡ 4)
    × (finish_rbsp (0x40 ∷ []) 0 ≡ 6)
unfolding ue_code top_of bits_of finish_rbsp entry_of past_end last_one bit_at
sheets = (refl, refl, refl, refl, refl, refl, refl, refl, refl, refl)
