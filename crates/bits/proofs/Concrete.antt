-- Reads of bytes that are written out, by computing: for the crates above, which cannot open the definitions.
use mathlib.Core.Path.{◌≡◌, sym, ap, ◌∙◌, subst}
use mathlib.Core.List.{List, [], ◌∷◌}
use mathlib.Core.Bool.{Bool, true, false, ◌&&◌}
use Prim.Native.Nat.{ℕ, zero, suc, ◌+◌, ◌-◌, ◌*◌, ◌/◌, ◌%◌, ◌^◌, ◌≤◌, ◌<◌}
use native.Mathlib.Nat.{zero-add}
use native.Mathlib.Omega.{arith}
use borrow.Author.Tests.{ltb-true, leb-true, eqb-true}
use lib.Dec.{ltb, leb, eqb}
use lib.ListN.{length, get_or}
use lib.Pow.{pow_mono}
use Rattle.desk.specs.Numbers.{most}
use Rattle.desk.proofs.Choice.{and_left, and_right}
use Rattle.bits.specs.Rule.{size, value_at, bits_of, prefix_of, Stands}
use Rattle.bits.specs.Answer.{got, no, bit_number, ue_width, read_bits, read_bit, read_ue}
use Rattle.bits.specs.Reading.{Entered, OneAfter, ue_none, ue_many}
use Rattle.bits.proofs.Value.{value_zero, value_split, value_byte, value_field}
use Rattle.bits.proofs.Codes.{length_bits_of, value_stands, ue_bits, length_ue}
use Rattle.bits.proofs.Top.{top_is}
use Rattle.bits.proofs.Reading.{bits_codes, bit_codes, ue_codes, bits_of_bit}
use Rattle.bits.proofs.Refusing.{ue_refuse}

-- the first i bytes as one number
abbrev pub bytes_number : List ℕ → ℕ → ℕ
bytes_number s zero = 0
bytes_number s (suc i) = bytes_number s i * 256 + get_or s i 0

-- each is a byte
abbrev pub bytes : List ℕ → Bool
bytes [] = true
bytes (b ∷ s) = ltb b 256 && bytes s

byte_at : (s : List ℕ) → bytes s ≡ true → (i : ℕ) → get_or s i 0 < 256
byte_at [] h i = omega arith
byte_at (b ∷ s) h zero = ltb-true b 256 (and_left (ltb b 256) (bytes s) h)
byte_at (b ∷ s) h (suc i) = byte_at s (and_right (ltb b 256) (bytes s) h) i

joined_is : (s : List ℕ) → bytes s ≡ true → (i : ℕ) → value_at s 0 (8 * i) ≡ bytes_number s i
joined_is s h zero = value_zero s 0
joined_is s h (suc i) =
    let e : 8 * suc i ≡ 8 * i + 8 = omega arith in
    ap (value_at s 0) e ∙ value_split s 0 (8 * i) 8
    ∙ omega (arith, joined_is s h i, ap (λ (k : ℕ). value_at s k 8) (zero-add (8 * i)) ∙ value_byte s i (byte_at s h i))

-- the n bits at p of the bytes s, as a number
abbrev pub field : List ℕ → ℕ → ℕ → ℕ
field s p n = bytes_number s (length s) / 2 ^ (size s - (p + n)) % 2 ^ n

-- they are there, and make v
abbrev pub makes : List ℕ → ℕ → ℕ → ℕ → Bool
makes s p n v = bytes s && (leb (length s) most && (leb (p + n) (size s) && eqb (field s p n) v))

record Made (s : List ℕ) (p n v : ℕ) : Type 0 where
  pub entered : Entered s p
  pub within : p + n ≤ size s
  pub value : value_at s p n ≡ v
  pub stands : Stands s p (bits_of n v)

made : (s : List ℕ) (p n v : ℕ) → makes s p n v ≡ true → Made s p n v
made s p n v h =
    let a = and_right (bytes s) _ h in
    let b = and_right (leb (length s) most) _ a in
    let within = leb-true (p + n) (size s) (and_left (leb (p + n) (size s)) _ b) in
    let r = size s - (p + n) in
    let e : p + n + r ≡ size s = omega arith in
    let value : value_at s p n ≡ v =
    sym (ap (λ (k : ℕ). value_at s k n) (zero-add p)) ∙ sym (value_field s 0 p n r)
    ∙ ap (λ (k : ℕ). value_at s 0 k / 2 ^ r % 2 ^ n) e
    ∙ ap (λ (x : ℕ). x / 2 ^ r % 2 ^ n) (joined_is s (and_left (bytes s) _ h) (length s))
    ∙ eqb-true (field s p n) v (and_right (leb (p + n) (size s)) _ b) in
    record {
      entered = record { small = leb-true (length s) most (and_left (leb (length s) most) _ a); within = omega arith };
      within = within;
      value = value;
      stands = subst (λ (x : ℕ). Stands s p (bits_of n x)) value (value_stands s p n within);
    }

-- u(n)
pub bits_here : (s : List ℕ) (p n v : ℕ) → (makes s p n v && (leb n 32 && ltb v (2 ^ n))) ≡ true → read_bits s p n ≡ got v (p + n)
bits_here s p n v h =
    let b = and_right (makes s p n v) _ h in
    let m = made s p n v (and_left (makes s p n v) _ h) in
    (bits_codes n (leb-true n 32 (and_left (leb n 32) _ b))).gives s p v m.entered (ltb-true v (2 ^ n) (and_right (leb n 32) _ b)) m.stands
    ∙ ap (λ (k : ℕ). got v (p + k)) (length_bits_of n v)

-- a flag
pub flag_here : (s : List ℕ) (p : ℕ) (b : Bool) → makes s p 1 (bit_number b) ≡ true → read_bit s p ≡ got b (p + 1)
flag_here s p true h =
    let m = made s p 1 1 h in bit_codes.gives s p true m.entered tt (subst (Stands s p) (bits_of_bit 1 (omega arith)) m.stands)
flag_here s p false h =
    let m = made s p 1 0 h in bit_codes.gives s p false m.entered tt (subst (Stands s p) (bits_of_bit 0 (omega arith)) m.stands)

-- ue(v): z zeros, a one and z bits, which are v + 1
abbrev pub code_fits : ℕ → ℕ → Bool
code_fits z v = leb z 31 && (leb (2 ^ z) (v + 1) && ltb (v + 1) (2 ^ suc z))

pub ue_here : (s : List ℕ) (p z v : ℕ) → (makes s p (z + (z + 1)) (v + 1) && code_fits z v) ≡ true → read_ue s p ≡ got v (p + (z + (z + 1)))
ue_here s p z v h =
    let b = and_right (makes s p (z + (z + 1)) (v + 1)) _ h in
    let c = and_right (leb z 31) _ b in
    let m = made s p (z + (z + 1)) (v + 1) (and_left (makes s p (z + (z + 1)) (v + 1)) _ h) in
    let few = leb-true z 31 (and_left (leb z 31) _ b) in
    let high = ltb-true (v + 1) (2 ^ suc z) (and_right (leb (2 ^ z) (v + 1)) _ c) in
    let top : prefix_of v ≡ z = top_is 31 (v + 1) z few (leb-true (2 ^ z) (v + 1) (and_left (leb (2 ^ z) (v + 1)) _ c)) high in
    let w : ue_width v ≡ z + (z + 1) = omega arith in
    let below : v < 4294967295 = omega (arith, pow_mono {i = suc z} {j = 32} (omega arith)) in
    ue_codes.gives s p v m.entered below (subst (Stands s p) (ap (λ (k : ℕ). bits_of k (v + 1)) (sym w) ∙ ue_bits v below) m.stands)
    ∙ ap (λ (k : ℕ). got v (p + k)) (length_ue v ∙ w)

-- no one up to the end
pub none_here : (s : List ℕ) (p : ℕ) → makes s p (size s - p) 0 ≡ true → read_ue s p ≡ no 4
none_here s p h = let m = made s p (size s - p) 0 h in ue_refuse (ue_none m.entered m.value)

-- a one behind z zeros, more than 31
pub many_here : (s : List ℕ) (p z : ℕ) → (makes s p (suc z) 1 && ltb 31 z) ≡ true → read_ue s p ≡ no 5
many_here s p z h =
    let m = made s p (suc z) 1 (and_left (makes s p (suc z) 1) _ h) in
    let w = m.within in
    let after : OneAfter s p z = record { within = omega arith; one = m.value } in
    ue_refuse (ue_many z m.entered after (ltb-true 31 z (and_right (makes s p (suc z) 1) _ h)))
