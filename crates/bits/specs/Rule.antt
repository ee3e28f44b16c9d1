-- THE RULE OF BITS (Rec 7.2, 9.1), over whole lists of bytes.
use Rattle.std.specs.Prelude.{ℕ, zero, suc, ◌+◌, ◌-◌, ◌*◌, ◌/◌, ◌%◌, ◌^◌, ◌≤◌, ◌<◌, ◌≡◌, List, [], ◌∷◌, ◌++◌, cond, length, get_or, take, drop, replicate, eqb, leb, ℤ, pos, negsuc, neg_ℤ, nat_abs}
use Rattle.std.proofs.Math.Option.{Option, none, some}

-- how many bits s has
abbrev pub size : List ℕ → ℕ
size s = 8 * length s

-- the bit at place p: byte p / 8, and in it the highest bit first
unfoldable pub bit_at : List ℕ → ℕ → ℕ
bit_at s p = get_or s (p / 8) 0 / 2 ^ (7 - p % 8) % 2

-- Rec 7.2, read_bits(n): the number that the n bits from place p make, the first of them the highest
unfoldable pub value_at : List ℕ → ℕ → ℕ → ℕ
value_at s p zero = 0
value_at s p (suc n) = value_at s p n * 2 + bit_at s (p + n)

abbrev pub or_else : {A : Type 0} → Option A → Option A → Option A
or_else none b = b
or_else (some a) b = some a

-- the place of the first one among the n bits from place p
unfoldable pub first_one : List ℕ → ℕ → ℕ → Option ℕ
first_one s p zero = none
first_one s p (suc n) = or_else (first_one s p n) (cond (eqb (bit_at s (p + n)) 1) (some (p + n)) none)

-- the place of the last one among the n bits from place p
unfoldable pub last_one : List ℕ → ℕ → ℕ → Option ℕ
last_one s p zero = none
last_one s p (suc n) = cond (eqb (bit_at s (p + n)) 1) (some (p + n)) (last_one s p n)

-- by places: a one with no one before it, and a one with no one behind it (proofs/Found.antt: what is found is that, and that is found)
pub record IsFirst (s : List ℕ) (p n q : ℕ) : Type 0 where
  pub from : p ≤ q
  pub within : q < p + n
  pub one : bit_at s q ≡ 1
  pub zeros : (i : ℕ) → p ≤ i → i < q → bit_at s i ≡ 0

pub record IsLast (s : List ℕ) (p n q : ℕ) : Type 0 where
  pub from : p ≤ q
  pub within : q < p + n
  pub one : bit_at s q ≡ 1
  pub zeros : (i : ℕ) → q < i → i < p + n → bit_at s i ≡ 0

-- and no one at all
abbrev pub NoOne : List ℕ → ℕ → ℕ → Type 0
NoOne s p n = (i : ℕ) → p ≤ i → i < p + n → bit_at s i ≡ 0

-- ---- codes, as lists of bits

-- u(n) of v: the n low bits of v, the highest first
unfoldable pub bits_of : ℕ → ℕ → List ℕ
bits_of zero v = []
bits_of (suc n) v = bits_of n (v / 2) ++ (v % 2 ∷ [])

-- the values that n bits hold
abbrev pub URange : ℕ → ℕ → Type 0
URange n v = v < 2 ^ n

-- all bits of a list of bytes
unfoldable pub bits : List ℕ → List ℕ
bits [] = []
bits (b ∷ s) = bits_of 8 b ++ bits s

-- a code stands in s from place p on
pub record Stands (s : List ℕ) (p : ℕ) (code : List ℕ) : Type 0 where
  pub within : p + length code ≤ size s
  pub there : take (length code) (drop p (bits s)) ≡ code

-- the place of the highest one of a, counted from the lowest bit: the largest j up to k with 2 ^ j at most a
unfoldable pub top_of : ℕ → ℕ → ℕ
top_of zero a = 0
top_of (suc k) a = cond (leb (2 ^ suc k) a) (suc k) (top_of k a)

-- how many zeros stand before the one of v's code
abbrev pub prefix_of : ℕ → ℕ
prefix_of v = top_of 31 (v + 1)

-- Rec 9.1, ue(v): M zeros, a one, and M bits, which with 2 ^ M - 1 make v
unfoldable pub ue_code : ℕ → List ℕ
ue_code v = replicate (prefix_of v) 0 ++ (1 ∷ bits_of (prefix_of v) (v + 1 - 2 ^ prefix_of v))

-- a list of that form, with M at most 31 (proofs/OneCode.antt: these lists are the codes)
abbrev pub AllBits : List ℕ → Type 0
AllBits [] = Unit
AllBits (b ∷ l) = (b < 2) × AllBits l

pub record UeForm (code : List ℕ) : Type 0 where
  pub zeros : ℕ
  pub few : zeros ≤ 31
  pub rest : List ℕ
  pub bits : AllBits rest
  pub long : length rest ≡ zeros
  pub is : code ≡ replicate zeros 0 ++ (1 ∷ rest)

-- the values that have a code: up to 2 ^ 32 - 2
abbrev pub UeRange : ℕ → Type 0
UeRange v = v < 4294967295

-- Rec 9.1.1, se(v): odd k stands for (k + 1) / 2, even k for -(k / 2)
abbrev pub signed_of : ℕ → ℤ
signed_of k = cond (eqb (k % 2) 1) (pos ((k + 1) / 2)) (neg_ℤ (pos (k / 2)))

-- and back: 0, 1, -1, 2, -2 are 0, 1, 2, 3, 4
abbrev pub unsigned_of : ℤ → ℕ
unsigned_of (pos zero) = 0
unsigned_of (pos (suc n)) = 2 * n + 1
unsigned_of (negsuc n) = 2 * n + 2

-- the values that have a code: -(2 ^ 31 - 1) to 2 ^ 31 - 1
abbrev pub SeRange : ℤ → Type 0
SeRange z = nat_abs z ≤ 2147483647

abbrev pub se_code : ℤ → List ℕ
se_code z = ue_code (unsigned_of z)

-- Rec 7.3.2.11, rbsp_trailing_bits, behind c bits of a byte: a one, then zeros to the byte boundary
abbrev pub trailing_bits : ℕ → List ℕ
trailing_bits c = 1 ∷ replicate (7 - c) 0
