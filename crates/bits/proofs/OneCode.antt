-- Each value has one code: values and codes correspond one to one, and no code is a prefix of another.
use mathlib.Core.Path.{◌≡◌, refl, sym, ap, ap₂, ◌∙◌, subst}
use mathlib.Core.List.{List, [], ◌∷◌, ◌++◌, append_assoc, append-nil}
use Prim.Native.Nat.{ℕ, zero, suc, ◌+◌, ◌-◌, ◌*◌, ◌/◌, ◌%◌, ◌^◌, ◌<◌}
use native.Mathlib.Nat.{pow-suc}
use native.Mathlib.Omega.{arith}
use lib.ListN.{length, get_or, take, drop, replicate}
use lib.Seq.{take_at, drop_at, get_or_at}
use lib.Pow.{pow-add, pow_pos, pow_mono, high, low}
use lib.Arith.{digits_lt}
use native.Mathlib.Numerals.{one-add}
use lib.IntN.{ℤ}
use Rattle.bits.specs.Rule.{AllBits, UeForm, bits_of, ue_code, UeRange, prefix_of, se_code, SeRange, signed_of, unsigned_of}
use Rattle.bits.proofs.Codes.{length_bits_of, bits_split, bits_mod, no_bits}
use Rattle.bits.proofs.Top.{prefix, top_is}
use Rattle.bits.proofs.Signs.{signed_unsigned, has_code}

-- ---- the bits of a number, and back

-- n bits tell their number
pub bits_tell : (n u v : ℕ) → u < 2 ^ n → v < 2 ^ n → bits_of n u ≡ bits_of n v → u ≡ v
unfolding bits_of
bits_tell zero u v hu hv e = omega arith
bits_tell (suc n) u v hu hv e =
    let lu = length_bits_of n (u / 2) in
    let lv = length_bits_of n (v / 2) in
    let high : bits_of n (u / 2) ≡ bits_of n (v / 2) =
    sym (take_at (bits_of n (u / 2)) (u % 2 ∷ []) n lu) ∙ ap (take n) e ∙ take_at (bits_of n (v / 2)) (v % 2 ∷ []) n lv in
    let low : u % 2 ≡ v % 2 =
    sym (get_or_at (bits_of n (u / 2)) (u % 2) [] 0 n lu) ∙ ap (λ (l : List ℕ). get_or l n 0) e ∙ get_or_at (bits_of n (v / 2)) (v % 2) [] 0 n lv in
    let half = bits_tell n (u / 2) (v / 2) (omega arith) (omega arith) high in
    omega arith

bit_list : (b : ℕ) → b < 2 → bits_of 1 b ≡ b ∷ []
unfolding bits_of
bit_list b h = let e : b % 2 ≡ b = omega arith in rw e

-- ---- no code is the front of another

zeros_one : (m k : ℕ) (a b : List ℕ) → replicate m 0 ++ (1 ∷ a) ≡ replicate k 0 ++ (1 ∷ b) → (m ≡ k) × (a ≡ b)
zeros_one zero zero a b e = (refl, (cc))
zeros_one zero (suc k) a b e = cc
zeros_one (suc m) zero a b e = cc
zeros_one (suc m) (suc k) a b e =
    let f : replicate m 0 ++ (1 ∷ a) ≡ replicate k 0 ++ (1 ∷ b) = cc in
    let r = zeros_one m k a b f in
    (ap suc r.0, r.1)

-- where the codes of two values begin one list, the values are one, and so is what follows
pub ue_apart : (v w : ℕ) → UeRange v → UeRange w → (x y : List ℕ) → ue_code v ++ x ≡ ue_code w ++ y → (v ≡ w) × (x ≡ y)
unfolding ue_code
ue_apart v w hv hw x y e =
    let m = prefix_of v in
    let k = prefix_of w in
    let a = v + 1 - 2 ^ m in
    let b = w + 1 - 2 ^ k in
    let pv = prefix v hv in
    let pw = prefix w hw in
    let z = zeros_one m k (bits_of m a ++ x) (bits_of k b ++ y)
    (sym (append_assoc (replicate m 0) (1 ∷ bits_of m a) x) ∙ e ∙ append_assoc (replicate k 0) (1 ∷ bits_of k b) y) in
    let same : bits_of m a ++ x ≡ bits_of m b ++ y = z.1 ∙ ap (λ (i : ℕ). bits_of i b ++ y) (sym z.0) in
    let la = length_bits_of m a in
    let lb = length_bits_of m b in
    let front : bits_of m a ≡ bits_of m b = sym (take_at (bits_of m a) x m la) ∙ ap (take m) same ∙ take_at (bits_of m b) y m lb in
    let power : 2 ^ m ≡ 2 ^ k = ap (λ (i : ℕ). 2 ^ i) z.0 in
    let low = pv.low in
    let high = pv.high in
    let low' = pw.low in
    let high' = pw.high in
    let tell = bits_tell m a b (omega arith) (omega (arith, pow-suc 2 k)) front in (
      omega arith,
      sym (drop_at (bits_of m a) x m la) ∙ ap (drop m) same ∙ drop_at (bits_of m b) y m lb,
    )

-- so two values have two codes
pub ue_one : (v w : ℕ) → UeRange v → UeRange w → ue_code v ≡ ue_code w → v ≡ w
ue_one v w hv hw e = (ue_apart v w hv hw [] [] (ap (λ (c : List ℕ). c ++ []) e)).0

-- and none is a prefix of another
pub ue_no_prefix : (v w : ℕ) → UeRange v → UeRange w → (x : List ℕ) → ue_code v ++ x ≡ ue_code w → v ≡ w
ue_no_prefix v w hv hw x e = (ue_apart v w hv hw x [] (e ∙ sym (append-nil (ue_code w)))).0

pub se_apart : (v w : ℤ) → SeRange v → SeRange w → (x y : List ℕ) → se_code v ++ x ≡ se_code w ++ y → (v ≡ w) × (x ≡ y)
se_apart v w hv hw x y e =
    let r = ue_apart (unsigned_of v) (unsigned_of w) (has_code v hv) (has_code w hw) x y e in
    (sym (signed_unsigned v) ∙ ap signed_of r.0 ∙ signed_unsigned w, r.1)

-- ---- each list of the code's form is the code of a value

number : List ℕ → ℕ
number [] = 0
number (b ∷ l) = b * 2 ^ length l + number l

number_lt : (l : List ℕ) → AllBits l → number l < 2 ^ length l
unfolding number
number_lt [] h = omega arith
number_lt (b ∷ l) h = rw (← one-add (length l), pow-add) (digits_lt h.0 (number_lt l h.1))

bits_number : (l : List ℕ) → AllBits l → bits_of (length l) (number l) ≡ l
unfolding number
bits_number [] h = no_bits 0
bits_number (b ∷ l) h =
    let n = length l in
    let below = number_lt l h.1 in
    ap (λ (k : ℕ). bits_of k (b * 2 ^ n + number l)) (sym (one-add n)) ∙ bits_split 1 n (b * 2 ^ n + number l)
    ∙ ap₂ (λ (x y : List ℕ). x ++ y)
    (ap (bits_of 1) (high b n below) ∙ bit_list b h.0)
    (sym (bits_mod n (b * 2 ^ n + number l)) ∙ ap (bits_of n) (low b n below) ∙ bits_number l h.1)

-- a list of the code's form is the code of a value
pub form_ue : {code : List ℕ} → UeForm code → (v : ℕ) × UeRange v × (ue_code v ≡ code)
unfolding ue_code
form_ue {code} c =
    let m = c.zeros in
    let b = c.rest in
    let x = number b in
    let few = c.few in
    let below : x < 2 ^ m = subst (λ (i : ℕ). x < 2 ^ i) c.long (number_lt b c.bits) in
    let v = 2 ^ m - 1 + x in
    let above = pow_pos m in
    let p : prefix_of v ≡ m = top_is 31 (v + 1) m few (omega arith) (omega (arith, pow-suc 2 m)) in
    let rest : v + 1 - 2 ^ m ≡ x = omega arith in
    let tail : bits_of m x ≡ b = ap (λ (i : ℕ). bits_of i x) (sym c.long) ∙ bits_number b c.bits in (
      v,
      omega (arith, pow_mono {i = m} {j = 31} few),
      ap (λ (i : ℕ). replicate i 0 ++ (1 ∷ bits_of i (v + 1 - 2 ^ i))) p ∙ ap (λ (l : List ℕ). replicate m 0 ++ (1 ∷ l)) (ap (bits_of m) rest ∙ tail)
          ∙ sym c.is,
    )

-- and the code of a value has that form
all_append : (a b : List ℕ) → AllBits a → AllBits b → AllBits (a ++ b)
all_append [] b h k = k
all_append (x ∷ a) b h k = (h.0, all_append a b h.1 k)

bits_all : (n v : ℕ) → AllBits (bits_of n v)
unfolding bits_of
bits_all zero v = tt
bits_all (suc n) v = all_append (bits_of n (v / 2)) (v % 2 ∷ []) (bits_all n (v / 2)) (omega arith, tt)

pub ue_form : (v : ℕ) → UeRange v → UeForm (ue_code v)
unfolding ue_code
ue_form v h =
    let m = prefix_of v in
    let x = v + 1 - 2 ^ m in
    record { zeros = m; few = (prefix v h).short; rest = bits_of m x; bits = bits_all m x; long = length_bits_of m x; is = refl }
