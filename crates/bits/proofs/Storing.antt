-- What a writer stores, as numbers: bytes of a number, the pending bits shifted up and the new ones behind them.
use mathlib.Core.Path.{◌≡◌, refl, sym, ap, ap₂, ◌∙◌}
use mathlib.Core.List.{List, [], ◌∷◌, ◌++◌, append_assoc, append-nil}
use Prim.Native.Nat.{ℕ, zero, suc, ◌+◌, ◌-◌, ◌*◌, ◌/◌, ◌%◌, ◌^◌, ◌≤◌, ◌<◌}
use native.Mathlib.Nat.{pow-suc, mod-lt, mod-eq_of_lt, div-one, add-zero, add-suc, add_assoc, mul_assoc}
use native.Mathlib.Numerals.{one-add}
use native.Mathlib.Omega.{arith}
use lib.ListN.{length, take, drop, length-drop, length-append, take-append-drop}
use lib.Seq.{paste, take_all, take_at, drop_at, drop-append-add, drop-drop, length-take-le}
use lib.Pow.{pow-add, mod-pow-add, mod-mod-pow, field, high, low, shr-shr, shl_exact, pow_pos}
use lib.Bits.{bit_and}
use Rattle.std.specs.Int.{w64, to_be_bytes, bytes_high_first, byte_at}
use Rattle.desk.specs.Numbers.{most}
use Rattle.bits.specs.Step.{bytes_of, filled, whole_with, writer, stored, stored_more, wrote, Good, GoodAfter}
use Rattle.bits.specs.declared.BitWriter.{BitWriter}
use Rattle.bits.proofs.Value.{masked}

-- ---- the bytes of a number

pub length_bytes : (k x : ℕ) → length (bytes_of k x) ≡ k
unfolding bytes_of
length_bytes zero x = refl
length_bytes (suc k) x = length-append (bytes_of k (x / 256)) (x % 256 ∷ []) ∙ omega (arith, length_bytes k (x / 256))

-- all bytes pasted
pub paste_filled : (o : List ℕ) (w k y : ℕ) → paste o w (bytes_of k y) k ≡ filled o w k y
paste_filled o w k y =
    ap (λ (l : List ℕ). take w o ++ l ++ drop (w + k) o) (take_all k (bytes_of k y) (omega (arith, length_bytes k y)))

pub bytes_split : (j k z : ℕ) → bytes_of (j + k) z ≡ bytes_of j (z / 2 ^ (8 * k)) ++ bytes_of k z
unfolding bytes_of
bytes_split j zero z = ap₂ bytes_of (add-zero j) (sym (div-one z)) ∙ sym (append-nil (bytes_of j (z / 1)))
bytes_split j (suc k) z =
    let e : 8 + 8 * k ≡ 8 * suc k = omega arith in
    ap (λ (n : ℕ). bytes_of n z) (add-suc j k)
    ∙ ap (λ (l : List ℕ). l ++ (z % 256 ∷ []))
    (bytes_split j k (z / 256) ∙ ap (λ (y : ℕ). bytes_of j y ++ bytes_of k (z / 256)) (shr-shr z 8 (8 * k) ∙ ap (λ (n : ℕ). z / 2 ^ n) e))
    ∙ append_assoc (bytes_of j (z / 2 ^ (8 * suc k))) (bytes_of k (z / 256)) (z % 256 ∷ [])

pub bytes_mod : (k z : ℕ) → bytes_of k (z % 2 ^ (8 * k)) ≡ bytes_of k z
unfolding bytes_of
bytes_mod zero z = refl
bytes_mod (suc k) z =
    let e : 8 * suc k ≡ 8 * k + 8 = omega arith in
    ap₂ (λ (y b : ℕ). bytes_of k y ++ (b ∷ []))
    (ap (λ (n : ℕ). z % 2 ^ n / 256) e ∙ field z (8 * k) 8)
    (ap (λ (n : ℕ). z % 2 ^ n % 256) e ∙ mod-mod-pow z (8 * k) 8)
    ∙ ap (λ (l : List ℕ). l ++ (z % 256 ∷ [])) (bytes_mod k (z / 256))

pow_256 : (k : ℕ) → 256 ^ k ≡ 2 ^ (8 * k)
pow_256 zero = refl
pow_256 (suc k) =
    pow-suc 256 k ∙ ap (λ (x : ℕ). x * 256) (pow_256 k) ∙ sym (pow-add 2 (8 * k) 8) ∙ ap (λ (n : ℕ). 2 ^ n) (omega arith)

high_first : (k x : ℕ) → bytes_high_first k x ≡ bytes_of k x
unfolding bytes_of
high_first zero x = refl
high_first (suc k) x =
    ap₂ (λ (b : ℕ) (l : List ℕ). b ∷ l) (high_byte k x) (high_first k x) ∙ sym (bytes_split 1 k x) ∙ ap (λ (n : ℕ). bytes_of n x) (one-add k)
  where
    high_byte : (k x : ℕ) → byte_at k x ≡ x / 2 ^ (8 * k) % 256
    high_byte zero x = ap (λ (y : ℕ). y % 256) (sym (div-one x))
    high_byte (suc k) x = ap (λ (y : ℕ). x / y % 256) (pow_256 (suc k))

-- the last k of the eight bytes of a u64
pub last_bytes : (k x : ℕ) → k ≤ 8 → drop (8 - k) (to_be_bytes w64 x) ≡ bytes_of k x
last_bytes k x h =
    let cut : 8 ≡ 8 - k + k = omega arith in
    ap (drop (8 - k)) (high_first 8 x ∙ ap (λ (n : ℕ). bytes_of n x) cut ∙ bytes_split (8 - k) k x)
    ∙ drop_at (bytes_of (8 - k) (x / 2 ^ (8 * k))) (bytes_of k x) (8 - k) (length_bytes (8 - k) (x / 2 ^ (8 * k)))

-- ---- a room that was filled

-- the front of a filled buffer
pub take_filled : (o : List ℕ) (w k y : ℕ) → w + k ≤ length o → take (w + k) (filled o w k y) ≡ take w o ++ bytes_of k y
take_filled o w k y h = take_at (take w o ++ bytes_of k y) (drop (w + k) o) (w + k)
    (length-append (take w o) (bytes_of k y) ∙ omega (arith, length-take-le w o (omega arith), length_bytes k y))

pub length_filled : (o : List ℕ) (w k y : ℕ) → w + k ≤ length o → length (filled o w k y) ≡ length o
length_filled o w k y h =
    length-append (take w o ++ bytes_of k y) (drop (w + k) o)
    ∙ omega (arith, length-append (take w o) (bytes_of k y), length-take-le w o (omega arith), length_bytes k y, length-drop (w + k) o)

pub drop_filled : (o : List ℕ) (w k y j : ℕ) → w + k ≤ length o → drop (w + k + j) (filled o w k y) ≡ drop (w + (k + j)) o
drop_filled o w k y j h =
    let front : w + k ≡ length (take w o ++ bytes_of k y) =
    sym (length-append (take w o) (bytes_of k y) ∙ omega (arith, length-take-le w o (omega arith), length_bytes k y)) in
    ap (λ (n : ℕ). drop (n + j) (filled o w k y)) front
    ∙ drop-append-add (take w o ++ bytes_of k y) (drop (w + k) o) j
    ∙ drop-drop j (w + k) o ∙ ap (λ (n : ℕ). drop n o) (add_assoc w k j)

-- j bytes and then k bytes
pub filled_filled : (o : List ℕ) (w j k y z : ℕ) → w + j ≤ length o → y ≡ z / 2 ^ (8 * k) → filled (filled o w j y) (w + j) k z ≡ filled o w (j + k) z
filled_filled o w j k y z h e =
    ap₂ (λ (a b : List ℕ). a ++ bytes_of k z ++ b) (take_filled o w j y h ∙ ap (λ (x : ℕ). take w o ++ bytes_of j x) e) (drop_filled o w j y k h)
    ∙ ap (λ (l : List ℕ). l ++ drop (w + (j + k)) o)
    (append_assoc (take w o) (bytes_of j (z / 2 ^ (8 * k))) (bytes_of k z) ∙ ap (λ (l : List ℕ). take w o ++ l) (sym (bytes_split j k z)))

-- ---- `put`

pub shifted_bits : (p c n : ℕ) → p < 2 ^ c → c ≤ 7 → n ≤ 32 → (p * 2 ^ n) % 2 ^ 64 ≡ p * 2 ^ n
shifted_bits p c n h l k = shl_exact c n 64 h (omega arith)

pub put_is : (o o' : List ℕ) (st : BitWriter) (n v : ℕ) → st.pending < 2 ^ st.count → st.count ≤ 7 → n ≤ 32 →
    let x = (st.pending * 2 ^ n) % 2 ^ 64 + v in
    let r = (st.count + n) % 8 in
    o' ≡ filled o st.written.0 ((st.count + n) / 8) (x / 2 ^ r)
    → wrote (writer (whole_with st n) (bit_and x ((1 * 2 ^ r) % 2 ^ 64 - 1)) r) o' ≡ stored o st n v
unfolding stored
put_is o o' st n v h l k e =
    let p = st.pending in
    let c = st.count in
    let s = shifted_bits p c n h l k in
    rw (e, masked 64 ((p * 2 ^ n) % 2 ^ 64 + v) ((c + n) % 8) (omega arith), s)

-- ---- two writes are one

pub stored_more_lem : (o : List ℕ) (st : BitWriter) (n a m b : ℕ) → b < 2 ^ m → whole_with st n ≤ length o
    → stored_more (stored o st n a) m b ≡ stored o st (n + m) (a * 2 ^ m + b)
unfolding stored
stored_more_lem o st n a m b h l =
    let w = st.written.0 in
    let p = st.pending in
    let c = st.count in
    let j = (c + n) / 8 in
    let r₁ = (c + n) % 8 in
    let x₁ = p * 2 ^ n + a in
    let k = (r₁ + m) / 8 in
    let r = (r₁ + m) % 8 in
    let x = x₁ * 2 ^ m + b in
    let x₂ = x₁ % 2 ^ r₁ * 2 ^ m + b in
    let sum : r₁ + m ≡ 8 * k + r = omega arith in
    let cut : x₂ ≡ x % 2 ^ (8 * k + r) =
    sym (mod-pow-add x r₁ m ∙ ap₂ (λ (u v : ℕ). u % 2 ^ r₁ * 2 ^ m + v) (high x₁ m h) (low x₁ m h)) ∙ ap (λ (i : ℕ). x % 2 ^ i) sum in
    let whole_with : p * 2 ^ (n + m) + (a * 2 ^ m + b) ≡ x =
    ap (λ (y : ℕ). p * y + (a * 2 ^ m + b)) (pow-add 2 n m) ∙ omega (arith, mul_assoc p (2 ^ n) (2 ^ m)) in
    let wj : w + j + k ≡ w + (c + (n + m)) / 8 = omega arith in
    let jk : j + k ≡ (c + (n + m)) / 8 = omega arith in
    let rr : r ≡ (c + (n + m)) % 8 = omega arith in
    let y₁ : x₁ / 2 ^ r₁ ≡ x / 2 ^ r / 2 ^ (8 * k) =
    ap (λ (u : ℕ). u / 2 ^ r₁) (sym (high x₁ m h)) ∙ shr-shr x m r₁ ∙ ap (λ (i : ℕ). x / 2 ^ i) (omega arith) ∙ sym (shr-shr x r (8 * k)) in
    let y₂ : filled (filled o w j (x₁ / 2 ^ r₁)) (w + j) k (x₂ / 2 ^ r) ≡ filled o w (j + k) (x / 2 ^ r) =
    ap (λ (bs : List ℕ). take (w + j) (filled o w j (x₁ / 2 ^ r₁)) ++ bs ++ drop (w + j + k) (filled o w j (x₁ / 2 ^ r₁)))
    (ap (λ (u : ℕ). bytes_of k (u / 2 ^ r)) cut ∙ ap (bytes_of k) (field x (8 * k) r) ∙ bytes_mod k (x / 2 ^ r))
    ∙ filled_filled o w j k (x₁ / 2 ^ r₁) (x / 2 ^ r) l y₁ in
    let pend : x₂ % 2 ^ r ≡ x % 2 ^ r = ap (λ (u : ℕ). u % 2 ^ r) cut ∙ mod-mod-pow x (8 * k) r in
    rw (y₂, pend, wj, jk, rr, ← whole_with)

pub stored_good : (o : List ℕ) (st : BitWriter) (n v : ℕ) → length o ≤ most → whole_with st n ≤ length o
    → GoodAfter (length o) (8 * st.written.0 + (st.count + n)) (stored o st n v)
unfolding stored
stored_good o st n v small l =
    let w = st.written.0 in
    let p = st.pending in
    let c = st.count in
    let k = (c + n) / 8 in
    let r = (c + n) % 8 in
    let x = p * 2 ^ n + v in
    let long = length_filled o w k (x / 2 ^ r) l in
    (long, record { small = small; within = l; few = omega arith; below = mod-lt x (pow_pos r) }, omega arith)

-- no bits at all
pub stored_none : (o : List ℕ) (st : BitWriter) → Good (length o) st → stored o st 0 0 ≡ wrote st o
unfolding stored bytes_of
stored_none o st g =
    let w = st.written.0 in
    let p = st.pending in
    let c = st.count in
    let few = g.few in
    let k : (c + 0) / 8 ≡ 0 = omega arith in
    let r : (c + 0) % 8 ≡ c = omega arith in
    let x : (p * 2 ^ 0 + 0) % 2 ^ c ≡ p = ap (λ (y : ℕ). y % 2 ^ c) (omega arith) ∙ mod-eq_of_lt g.below in
    let w0 : w + 0 ≡ w = add-zero w in
    rw (k, r, x, w0, append-nil, take-append-drop)
