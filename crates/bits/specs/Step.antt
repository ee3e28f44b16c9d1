-- THE SHAPE OF THE CODE: what its searches find, and what a writer stores.
use Rattle.std.specs.Prelude.{ℕ, zero, suc, ◌+◌, ◌*◌, ◌/◌, ◌%◌, ◌^◌, ◌≤◌, ◌<◌, ◌≡◌, List, [], ◌∷◌, ◌++◌, length, get_or, take, drop}
use Rattle.std.specs.Prelude.{Option as Optional, Some, None}
use Rattle.std.proofs.Math.Option.{Option, none, some}
use Rattle.desk.specs.Numbers.{most}
use Rattle.bits.specs.declared.BitPos.{BitPos}
use Rattle.bits.specs.declared.BitWriter.{BitWriter}
use Rattle.bits.specs.Rule.{prefix_of}

-- the place that a search finds
abbrev pub place : Optional BitPos → Option ℕ
place (Some q) = some q.0
place None = none

-- byte i is not zero, and those before it are
pub record FirstNonzero (s : List ℕ) (i : ℕ) : Type 0 where
  pub within : i < length s
  pub nonzero : 0 < get_or s i 0
  pub zeros : (k : ℕ) → k < i → get_or s k 0 ≡ 0

-- byte i is not zero, and those behind it are
pub record LastNonzero (s : List ℕ) (i : ℕ) : Type 0 where
  pub within : i < length s
  pub nonzero : 0 < get_or s i 0
  pub zeros : (k : ℕ) → i < k → k < length s → get_or s k 0 ≡ 0

-- m is the length of the prefix of value's code: the place of the highest one in value + 1
pub record Prefix (value m : ℕ) : Type 0 where
  pub is : m ≡ prefix_of value
  pub short : m ≤ 31
  pub low : 2 ^ m ≤ value + 1
  pub high : value + 1 < 2 ^ suc m

-- ---- writing

-- the k low bytes of x, the highest first
unfoldable pub bytes_of : ℕ → ℕ → List ℕ
bytes_of zero x = []
bytes_of (suc k) x = bytes_of k (x / 256) ++ (x % 256 ∷ [])

-- o with the k low bytes of y from place w on
abbrev pub filled : List ℕ → ℕ → ℕ → ℕ → List ℕ
filled o w k y = take w o ++ bytes_of k y ++ drop (w + k) o

-- what a writer's call leaves: the writer and the room; or a number of the table, and the room as it was
pub data Wrote : Type 0 where
  wrote : BitWriter → List ℕ → Wrote
  kept : ℕ → List ℕ → Wrote

-- w bytes written, and c pending bits, which make p
abbrev pub writer : ℕ → ℕ → ℕ → BitWriter
writer w p c = record { written = record { 0 = w }; pending = p; count = c }

-- the bytes that are whole once there are n bits more
abbrev pub whole_with : BitWriter → ℕ → ℕ
whole_with st n = st.written.0 + (st.count + n) / 8

-- the pending bits, then the n bits of v: whole bytes are handed over, and what is left is pending
unfoldable pub stored : List ℕ → BitWriter → ℕ → ℕ → Wrote
stored o st n v =
    let x = st.pending * 2 ^ n + v in
    let r = (st.count + n) % 8 in
    wrote (writer (whole_with st n) (x % 2 ^ r) r) (filled o st.written.0 ((st.count + n) / 8) (x / 2 ^ r))

-- m bits of b after what was stored
abbrev pub stored_more : Wrote → ℕ → ℕ → Wrote
stored_more (wrote st o) m b = stored o st m b
stored_more (kept n o) m b = kept n o

-- a state that passes the entry checks, in a room of len bytes
pub record Good (len : ℕ) (st : BitWriter) : Type 0 where
  pub small : len ≤ most
  pub within : st.written.0 ≤ len
  pub few : st.count ≤ 7
  pub below : st.pending < 2 ^ st.count

-- and has room for n bits more
pub record HasRoom (len : ℕ) (st : BitWriter) (n : ℕ) : Type 0 where
  pub good : Good len st
  pub room : whole_with st n ≤ len

-- what a write leaves: a room as long, a good state, and so many bits in all
abbrev pub GoodAfter : ℕ → ℕ → Wrote → Type 0
GoodAfter len n (wrote st o) = (length o ≡ len) × Good len st × (8 * st.written.0 + st.count ≡ n)
GoodAfter len n (kept k o) = Unit
