-- On every input some outcome meets the contract: the rule's own answers are values or numbers of the table, and each of those is some call's.
use mathlib.Core.Path.{◌≡◌, refl}
use mathlib.Core.List.{List, [], ◌∷◌}
use mathlib.Core.Bool.{Bool}
use mathlib.Core.Option.{Option, none, some}
use Prim.Native.Nat.{ℕ, zero, suc, ◌+◌, ◌-◌, ◌^◌, ◌≤◌, ◌<◌}
use native.Mathlib.Omega.{arith}
use lib.ListN.{length}
use lib.Dec.{ltb, leb, eqb}
use lib.IntN.{ℤ, nat_abs}
use Rattle.std.specs.Prelude.{Result, Ok, Err}
use Rattle.desk.specs.Numbers.{bits_run_out, remaining_data, no_room}
use Rattle.desk.specs.Refusing.{answered}
use Rattle.desk.specs.declared.refusal.Refusal.{Refusal}
use Rattle.desk.proofs.Choice.{cond_ind}
use Rattle.desk.proofs.Entering.{entry_few}
use Rattle.desk.proofs.Refusing.{number_every}
use Rattle.bits.specs.Rule.{size, first_one, last_one, unsigned_of}
use Rattle.bits.specs.Step.{whole_with, Wrote, kept, stored}
use Rattle.bits.specs.Answer.{Ans, got, no, told_by, and_then, unless, past_end, entry_at, read_bits, as_bool, read_bit, ue_from, read_ue}
use Rattle.bits.specs.Answer.{as_signed, read_se, skipped, has_more, finish_from, finish_rbsp, finish_sei, mapped, denied, Reads}
use Rattle.bits.specs.Answer.{bad_writer, entry_on, roomed, bit_number, ue_width, write_bits, write_bit, write_ue, write_se, write_trailing, Writes}
use Rattle.bits.specs.Answer.{room_back}
use Rattle.bits.specs.declared.BitReader.{BitReader}
use Rattle.bits.specs.declared.BitWriter.{BitWriter}
use Rattle.bits.proofs.Back.{InTable, ToldInTable, WroteInTable, read_some, told_some, write_some}

-- ---- what answers are made of

-- a number of the checks, or what comes behind them
checked : {A : Type 0} (P : A → Type 0) (refuse : ℕ → A) → ((k : ℕ) → 0 < k → k ≤ 18 → P (refuse k)) → (n : ℕ) → n ≤ 18 → (x : A) → P x
    → P (unless refuse n x)
checked P refuse row zero few x h = h
checked P refuse row (suc k) few x h = row (suc k) (omega arith) few

pub unless_in_table : {A : Type 0} (n : ℕ) → n ≤ 18 → (x : Ans A) → InTable x → InTable (unless no n x)
unless_in_table n few x h = checked InTable no (λ k some few. (some, few)) n few x h

-- a field, and what is read from where it stopped
pub then_in_table : {A B : Type 0} (x : Ans A) (f : A → ℕ → Ans B) → InTable x → ((a : A) (q : ℕ) → InTable (f a q)) → InTable (and_then x f)
then_in_table (got a q) f h g = g a q
then_in_table (no n) f h g = h

-- ---- reading

module _ (s : List ℕ) (p : ℕ) where
  entry_row : entry_at s p ≤ 18
  entry_row = omega (arith, entry_few (length s ∷ 0 ∷ 0 ∷ []) (past_end s p))

  pub bits_in_table : (n : ℕ) → InTable (read_bits s p n)
  unfolding read_bits
  bits_in_table n =
      unless_in_table (entry_at s p) entry_row _
      (cond_ind InTable (ltb 32 n) _ _ (omega arith, omega arith) (cond_ind InTable (ltb (size s) (p + n)) _ _ (omega arith, omega arith) tt))

  pub bit_in_table : InTable (read_bit s p)
  unfolding read_bit
  bit_in_table = go (read_bits s p 1) (bits_in_table 1)
    where
      go : (a : Ans ℕ) → InTable a → InTable (as_bool a)
      go (got v q) h = tt
      go (no n) h = h

  pub ue_in_table : InTable (read_ue s p)
  unfolding read_ue
  ue_in_table = unless_in_table (entry_at s p) entry_row _ (go (first_one s p (size s - p)))
    where
      go : (q : Option ℕ) → InTable (ue_from s p q)
      go none = (omega arith, omega arith)
      go (some q) =
          cond_ind InTable (ltb 31 (q - p)) _ _ (omega arith, omega arith)
          (cond_ind InTable (ltb (size s) (q + 1 + (q - p))) _ _ (omega arith, omega arith) tt)

  pub se_in_table : InTable (read_se s p)
  unfolding read_se
  se_in_table = go (read_ue s p) ue_in_table
    where
      go : (a : Ans ℕ) → InTable a → InTable (as_signed a)
      go (got v q) h = tt
      go (no n) h = h

  pub skip_in_table : (n : ℕ) → InTable (skipped s p n)
  unfolding skipped
  skip_in_table n = unless_in_table (entry_at s p) entry_row _ (cond_ind InTable (ltb (size s) (p + n)) _ _ (omega arith, omega arith) tt)

  pub more_in_table : ToldInTable (has_more s p)
  unfolding has_more
  more_in_table = checked ToldInTable denied (λ k some few. (some, few)) (entry_at s p) entry_row _ tt

  finish_few : (missing : ℕ) (l : Option ℕ) → missing ≤ 18 → finish_from missing p l ≤ 18
  finish_few missing none h = h
  finish_few missing (some l) h = cond_ind (λ n. n ≤ 18) (eqb l p) _ _ (omega arith) (omega arith)

  pub finish_in_table : finish_rbsp s p ≤ 18
  unfolding finish_rbsp
  finish_in_table =
      checked (λ n. n ≤ 18) (λ n. n) (λ k some few. few) (entry_at s p) entry_row _
      (finish_few bits_run_out (last_one s p (size s - p)) (omega arith))

  pub finish_sei_in_table : finish_sei s p ≤ 18
  unfolding finish_sei
  finish_sei_in_table =
      checked (λ n. n ≤ 18) (λ n. n) (λ k some few. few) (entry_at s p) entry_row _
      (cond_ind (λ n. n ≤ 18) (eqb p (size s)) _ _ (omega arith) (finish_few remaining_data (last_one s p (size s - p)) (omega arith)))

pub mapped_in_table : (k : ℕ) → ToldInTable (mapped k)
mapped_in_table k = cond_ind ToldInTable (leb 4294967295 k) _ _ (omega arith, omega arith) tt

-- ---- writing

module _ (o : List ℕ) (st : BitWriter) where
  -- the checks of a writer, and what comes behind them
  write_checked : (x : Wrote) → WroteInTable x → WroteInTable (unless (λ k. kept k o) (entry_on (length o) st) x)
  write_checked x h =
      checked WroteInTable (λ k. kept k o) (λ k some few. (some, few)) (entry_on (length o) st)
      (omega (arith, entry_few (length o ∷ 0 ∷ 0 ∷ []) (bad_writer (length o) st))) x h

  roomed_in_table : (n v : ℕ) → WroteInTable (roomed o st n v)
  unfolding stored
  roomed_in_table n v = cond_ind WroteInTable (ltb (length o) (whole_with st n)) (kept no_room o) (stored o st n v) (omega arith, omega arith) tt

  pub write_bits_in_table : (n v : ℕ) → WroteInTable (write_bits o st n v)
  unfolding write_bits
  write_bits_in_table n v =
      write_checked _
      (cond_ind WroteInTable (ltb 32 n) _ _ (omega arith, omega arith)
      (cond_ind WroteInTable (leb (2 ^ n) v) _ _ (omega arith, omega arith) (roomed_in_table n v)))

  pub write_bit_in_table : (b : Bool) → WroteInTable (write_bit o st b)
  unfolding write_bit
  write_bit_in_table b = write_bits_in_table 1 (bit_number b)

  pub write_ue_in_table : (v : ℕ) → WroteInTable (write_ue o st v)
  unfolding write_ue
  write_ue_in_table v =
      write_checked _ (cond_ind WroteInTable (leb 4294967295 v) _ _ (omega arith, omega arith) (roomed_in_table (ue_width v) (v + 1)))

  pub write_se_in_table : (z : ℤ) → WroteInTable (write_se o st z)
  unfolding write_se
  write_se_in_table z =
      write_checked _
      (cond_ind WroteInTable (leb 2147483648 (nat_abs z)) _ _ (omega arith, omega arith)
      (roomed_in_table (ue_width (unsigned_of z)) (unsigned_of z + 1)))

  pub write_trailing_in_table : WroteInTable (write_trailing o st)
  unfolding write_trailing
  write_trailing_in_table = write_checked _ (roomed_in_table (8 - st.count) (2 ^ (7 - st.count)))

-- ---- so on every input some outcome meets the contract

-- a result, and a reader left
abbrev pub SomeRead : {A : Type 0} → BitReader → Ans A → Type 0
SomeRead {A} from a = (r : Result A Refusal) × (after : BitReader) × Reads from after r a

abbrev pub SomeNumber : ℕ → Type 0
SomeNumber n = (r : Result Unit Refusal) × (answered r ≡ n)

some_number : (n : ℕ) → n ≤ 18 → SomeNumber n
some_number zero few = (Ok tt, refl)
some_number (suc k) few = let e = number_every (suc k) (omega arith) few in (Err e.0, e.1)

-- of each call of a reader, whatever the bytes and the place
pub record EveryRead (s : List ℕ) (from : BitReader) : Type 0 where
  pub bits : (n : ℕ) → SomeRead from (read_bits s from.at.0 n)
  pub bit : SomeRead from (read_bit s from.at.0)
  pub ue : SomeRead from (read_ue s from.at.0)
  pub se : SomeRead from (read_se s from.at.0)
  pub skip : (n : ℕ) → SomeRead from (skipped s from.at.0 n)
  pub more : (r : Result Bool Refusal) × (told_by r ≡ has_more s from.at.0)
  pub finish : SomeNumber (finish_rbsp s from.at.0)
  pub sei : SomeNumber (finish_sei s from.at.0)

pub every_read : (s : List ℕ) (from : BitReader) → EveryRead s from
every_read s from =
    let p = from.at.0 in
    record {
      bits = λ n. read_some (read_bits s p n) (bits_in_table s p n);
      bit = read_some (read_bit s p) (bit_in_table s p);
      ue = read_some (read_ue s p) (ue_in_table s p);
      se = read_some (read_se s p) (se_in_table s p);
      skip = λ n. read_some (skipped s p n) (skip_in_table s p n);
      more = told_some (has_more s p) (more_in_table s p);
      finish = some_number (finish_rbsp s p) (finish_in_table s p);
      sei = some_number (finish_sei s p) (finish_sei_in_table s p);
    }

pub every_mapped : (k : ℕ) → (r : Result ℤ Refusal) × (told_by r ≡ mapped k)
every_mapped k = told_some (mapped k) (mapped_in_table k)

-- a result, a writer left, and what the room holds
abbrev pub SomeWrite : BitWriter → Wrote → Type 0
SomeWrite from a = (r : Result Unit Refusal) × (after : BitWriter) × (room : List ℕ) × Writes from after r room a

-- of each call of a writer, whatever the room, the writer and the value
pub record EveryWrite (o : List ℕ) (from : BitWriter) : Type 0 where
  pub bits : (n v : ℕ) → SomeWrite from (write_bits o from n v)
  pub bit : (b : Bool) → SomeWrite from (write_bit o from b)
  pub ue : (v : ℕ) → SomeWrite from (write_ue o from v)
  pub se : (z : ℤ) → SomeWrite from (write_se o from z)
  pub trailing : SomeWrite from (write_trailing o from)

some_write : {from : BitWriter} (a : Wrote) → WroteInTable a → SomeWrite from a
some_write a h = let w = write_some a h in (w.0, w.1, room_back a, w.2)

pub every_write : (o : List ℕ) (from : BitWriter) → EveryWrite o from
every_write o from =
    record {
      bits = λ n v. some_write (write_bits o from n v) (write_bits_in_table o from n v);
      bit = λ b. some_write (write_bit o from b) (write_bit_in_table o from b);
      ue = λ v. some_write (write_ue o from v) (write_ue_in_table o from v);
      se = λ z. some_write (write_se o from z) (write_se_in_table o from z);
      trailing = some_write (write_trailing o from) (write_trailing_in_table o from);
    }
