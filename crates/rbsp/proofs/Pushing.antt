-- The two pushes: what the entry checks refuse, and what the run gives. No marks are lent.
use Prim.Native.Nat.{ℕ, zero, suc, ◌≤◌}
use native.Mathlib.Omega.{arith}
use mathlib.Core.Path.{◌≡◌, refl, ap, sym, subst}
use mathlib.Core.Bool.{Bool, true, false, cond}
use mathlib.Core.List.{List, [], ◌∷◌}
use mathlib.Core.Option.{none, some, some-injective}
use lib.ListN.{length}
use Rattle.std.specs.Prelude.{Result, Ok, Err, IsOk}
use Rattle.std.proofs.Common.{rules}
use Rattle.desk.specs.Push.{Out, Next, Answer, answers, run, push_of, Gives}
use Rattle.desk.specs.Refusing.{refusal_number}
use Rattle.desk.specs.Steps.{Runs}
use Rattle.desk.specs.declared.push.Pushed.{Pushed}
use Rattle.desk.specs.declared.refusal.Refusal.{Refusal}
use Rattle.desk.specs.declared.refusal.Refusal.TheVariants.{ForbiddenByte}
use Rattle.desk.proofs.Entering.{entry_few}
use Rattle.desk.proofs.Pushing.{push_runs}
use Rattle.desk.proofs.Refusing.{number_some}
use Rattle.desk.proofs.Running.{gave_refused, always_done}
use Rattle.rbsp.specs.Step.{read_step, read_entry, bad_reader, write_step, write_entry, stuffs}
use Rattle.rbsp.specs.Answer.{ReadPush, read_number, WritePush}
use Rattle.rbsp.specs.declared.reader.ParseState.{ParseState}
use Rattle.rbsp.specs.declared.reader.ParseState.TheVariants.{Start, Skip, PostThree}
use Rattle.rbsp.specs.declared.reader.Stopped.{Stopped}
use Rattle.rbsp.specs.declared.reader.Stopped.TheVariants.{Refused, Forbidden}
use Rattle.rbsp.specs.declared.writer.ByteWriter.{ByteWriter}
use Rattle.rbsp.proofs.Mapping.{err_mapped}

-- a run behind entry checks that passed, with a room of marks that is not there
ran : {S : Type 0} (next : Next S) (entry : ℕ) (s s' : S) (chunk out out' marks' : List ℕ) (number taken wrote marked : ℕ) → 0 ≡ entry
    → length marks' ≡ 0
    → Gives (run next (length out) 0 (answers 0 s) chunk) out [] out' marks' number taken wrote marked s'
    → Gives (push_of next entry s chunk (length out) 0) out [] out' [] number taken wrote marked s'
ran next entry s s' chunk out out' [] number taken wrote marked z l g =
    subst (λ (a : Answer _). Gives a out [] out' [] number taken wrote marked s') (sym (push_runs next entry s chunk (length out) 0 (sym z))) g
ran next entry s s' chunk out out' (x ∷ marks') number taken wrote marked z l g = absurd (omega arith)

module _ (s : ParseState) (chunk out : List ℕ) where
  abbrev entered : ℕ
  entered = read_entry s (length chunk) (length out) 0

  pub read_refused : (e : Refusal) → refusal_number e ≡ entered → ReadPush s s chunk out out (Err (Refused e))
  read_refused e q =
      record {
        gives = gave_refused read_step s chunk out [] entered e q;
        delivers = λ z.
            let same : e ≡ ForbiddenByte = cc in
            let seven : refusal_number e ≡ 7 = ap refusal_number same in
            let few = entry_few (length chunk ∷ length out ∷ 0 ∷ []) (bad_reader s) in
            omega arith;
      }

  -- the run's answer, with `Forbidden` where it met one
  pub read_ran : 0 ≡ entered → (s' : ParseState) (out' marks' : List ℕ) → length marks' ≡ 0 → (r : Result Pushed Pushed) (r' : Result Pushed Stopped)
      → Runs read_step s chunk out [] s' out' marks' r → r' ≡ err_mapped Forbidden r → ReadPush s s' chunk out out' r'
  read_ran z s' out' marks' l (Ok p) r' g t =
      rw t (record { gives = ran read_step entered s s' chunk out out' marks' _ _ _ _ z l g; delivers = λ q. cc })
  read_ran z s' out' marks' l (Err p) r' g t =
      rw t (record { gives = ran read_step entered s s' chunk out out' marks' _ _ _ _ z l g; delivers = λ q. cc })

-- a push with number 0 is well
pub ok_of : (r : Result Pushed Stopped) → read_number r ≡ 0 → IsOk r
ok_of (Ok p) z = search rules
ok_of (Err (Refused e)) z = let h = number_some e in absurd (omega arith)
ok_of (Err (Forbidden p)) z = absurd (omega arith)

-- a byte is delivered or not, and ends nothing
pub record Short (o : Out ParseState) : Type 0 where
  pub one : length o.bytes ≤ 1
  pub no_mark : o.mark ≡ false

short_is : {o o' : Out ParseState} → some o ≡ some o' → Short o → Short o'
short_is {o} {o'} e h = subst Short (some-injective o o' e) h

scan_short : (z b : ℕ) (o : Out ParseState) → read_step (Start z) b ≡ some o → Short o
scan_short zero b o e = short_is e (record { one = omega arith; no_mark = refl })
scan_short (suc zero) b o e = short_is e (record { one = omega arith; no_mark = refl })
scan_short (suc (suc z)) zero o e = cc
scan_short (suc (suc z)) (suc zero) o e = cc
scan_short (suc (suc z)) (suc (suc zero)) o e = cc
scan_short (suc (suc z)) (suc (suc (suc zero))) o e = short_is e (record { one = omega arith; no_mark = refl })
scan_short (suc (suc z)) (suc (suc (suc (suc b)))) o e = short_is e (record { one = omega arith; no_mark = refl })

pub next_short : (s : ParseState) (b : ℕ) (o : Out ParseState) → read_step s b ≡ some o → Short o
next_short (Start z) b o e = scan_short z b o e
next_short (Skip zero) b o e = scan_short 0 b o e
next_short (Skip (suc k)) b o e = short_is e (record { one = omega arith; no_mark = refl })
next_short PostThree zero o e = short_is e (record { one = omega arith; no_mark = refl })
next_short PostThree (suc zero) o e = short_is e (record { one = omega arith; no_mark = refl })
next_short PostThree (suc (suc zero)) o e = short_is e (record { one = omega arith; no_mark = refl })
next_short PostThree (suc (suc (suc zero))) o e = short_is e (record { one = omega arith; no_mark = refl })
next_short PostThree (suc (suc (suc (suc b)))) o e = cc

-- no byte is forbidden on writing
pub never_forbidden : (s : ByteWriter) (b : ℕ) → write_step s b ≡ none → ⊥
never_forbidden s b = go (stuffs s.zero_count b) _ _
  where
    go : (c : Bool) (x y : Out ByteWriter) → cond c (some x) (some y) ≡ none → ⊥
    go true x y e = cc
    go false x y e = cc

module _ (s : ByteWriter) (chunk out : List ℕ) where
  abbrev written : ℕ
  written = write_entry s (length chunk) (length out) 0

  pub write_refused : (e : Refusal) → refusal_number e ≡ written → WritePush s s chunk out out (Err e)
  write_refused e q = gave_refused write_step s chunk out [] written e q

  module _ (s' : ByteWriter) (out' marks' : List ℕ) where
    pub write_ran : 0 ≡ written → length marks' ≡ 0 → (p : Pushed) → Runs write_step s chunk out [] s' out' marks' (Ok p)
        → WritePush s s' chunk out out' (Ok p)
    write_ran z l p g = ran write_step written s s' chunk out out' marks' _ _ _ _ z l g

    pub write_done : (r : Result Pushed Pushed) → Runs write_step s chunk out [] s' out' marks' r → IsOk r
    write_done r g = always_done write_step s chunk out [] never_forbidden s' out' marks' r g
