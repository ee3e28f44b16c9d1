-- THE ROOM RULE: room 1 takes a byte on reading and room 2 on writing, from any saved state that is not bad; a push with enough room takes
-- everything up to a forbidden byte.
use Prim.Native.Nat.{ℕ, zero, suc, ◌*◌, ◌≤◌, zero-le}
use native.Mathlib.Omega.{arith}
use native.Mathlib.Nat.{le_refl, zero-mul}
use mathlib.Core.Path.{◌≡◌, refl, ap, sym, ◌∙◌, subst}
use mathlib.Core.Bool.{Bool, true, false, cond}
use mathlib.Core.List.{List, [], ◌∷◌}
use mathlib.Core.Option.{Option, none, some, some-injective}
use lib.Dec.{ltb}
use lib.ListN.{length, drop}
use borrow.Author.Tests.{le-ltb}
use Rattle.std.specs.Prelude.{Result}
use Rattle.desk.specs.Push.{Out, marked, accepts_by, accepts}
use Rattle.desk.specs.Refusing.{answered}
use Rattle.desk.specs.Search.{trail}
use Rattle.desk.specs.Steps.{pushed_of}
use Rattle.desk.specs.declared.refusal.Refusal.{Refusal}
use Rattle.desk.specs.declared.push.Pushed.{Pushed}
use Rattle.desk.proofs.Entering.{entry_done}
use Rattle.desk.proofs.Accepting.{enough_room}
use Rattle.desk.proofs.Choice.{cond_ind}
use Rattle.desk.proofs.Lists.{trail_few}
use Rattle.desk.proofs.Taking.{never_7, takes_one}
use Rattle.desk.proofs.Ways.{way}
use Rattle.rbsp.specs.Rule.{escape, Legal, ends_three}
use Rattle.rbsp.specs.Answer.{ReadPush, read_number, read_counts, WritePush, new_byte_writer}
use Rattle.rbsp.specs.Promise.{ReadWay, WriteWay}
use Rattle.rbsp.specs.Step.{takes, read_step, skipping, bad_reader, read_entry, reader_after}
use Rattle.rbsp.specs.Step.{stuffs, behind_three, goes_alone, write_step, write_entry, writes}
use Rattle.rbsp.specs.declared.reader.ParseState.{ParseState}
use Rattle.rbsp.specs.declared.reader.ParseState.TheVariants.{Start, PostThree}
use Rattle.rbsp.specs.declared.reader.Stopped.{Stopped}
use Rattle.rbsp.specs.declared.writer.ByteWriter.{ByteWriter}
use Rattle.rbsp.proofs.Breaking.{legal_none}
use Rattle.rbsp.proofs.Escaping.{write_follows}
use Rattle.rbsp.proofs.Legality.{legal_accepts}
use Rattle.rbsp.proofs.Pushing.{next_short, never_forbidden}
use Rattle.rbsp.proofs.Unescaping.{reader_new, read_follows}

-- ---- no run leaves a bad state

pub read_good : (skip : ℕ) (h : List ℕ) → bad_reader (reader_after skip h) ≡ false
read_good zero h =
    cond_ind (λ (s : ParseState). bad_reader s ≡ false) (ends_three h) PostThree (Start (trail h)) refl (le-ltb 2 (trail h) (trail_few h))
read_good (suc k) [] = refl
read_good (suc k) (b ∷ h) = read_good k h

pub new_good : (skip : ℕ) → bad_reader (skipping skip) ≡ false
new_good skip = ap bad_reader (sym (reader_new skip)) ∙ read_good skip []

pub write_good : (h : List ℕ) → ltb 2 (writes h).state.zero_count ≡ false
write_good h = le-ltb 2 (trail (escape h)) (trail_few (escape h))

-- ---- at least one byte

next_few : (s : ParseState) (b : ℕ) (o : Out ParseState) → read_step s b ≡ some o → (length o.bytes ≤ 1) × (length (marked o.mark []) ≤ 0)
next_few s b o e = let q = next_short s b o e in (q.one, subst (λ (c : Bool). length (marked c []) ≤ 0) (sym q.no_mark) (le_refl 0))

abbrev Few : Out ByteWriter → Type 0
Few o = (length o.bytes ≤ 2) × (length (marked o.mark []) ≤ 0)

out_few : (s : ByteWriter) (b : ℕ) (o : Out ByteWriter) → write_step s b ≡ some o → Few o
out_few s b o = go (stuffs s.zero_count b)
  where
    go : (c : Bool) → cond c (some (behind_three b)) (some (goes_alone s.zero_count b)) ≡ some o → Few o
    go true e = subst Few (some-injective _ o e) (omega arith, le_refl 0)
    go false e = subst Few (some-injective _ o e) (omega arith, le_refl 0)

-- A PUSH OF THE WRITER answers 0, 1 or 2, by its entry checks alone
pub write_number : (s s' : ByteWriter) (chunk out out' : List ℕ) (r : Result Pushed Refusal) → WritePush s s' chunk out out' r
    → answered r ≡ write_entry s (length chunk) (length out) 0
write_number s s' chunk out out' r o =
    o.number_is ∙ never_7 write_step never_forbidden (write_entry s (length chunk) (length out) 0) s chunk (length out) 0

-- ROOM 1 TAKES A BYTE of what is lent, wherever the answer is 0
pub read_one : (s s' : ParseState) (b : ℕ) (bs out out' : List ℕ) (r : Result Pushed Stopped) → ReadPush s s' (b ∷ bs) out out' r
    → read_number r ≡ 0 → 1 ≤ length out → 1 ≤ (read_counts r).taken
read_one s s' b bs out out' r o z h =
    let n =
    takes_one read_step s b bs (read_entry s (length (b ∷ bs)) (length out) 0) (length out) 0
    (λ x e. let f = next_few s b x e in let k = f.0 in (omega arith, f.1)) (sym o.gives.number_is ∙ z) in
    omega (arith, o.gives.taken_is)

-- and no room is wanted where the byte is removed or skipped
pub read_nothing : (s s₁ s' : ParseState) (b : ℕ) (bs out out' : List ℕ) (r : Result Pushed Stopped) → ReadPush s s' (b ∷ bs) out out' r
    → read_number r ≡ 0 → read_step s b ≡ some (takes s₁ []) → 1 ≤ (read_counts r).taken
read_nothing s s₁ s' b bs out out' r o z e =
    let n = takes_one read_step s b bs (read_entry s (length (b ∷ bs)) (length out) 0) (length out) 0 released_none (sym o.gives.number_is ∙ z) in
    omega (arith, o.gives.taken_is)
  where
    released_none : (x : Out ParseState) → read_step s b ≡ some x → (length x.bytes ≤ length out) × (length (marked x.mark []) ≤ 0)
    released_none x q =
        subst (λ (y : Out ParseState). (length y.bytes ≤ length out) × (length (marked y.mark []) ≤ 0))
        (some-injective (takes s₁ []) x (sym e ∙ q)) (zero-le, zero-le)

-- ROOM 2 TAKES A BYTE on writing
pub write_one : (s s' : ByteWriter) (b : ℕ) (bs out out' : List ℕ) (r : Result Pushed Refusal) → WritePush s s' (b ∷ bs) out out' r
    → answered r ≡ 0 → 2 ≤ length out → 1 ≤ (pushed_of r).taken
write_one s s' b bs out out' r o z h =
    let n =
    takes_one write_step s b bs (write_entry s (length (b ∷ bs)) (length out) 0) (length out) 0
    (λ x e. let f = out_few s b x e in let k = f.0 in (omega arith, f.1)) (sym o.number_is ∙ z) in
    omega (arith, o.taken_is)

-- ---- everything, behind any bytes h

none_wanted : (chunk : List ℕ) → 0 * length chunk ≤ 0
none_wanted chunk = omega (arith, zero-mul (length chunk))

-- AS MUCH ROOM AS BYTES, on reading: where the answer is 0 all is taken
pub read_everything : (k : ℕ) (h : List ℕ) (s' : ParseState) (chunk out out' : List ℕ) (r : Result Pushed Stopped)
    → ReadPush (reader_after k h) s' chunk out out' r → read_number r ≡ 0 → length chunk ≤ length out → (read_counts r).taken ≡ length chunk
read_everything k h s' chunk out out' r o z f =
    o.gives.taken_is
    ∙ enough_room (read_follows k) 1 0 next_few h chunk (read_entry (reader_after k h) (length chunk) (length out) 0) (length out) 0 (omega arith)
    (none_wanted chunk)
    (sym o.gives.number_is ∙ z)

-- TWICE AS MUCH ROOM AS BYTES, on writing
pub write_everything : (h : List ℕ) (s' : ByteWriter) (chunk out out' : List ℕ) (r : Result Pushed Refusal)
    → WritePush (writes h).state s' chunk out out' r → answered r ≡ 0 → 2 * length chunk ≤ length out → (pushed_of r).taken ≡ length chunk
write_everything h s' chunk out out' r o z f =
    o.taken_is
    ∙ enough_room write_follows 2 0 out_few h chunk (write_entry (writes h).state (length chunk) (length out) 0) (length out) 0 f (none_wanted chunk)
    (sym o.number_is ∙ z)

-- ---- there is a way: byte by byte

no_byte_forbidden : (s : ByteWriter) (bs : List ℕ) → accepts write_step s bs ≡ true
no_byte_forbidden s [] = refl
no_byte_forbidden s (b ∷ bs) = go (write_step s b) refl (λ o. no_byte_forbidden o.after bs)
  where
    go : (r : Option (Out ByteWriter)) → write_step s b ≡ r → ((o : Out ByteWriter) → accepts write_step o.after bs ≡ true)
        → accepts_by r (λ o. accepts write_step o.after bs) ≡ true
    go none e ih = absurd (never_forbidden s b e)
    go (some o) e ih = ih o

-- EVERY LEGAL LIST IS TAKEN IN ROOM 1
pub read_way : (skip : ℕ) (stream : List ℕ) → Legal (drop skip stream) → ReadWay skip stream
read_way skip stream l =
    way (read_follows skip) read_entry stream (0 ∷ []) []
    (λ h. entry_done (1 ∷ 1 ∷ 0 ∷ []) (bad_reader (reader_after skip h)) (omega arith, (omega arith, (zero-le, tt))) (read_good skip h))
    (λ h. next_few (reader_after skip h)) (legal_accepts skip stream (legal_none (drop skip stream) l))

-- EVERY LIST IS WRITTEN IN ROOM 2
pub write_way : (stream : List ℕ) → WriteWay stream
write_way stream =
    way write_follows write_entry stream (0 ∷ 0 ∷ []) []
    (λ h. entry_done (1 ∷ 2 ∷ 0 ∷ []) (ltb 2 (writes h).state.zero_count) (omega arith, (omega arith, (zero-le, tt))) (write_good h))
    (λ h. out_few (writes h).state) (no_byte_forbidden new_byte_writer stream)
