-- Any sequence of writes, closed by trailing bits, reads back value for value, and `finish_rbsp` answers 0 behind it.
use mathlib.Core.Path.{◌≡◌, refl, sym, ap, ap₂, ◌∙◌, subst}
use mathlib.Core.List.{List, [], ◌∷◌, ◌++◌, append_assoc, append-nil}
use mathlib.Core.Option.{some}
use Prim.Native.Nat.{ℕ, ◌+◌, ◌-◌, ◌*◌, ◌/◌, ◌%◌, ◌^◌, ◌≤◌}
use native.Mathlib.Nat.{add-zero}
use native.Mathlib.Omega.{arith}
use borrow.Author.Tests.{eq-eqb}
use lib.ListN.{length, take, drop, length-append, length-replicate}
use lib.Seq.{take_at, drop_at, length-take-le}
use lib.Pow.{high, low, pow_pos, pow-lt}
use Rattle.desk.specs.Numbers.{most}
use Rattle.bits.specs.Rule.{size, bit_at, value_at, last_one, bits, bits_of, trailing_bits, Stands}
use Rattle.bits.specs.Step.{Good}
use Rattle.bits.specs.Answer.{write_trailing, Writes, new_writer, finish_rbsp}
use Rattle.bits.specs.Reading.{Entered}
use Rattle.bits.specs.Writing.{content, Appends, WriteMeans, Field, u, flag, ue, se, code_of, HasCode, without, ReadsField}
use Rattle.bits.specs.Writing.{WritesFields, nothing, one_more, ReadBack, end, then}
use Rattle.bits.specs.declared.BitWriter.{BitWriter}
use Rattle.std.specs.Prelude.{Ok}
use Rattle.bits.proofs.Back.{outcome_back}
use Rattle.bits.proofs.Entry.{enters}
use Rattle.bits.proofs.Value.{value_lt, value_split, value_one}
use Rattle.bits.proofs.Ones.{last_is}
use Rattle.bits.proofs.Codes.{length_bits, bits_none, no_bits, stands_value, top_bits}
use Rattle.bits.proofs.Reading.{bits_codes, bit_codes, ue_codes, se_codes}
use Rattle.bits.proofs.Writing.{field_means, trailing_means, length_content}

-- ---- what was written

abbrev codes_of : List Field → List ℕ
codes_of [] = []
codes_of (f ∷ fs) = code_of f ++ codes_of fs

abbrev AllHave : List Field → Type 0
AllHave [] = Unit
AllHave (f ∷ fs) = HasCode f × AllHave fs

written_codes : {o o' : List ℕ} {st st' : BitWriter} {fs : List Field} → WritesFields o st fs o' st'
    → AllHave fs × (content o' st' ≡ content o st ++ codes_of fs)
written_codes {o} {st} nothing = (tt, sym (append-nil (content o st)))
written_codes {o} {st} (one_more {f} {fs} h t) =
    let m = subst (WriteMeans o st (code_of f) (HasCode f) (without f)) (sym (outcome_back h))
    (field_means o st f) in
    let r = written_codes t in (
      (m.1, r.0),
      r.1 ∙ ap (λ (l : List ℕ). l ++ codes_of fs) m.2.grown ∙ append_assoc (content o st) (code_of f) (codes_of fs),
    )

-- ---- and reads back

-- a code behind a front of a list of bits stands there
stands_behind : (s pre code post : List ℕ) → bits s ≡ pre ++ (code ++ post) → Stands s (length pre) code
stands_behind s pre code post e =
    record {
      within = omega (arith, ap length e, length_bits s, length-append pre (code ++ post), length-append code post);
      there = ap (λ (b : List ℕ). take (length code) (drop (length pre) b)) e
          ∙ ap (take (length code)) (drop_at pre (code ++ post) (length pre) refl) ∙ take_at code post (length code) refl;
    }

read_field : (s : List ℕ) (p : ℕ) (f : Field) → Entered s p → HasCode f → Stands s p (code_of f) → ReadsField s p f (p + length (code_of f))
read_field s p (u n v) g h c = (bits_codes n h.0).gives s p v g h.1 c
read_field s p (flag b) g h c = bit_codes.gives s p b g tt c
read_field s p (ue v) g h c = ue_codes.gives s p v g h c
read_field s p (se z) g h c = se_codes.gives s p z g h c

read_fields : (s pre : List ℕ) (fs : List Field) (post : List ℕ) → length s ≤ most → AllHave fs → bits s ≡ pre ++ (codes_of fs ++ post)
    → ReadBack s (length pre) fs (length (pre ++ codes_of fs))
read_fields s pre [] post l h e = subst (ReadBack s (length pre) []) (ap length (sym (append-nil pre))) end
read_fields s pre (f ∷ fs) post l h e =
    let code = code_of f in
    let rest = codes_of fs in
    let cut : bits s ≡ pre ++ (code ++ (rest ++ post)) = e ∙ ap (λ (b : List ℕ). pre ++ b) (append_assoc code rest post) in
    let at = stands_behind s pre code (rest ++ post) cut in
    let w = at.within in
    let one = read_field s (length pre) f (record { small = l; within = omega arith }) h.0 at in
    let more = read_fields s (pre ++ code) fs post l h.1 (cut ∙ sym (append_assoc pre code (rest ++ post))) in
    then one
    (subst (λ (q : ℕ). ReadBack s q fs (length (pre ++ (code ++ rest)))) (length-append pre code)
    (subst (λ (b : List ℕ). ReadBack s (length (pre ++ code)) fs (length b)) (append_assoc pre code rest) more))

-- ---- trailing bits are the end

finish_trailing : (s : List ℕ) (p c : ℕ) → Entered s p → c ≤ 7 → Stands s p (trailing_bits c) → p + (8 - c) ≡ size s → finish_rbsp s p ≡ 0
unfolding finish_rbsp
finish_trailing s p c g few t e =
    let k = 7 - c in
    let one_k : 1 + k ≡ k + 1 = omega arith in
    let all : value_at s p 1 * 2 ^ k + value_at s (p + 1) k ≡ 1 * 2 ^ k + 0 =
    sym (value_split s p 1 k) ∙ ap (value_at s p) one_k
    ∙ stands_value s p (k + 1) (2 ^ k) (pow-lt {i = k} {j = k + 1} (omega arith)) (subst (Stands s p) (sym (top_bits k)) t) ∙ omega arith in
    let below = value_lt s (p + 1) k in
    let first : value_at s p 1 ≡ 1 = sym (high (value_at s p 1) k below) ∙ ap (λ (x : ℕ). x / 2 ^ k) all ∙ high 1 k (pow_pos k) in
    let zeros : value_at s (p + 1) k ≡ 0 = sym (low (value_at s p 1) k below) ∙ ap (λ (x : ℕ). x % 2 ^ k) all ∙ low 1 k (pow_pos k) in
    let one : bit_at s (p + 0) ≡ 1 = ap (bit_at s) (add-zero p) ∙ sym (value_one s p) ∙ first in
    let last : last_one s p (size s - p) ≡ some (p + 0) = ap (last_one s p) (omega arith) ∙ last_is s p 0 k one zeros in
    simp (enters s p g, last, eq-eqb (p + 0) p (omega arith))

-- ---- all together

content_new : (o : List ℕ) → content o new_writer ≡ []
content_new o = ap₂ (λ (a b : List ℕ). a ++ b) (bits_none 0 ∙ no_bits 0) (no_bits 0)

-- no bits are pending behind trailing bits, so all that was written is in the bytes
closed : {o o' : List ℕ} {st st' : BitWriter} → Good (length o) st → Appends o st (trailing_bits st.count) o' st'
    → bits (take st'.written.0 o') ≡ content o st ++ trailing_bits st.count
closed {o} {o'} {st} {st'} g a =
    let c = st.count in
    let w' = st'.written.0 in
    let few = g.few in
    let few' = a.good.few in
    let long = a.long in
    let within = a.good.within in
    let none : st'.count ≡ 0 = omega (
      arith,
      ap length a.grown,
      length_content o st g.within,
      length_content o' st' (omega arith),
      length-append (content o st) (trailing_bits c),
      length-replicate {A = ℕ} (7 - c) 0,
    ) in
    sym (append-nil (bits (take w' o')))
    ∙ ap (λ (b : List ℕ). bits (take w' o') ++ b) (sym (ap (λ (k : ℕ). bits_of k st'.pending) none ∙ no_bits st'.pending)) ∙ a.grown

-- what was written into a room from a new writer, with trailing bits behind it, reads back from place 0, and ends where the trailing bits are
pub write_read : {o o₁ o₂ : List ℕ} {st₁ st₂ : BitWriter} {fs : List Field} → WritesFields o new_writer fs o₁ st₁
    → Writes st₁ st₂ (Ok tt) o₂ (write_trailing o₁ st₁)
    → (p : ℕ) × ReadBack (take st₂.written.0 o₂) 0 fs p × (finish_rbsp (take st₂.written.0 o₂) p ≡ 0)
write_read {o} {o₁} {o₂} {st₁} {st₂} {fs} h t =
    let r = written_codes h in
    let m = subst (WriteMeans o₁ st₁ (trailing_bits st₁.count) Unit 0) (sym (outcome_back t))
    (trailing_means o₁ st₁) in
    let c = st₁.count in
    let s = take st₂.written.0 o₂ in
    let codes = codes_of fs in
    let all : bits s ≡ codes ++ trailing_bits c =
    closed m.0 m.2 ∙ ap (λ (b : List ℕ). b ++ trailing_bits c) (r.1 ∙ ap (λ (b : List ℕ). b ++ codes) (content_new o)) in
    let at = stands_behind s codes (trailing_bits c) [] (all ∙ ap (λ (b : List ℕ). codes ++ b) (sym (append-nil (trailing_bits c)))) in
    let w = at.within in
    let few = m.0.few in
    let small = m.0.small in
    let within = m.2.good.within in
    let long = m.2.long in
    let short : length s ≤ most = omega (arith, length-take-le st₂.written.0 o₂ (omega arith)) in
    let sum : length codes + (8 - c) ≡ size s =
    omega (arith, ap length all, length_bits s, length-append codes (trailing_bits c), length-replicate {A = ℕ} (7 - c) 0) in (
      length codes,
      read_fields s [] fs (trailing_bits c) short r.0 all,
      finish_trailing s (length codes) c (record { small = short; within = omega arith }) few at sum,
    )
