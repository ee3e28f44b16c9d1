-- A read depends on the bits read alone, and so does a chain of reads.
use mathlib.Core.Path.{◌≡◌, refl, sym, ap, ap₂, ◌∙◌, subst}
use mathlib.Core.List.{List, ◌++◌}
use mathlib.Core.Bool.{Bool, true, false, cond}
use Prim.Native.Nat.{ℕ, ◌+◌, ◌-◌, ◌≤◌}
use native.Mathlib.Omega.{arith}
use lib.ListN.{length, take, drop, length-append, length-drop}
use lib.Seq.{take-take, drop-drop, take-append-le, drop-append-le, drop-append-add}
use Rattle.std.proofs.lemmas.List.{drop-take}
use Rattle.desk.specs.Numbers.{most}
use Rattle.bits.specs.Rule.{size, bits, Stands}
use Rattle.bits.specs.Answer.{Ans, got, no, and_then, read_bits, read_bit, read_ue, read_se, skipped}
use Rattle.bits.specs.Reading.{ReadsCodes, SameBits, Local}
use Rattle.bits.proofs.Codes.{length_bits, bits_append}
use Rattle.bits.proofs.Reading.{bits_codes, bits_width, bit_codes, ue_codes, se_codes, skip_took, skip_give}

-- ---- parts of the same bits

drop_take : {A : Type 0} (m n : ℕ) (l : List A) → drop m (take (n + m) l) ≡ take n (drop m l)
drop_take m n l = ap (λ (k : ℕ). drop m (take k l)) (omega arith) ∙ drop-take m n l

module _ (s : List ℕ) (p : ℕ) (t : List ℕ) (p' : ℕ) where
  pub same_front : (m n : ℕ) → m ≤ n → SameBits s p t p' n → SameBits s p t p' m
  same_front m n h b =
      let w = b.within in
      record {
        small = b.small;
        within = omega arith;
        same = sym (take-take m n (drop p (bits s)) h) ∙ ap (take m) b.same ∙ take-take m n (drop p' (bits t)) h;
      }

  pub same_rest : (m n : ℕ) → SameBits s p t p' (n + m) → SameBits s (p + m) t (p' + m) n
  same_rest m n b =
      let w = b.within in
      record {
        small = b.small;
        within = omega arith;
        same =
            sym (drop_take m n (drop p (bits s)) ∙ ap (take n) (drop-drop m p (bits s)))
            ∙ ap (drop m) b.same ∙ drop_take m n (drop p' (bits t)) ∙ ap (take n) (drop-drop m p' (bits t));
      }

-- bytes before and behind: the bits of s stand in a ++ (s ++ b), size a further on
pub same_within : (a s b : List ℕ) (p n : ℕ) → length (a ++ (s ++ b)) ≤ most → p + n ≤ size s → SameBits s p (a ++ (s ++ b)) (size a + p) n
same_within a s b p n h l =
    let la = length_bits a in
    let ls = length_bits s in
    let behind : drop (size a + p) (bits (a ++ (s ++ b))) ≡ drop p (bits s) ++ bits b =
    ap₂ (λ (k : ℕ) (x : List ℕ). drop (k + p) x) (sym la) (bits_append a (s ++ b))
    ∙ drop-append-add (bits a) (bits (s ++ b)) p
    ∙ ap (drop p) (bits_append s b) ∙ drop-append-le p (bits s) (bits b) (omega arith) in
    record {
      small = h;
      within = omega (arith, length-append a (s ++ b), length-append s b);
      same = sym (ap (take n) behind ∙ take-append-le n (drop p (bits s)) (bits b) (simp length-drop (omega arith)));
    }

-- ---- a reader of codes reads its own bits alone

stands_again : (s t code : List ℕ) (p p' : ℕ) → SameBits s p t p' (length code) → Stands s p code → Stands t p' code
stands_again s t code p p' b c = record { within = b.within; there = sym b.same ∙ c.there }

pub codes_local : {A : Type 0} {code : A → List ℕ} {Ok : A → Type 0} {read : List ℕ → ℕ → Ans A} → ReadsCodes code Ok read → Local read
codes_local {A} {code} {Ok} {read} r =
    record {
      grows = λ s p a q e. let n = (r.took s p a q e).stops in omega arith;
      within = λ s p a q e _. let t = r.took s p a q e in omega (arith, t.stops, t.stands.within);
      again = again;
    }
  where
    again : (s : List ℕ) (p : ℕ) (a : A) (q : ℕ) (t : List ℕ) (p' : ℕ) → read s p ≡ got a q → SameBits s p t p' (q - p)
        → read t p' ≡ got a (p' + (q - p))
    again s p a q t p' e b =
        let k = r.took s p a q e in
        let len : q - p ≡ length (code a) = omega (arith, k.stops) in
        let c = stands_again s t (code a) p p' (subst (SameBits s p t p') len b) k.stands in
        let w = b.within in
        r.gives t p' a (record { small = b.small; within = omega arith }) k.ok c ∙ ap (λ (n : ℕ). got a (p' + n)) (sym len)

pub ue_local : Local read_ue
ue_local = codes_local ue_codes

pub se_local : Local read_se
se_local = codes_local se_codes

pub bit_local : Local read_bit
bit_local = codes_local bit_codes

pub bits_local : (n : ℕ) → Local (λ s p. read_bits s p n)
bits_local n =
    record {
      grows = λ s p v q e. (codes_local (bits_codes n (bits_width s p n v q e))).grows s p v q e;
      within = λ s p v q e. (codes_local (bits_codes n (bits_width s p n v q e))).within s p v q e;
      again = λ s p v q t p' e. (codes_local (bits_codes n (bits_width s p n v q e))).again s p v q t p' e;
    }

pub skip_local : (n : ℕ) → Local (λ s p. skipped s p n)
skip_local n =
    record {
      grows = λ s p v q e. let t = (skip_took s p n v q e).stops in omega arith;
      within = λ s p v q e _. (skip_took s p n v q e).within;
      again = again;
    }
  where
    again : (s : List ℕ) (p : ℕ) (v : Unit) (q : ℕ) (t : List ℕ) (p' : ℕ) → skipped s p n ≡ got v q → SameBits s p t p' (q - p)
        → skipped t p' n ≡ got v (p' + (q - p))
    again s p v q t p' e b =
        let k = (skip_took s p n v q e).stops in
        let w = b.within in
        let len : q - p ≡ n = omega arith in
        skip_give t p' n v (record { small = b.small; within = omega arith }) (omega arith) ∙ ap (λ (i : ℕ). got v (p' + i)) (sym len)

-- ---- and so does a chain of them

pub give_local : {A : Type 0} (a : A) → Local (λ s p. got a p)
give_local {A} a =
    record {
      grows = λ s p b q e. let f : p ≡ q = cc in omega arith;
      within = λ s p b q e h. let f : p ≡ q = cc in omega arith;
      again = λ s p b q t p' e _. let f : p ≡ q = cc in let g : a ≡ b = cc in ap₂ (λ (x : A) (k : ℕ). got x k) g (omega arith);
    }

pub refuse_local : {A : Type 0} (k : ℕ) → Local {A = A} (λ s p. no k)
refuse_local {A} k =
    record {
      grows = λ s p a q e. cc;
      within = λ s p a q e. cc;
      again = λ s p a q t p' e. cc;
    }

pub cond_local : {A : Type 0} {f g : List ℕ → ℕ → Ans A} (b : Bool) → Local f → Local g → Local (λ s p. cond b (f s p) (g s p))
cond_local true l r = l
cond_local false l r = r

-- the next field is read from where the one before it stopped
pub then_local : {A B : Type 0} {f : List ℕ → ℕ → Ans A} {g : A → List ℕ → ℕ → Ans B}
    → Local f → ((a : A) → Local (g a)) → Local (λ s p. and_then (f s p) (λ a q. g a s q))
then_local {A} {B} {f} {g} l m = record { grows = grows; within = within; again = again }
  where
    grows : (s : List ℕ) (p : ℕ) (b : B) (r : ℕ) → and_then (f s p) (λ a q. g a s q) ≡ got b r → p ≤ r
    grows s p b r e = go (f s p) refl e
      where
        go : (x : Ans A) → f s p ≡ x → and_then x (λ a q. g a s q) ≡ got b r → p ≤ r
        go (got a q) h k = omega (arith, l.grows s p a q h, (m a).grows s q b r k)
        go (no n) h k = cc

    within : (s : List ℕ) (p : ℕ) (b : B) (r : ℕ) → and_then (f s p) (λ a q. g a s q) ≡ got b r → p ≤ size s → r ≤ size s
    within s p b r e w = go (f s p) refl e
      where
        go : (x : Ans A) → f s p ≡ x → and_then x (λ a q. g a s q) ≡ got b r → r ≤ size s
        go (got a q) h k = (m a).within s q b r k (l.within s p a q h w)
        go (no n) h k = cc

    again : (s : List ℕ) (p : ℕ) (b : B) (r : ℕ) (t : List ℕ) (p' : ℕ) → and_then (f s p) (λ a q. g a s q) ≡ got b r → SameBits s p t p' (r - p)
        → and_then (f t p') (λ a q. g a t q) ≡ got b (p' + (r - p))
    again s p b r t p' e w = go (f s p) refl e
      where
        go : (x : Ans A) → f s p ≡ x → and_then x (λ a q. g a s q) ≡ got b r → and_then (f t p') (λ a q. g a t q) ≡ got b (p' + (r - p))
        go (got a q) h k =
            let pq = l.grows s p a q h in
            let qr = (m a).grows s q b r k in
            let cut : r - p ≡ (r - q) + (q - p) = omega arith in
            let at : p + (q - p) ≡ q = omega arith in
            let one = l.again s p a q t p' h (same_front s p t p' (q - p) (r - p) (omega arith) w) in
            let rest = subst (λ (i : ℕ). SameBits s i t (p' + (q - p)) (r - q)) at
            (same_rest s p t p' (q - p) (r - q) (subst (SameBits s p t p') cut w)) in
            simp one ((m a).again s q b r t (p' + (q - p)) k rest ∙ ap (λ (i : ℕ). got b i) (omega arith))
        go (no n) h k = cc
