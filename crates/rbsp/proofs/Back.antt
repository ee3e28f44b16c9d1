-- There and back: escaped bytes are legal and unescape to what was written; a legal list that does not end in a removed 03 is the escape of its
-- unescape.
use Prim.Native.Nat.{ℕ, zero, suc, ◌≤◌}
use native.Mathlib.Omega.{arith}
use mathlib.Core.Path.{◌≡◌, refl, ap, ap₂, sym, ◌∙◌, subst}
use mathlib.Core.Bool.{Bool, true, false, cond, not, ◌&&◌, and-false}
use mathlib.Core.List.{List, [], ◌∷◌, ◌++◌, append_assoc, append-nil}
use mathlib.Core.Option.{Option, none, some}
use lib.ListN.{length}
use Rattle.desk.specs.Search.{is3, up_to2, up_to3, trail}
use Rattle.desk.specs.Zeros.{two}
use Rattle.desk.proofs.Lists.{snoc_ind, trail_few}
use Rattle.desk.proofs.Search.{trail_more, none≢some}
use Rattle.rbsp.specs.Rule.{escape, unescape, Legal, first_break, ends_three}
use Rattle.rbsp.specs.Step.{stuffs}
use Rattle.rbsp.proofs.Breaking.{forbids, break_more, break_stays, none_legal, legal_none}
use Rattle.rbsp.proofs.Escaping.{let_out, escape_more}
use Rattle.rbsp.proofs.Unescaping.{kept, unescape_more, ends_three_more, ends_three_trail}

-- what reading makes of an escaped list
record Readable (h g : List ℕ) : Type 0 where
  ends : ends_three g ≡ false
  bytes : unescape g ≡ h
  unbroken : first_break g ≡ none

-- behind z zeros, a byte before which no 03 goes is neither removed nor forbidden
not_removed : (z b : ℕ) → stuffs z b ≡ false → (two z && is3 b) ≡ false
not_removed zero b e = refl
not_removed (suc zero) b e = refl
not_removed (suc (suc z)) zero e = refl
not_removed (suc (suc z)) (suc zero) e = refl
not_removed (suc (suc z)) (suc (suc zero)) e = refl
not_removed (suc (suc z)) (suc (suc (suc zero))) e = cc
not_removed (suc (suc z)) (suc (suc (suc (suc b)))) e = refl

not_forbidden : (z b : ℕ) → stuffs z b ≡ false → (two z && up_to2 b) ≡ false
not_forbidden zero b e = refl
not_forbidden (suc zero) b e = refl
not_forbidden (suc (suc z)) zero e = cc
not_forbidden (suc (suc z)) (suc zero) e = cc
not_forbidden (suc (suc z)) (suc (suc zero)) e = cc
not_forbidden (suc (suc z)) (suc (suc (suc zero))) e = refl
not_forbidden (suc (suc z)) (suc (suc (suc (suc b)))) e = refl

stuffs_two : (z b : ℕ) → stuffs z b ≡ true → (two z ≡ true) × (up_to3 b ≡ true)
stuffs_two z b e = go (two z) refl e
  where
    go : (c : Bool) → two z ≡ c → (c && up_to3 b) ≡ true → (two z ≡ true) × (up_to3 b ≡ true)
    go true q f = (q, f)
    go false q f = cc

-- a byte that goes out alone
read_alone : (h g : List ℕ) (b : ℕ) → Readable h g → stuffs (trail g) b ≡ false → Readable (h ++ b ∷ []) (g ++ b ∷ [])
read_alone h g b r e =
    let n = not_removed (trail g) b e in
    record {
      ends = ends_three_more g b ∙ n;
      bytes = unescape_more g b ∙ ap₂ (λ (l : List ℕ) (c : Bool). l ++ cond c [] (b ∷ [])) r.bytes n;
      unbroken =
          break_more g b r.unbroken
          ∙ ap (λ (c : Bool). cond (cond c (not (up_to3 b)) (two (trail g) && up_to2 b)) (some (length g)) none) r.ends
          ∙ ap (λ (c : Bool). cond c (some (length g)) none) (not_forbidden (trail g) b e);
    }

-- a byte that goes out behind a 03
read_behind : (h g : List ℕ) (b : ℕ) → Readable h g → two (trail g) ≡ true → up_to3 b ≡ true → Readable (h ++ b ∷ []) (g ++ 3 ∷ b ∷ [])
read_behind h g b r t u =
    let g' = g ++ 3 ∷ [] in
    let three : ends_three g' ≡ true = ends_three_more g 3 ∙ ap (λ (c : Bool). c && true) t in
    let bytes' : unescape g' ≡ h =
    unescape_more g 3 ∙ ap₂ (λ (l : List ℕ) (c : Bool). l ++ cond (c && true) [] (3 ∷ [])) r.bytes t ∙ append-nil h in
    let unbroken' : first_break g' ≡ none =
    break_more g 3 r.unbroken
    ∙ ap (λ (c : Bool). cond (cond c false (two (trail g) && false)) (some (length g)) none) r.ends
    ∙ ap (λ (c : Bool). cond c (some (length g)) none) (and-false (two (trail g))) in
    let none_left : trail g' ≡ 0 = trail_more g 3 in
    subst (Readable (h ++ b ∷ [])) (append_assoc g (3 ∷ []) (b ∷ []))
    (record {
      ends = ends_three_more g' b ∙ ap (λ (n : ℕ). two n && is3 b) none_left;
      bytes = unescape_more g' b ∙ ap₂ (λ (l : List ℕ) (n : ℕ). l ++ kept n b) bytes' none_left;
      unbroken = break_more g' b unbroken' ∙ ap₂ (λ (c d : Bool). cond (cond c (not d) (two (trail g') && up_to2 b)) (some (length g')) none) three u;
    })

readable : (h : List ℕ) → Readable h (escape h)
unfolding escape unescape
readable =
    snoc_ind (λ (h : List ℕ). Readable h (escape h)) (record { ends = refl; bytes = refl; unbroken = refl })
    (λ h b r. subst (Readable (h ++ b ∷ [])) (sym (escape_more h b)) (go h b r (stuffs (trail (escape h)) b) refl))
  where
    go : (h : List ℕ) (b : ℕ) → Readable h (escape h) → (c : Bool) → stuffs (trail (escape h)) b ≡ c
        → Readable (h ++ b ∷ []) (escape h ++ cond c (3 ∷ b ∷ []) (b ∷ []))
    go h b r true e = let q = stuffs_two (trail (escape h)) b e in read_behind h (escape h) b r q.0 q.1
    go h b r false e = read_alone h (escape h) b r e

-- ESCAPING THEN UNESCAPING GIVES THE ORIGINAL
pub unescape_escape : (s : List ℕ) → unescape (escape s) ≡ s
unescape_escape s = (readable s).bytes

-- WHAT IS WRITTEN IS LEGAL: it never holds 00 00 followed by 00, 01 or 02
pub escape_unbroken : (s : List ℕ) → first_break (escape s) ≡ none
escape_unbroken s = (readable s).unbroken

pub escape_legal : (s : List ℕ) → Legal (escape s)
escape_legal s = none_legal (escape s) (escape_unbroken s)

-- ---- and back

-- what writing makes of an unescaped list
record Rewrites (s u : List ℕ) : Type 0 where
  whole : escape u ++ cond (ends_three s) (3 ∷ []) [] ≡ s
  zeros : trail (escape u) ≡ cond (ends_three s) 2 (trail s)

two_is : (z : ℕ) → z ≤ 2 → two z ≡ true → z ≡ 2
two_is zero h e = cc
two_is (suc zero) h e = cc
two_is (suc (suc z)) h e = omega arith

is3_is : (b : ℕ) → is3 b ≡ true → b ≡ 3
is3_is zero e = cc
is3_is (suc zero) e = cc
is3_is (suc (suc zero)) e = cc
is3_is (suc (suc (suc zero))) e = refl
is3_is (suc (suc (suc (suc b)))) e = cc

-- behind two zeros, a byte that is neither forbidden nor removed wants no 03
not_stuffed : (z b : ℕ) → (two z && up_to2 b) ≡ false → (two z && is3 b) ≡ false → stuffs z b ≡ false
not_stuffed zero b e f = refl
not_stuffed (suc zero) b e f = refl
not_stuffed (suc (suc z)) zero e f = cc
not_stuffed (suc (suc z)) (suc zero) e f = cc
not_stuffed (suc (suc z)) (suc (suc zero)) e f = cc
not_stuffed (suc (suc z)) (suc (suc (suc zero))) e f = cc
not_stuffed (suc (suc z)) (suc (suc (suc (suc b)))) e f = refl

unbroken_before : (s : List ℕ) (b : ℕ) → first_break (s ++ b ∷ []) ≡ none → (first_break s ≡ none) × (forbids s b ≡ false)
unbroken_before s b e = go (first_break s) refl
  where
    spared : (c : Bool) → cond c (some (length s)) none ≡ none → c ≡ false
    spared true q = cc
    spared false q = refl

    go : (r : Option ℕ) → first_break s ≡ r → (first_break s ≡ none) × (forbids s b ≡ false)
    go none q = (q, spared (forbids s b) (sym (break_more s b q) ∙ e))
    go (some k) q = absurd (none≢some (sym e ∙ break_stays s (b ∷ []) k q))

not_not : (c : Bool) → not c ≡ false → c ≡ true
not_not true e = refl
not_not false e = sym e

module _ (s : List ℕ) (b : ℕ) (w : Rewrites s (unescape s)) where
  -- behind a removed 03: writing puts it back
  write_behind : ends_three s ≡ true → up_to3 b ≡ true → Rewrites (s ++ b ∷ []) (unescape (s ++ b ∷ []))
  write_behind t u =
      let z : trail s ≡ 0 = ends_three_trail s t in
      let g = escape (unescape s) in
      let two_zeros : trail g ≡ 2 = w.zeros ∙ ap (λ (c : Bool). cond c 2 (trail s)) t in
      let back : g ++ 3 ∷ [] ≡ s = ap (λ (c : Bool). g ++ cond c (3 ∷ []) []) (sym t) ∙ w.whole in
      let no : ends_three (s ++ b ∷ []) ≡ false = ends_three_more s b ∙ ap (λ (n : ℕ). two n && is3 b) z in
      let un : unescape (s ++ b ∷ []) ≡ unescape s ++ b ∷ [] = unescape_more s b ∙ ap (λ (n : ℕ). unescape s ++ kept n b) z in
      let es : escape (unescape (s ++ b ∷ [])) ≡ s ++ b ∷ [] =
      ap escape un ∙ escape_more (unescape s) b ∙ ap₂ (λ (n : ℕ) (c : Bool). g ++ cond (two n && c) (3 ∷ b ∷ []) (b ∷ [])) two_zeros u
      ∙ sym (append_assoc g (3 ∷ []) (b ∷ [])) ∙ ap (λ (l : List ℕ). l ++ b ∷ []) back in
      record { whole = rw no (append-nil _ ∙ es); zeros = rw no (ap trail es) }

  -- elsewhere, what is written so far is what was read
  module _ (f : ends_three s ≡ false) (forb : (two (trail s) && up_to2 b) ≡ false) where
    same : escape (unescape s) ≡ s
    same = sym (append-nil _) ∙ ap (λ (c : Bool). escape (unescape s) ++ cond c (3 ∷ []) []) (sym f) ∙ w.whole

    write_removed : (two (trail s) && is3 b) ≡ true → Rewrites (s ++ b ∷ []) (unescape (s ++ b ∷ []))
    write_removed r =
        let un : unescape (s ++ b ∷ []) ≡ unescape s =
        unescape_more s b ∙ ap (λ (c : Bool). unescape s ++ cond c [] (b ∷ [])) r ∙ append-nil (unescape s) in
        let yes : ends_three (s ++ b ∷ []) ≡ true = ends_three_more s b ∙ r in
        let b3 : b ≡ 3 = is3_is b (right (two (trail s)) r) in
        let es : escape (unescape (s ++ b ∷ [])) ≡ s = ap escape un ∙ same in
        record {
          whole = rw yes (ap₂ (λ (l : List ℕ) (n : ℕ). l ++ n ∷ []) es (sym b3));
          zeros = rw yes (ap trail es ∙ two_is (trail s) (trail_few s) (left (two (trail s)) r));
        }
      where
        left : (c : Bool) → (c && is3 b) ≡ true → c ≡ true
        left true e = refl
        left false e = e

        right : (c : Bool) → (c && is3 b) ≡ true → is3 b ≡ true
        right true e = e
        right false e = cc

    write_alone : (two (trail s) && is3 b) ≡ false → Rewrites (s ++ b ∷ []) (unescape (s ++ b ∷ []))
    write_alone r =
        let un : unescape (s ++ b ∷ []) ≡ unescape s ++ b ∷ [] = unescape_more s b ∙ ap (λ (c : Bool). unescape s ++ cond c [] (b ∷ [])) r in
        let no : ends_three (s ++ b ∷ []) ≡ false = ends_three_more s b ∙ r in
        let es : escape (unescape (s ++ b ∷ [])) ≡ s ++ b ∷ [] =
        ap escape un ∙ escape_more (unescape s) b ∙ ap (λ (l : List ℕ). l ++ let_out (trail l) b) same
        ∙ ap (λ (c : Bool). s ++ cond c (3 ∷ b ∷ []) (b ∷ [])) (not_stuffed (trail s) b forb r) in
        record { whole = rw no (append-nil _ ∙ es); zeros = rw no (ap trail es) }

  write_more : forbids s b ≡ false → Rewrites (s ++ b ∷ []) (unescape (s ++ b ∷ []))
  write_more e = go (ends_three s) refl e (two (trail s) && is3 b) refl
    where
      go : (c : Bool) → ends_three s ≡ c → cond c (not (up_to3 b)) (two (trail s) && up_to2 b) ≡ false → (d : Bool) → (two (trail s) && is3 b) ≡ d
          → Rewrites (s ++ b ∷ []) (unescape (s ++ b ∷ []))
      go true q f d r = write_behind q (not_not (up_to3 b) f)
      go false q f true r = write_removed q f r
      go false q f false r = write_alone q f r

rewritten : (s : List ℕ) → first_break s ≡ none → Rewrites s (unescape s)
unfolding escape unescape
rewritten =
    snoc_ind (λ (s : List ℕ). first_break s ≡ none → Rewrites s (unescape s)) (λ e. record { whole = refl; zeros = refl })
    (λ s b ih e. let q = unbroken_before s b e in write_more s b (ih q.0) q.1)

-- UNESCAPING THEN ESCAPING GIVES THE ORIGINAL TOO, unless its last byte is a removed 03
pub escape_unescape : (s : List ℕ) → Legal s → ends_three s ≡ false → escape (unescape s) ≡ s
escape_unescape s l f =
    let w = rewritten s (legal_none s l) in
    sym (append-nil _) ∙ ap (λ (c : Bool). escape (unescape s) ++ cond c (3 ∷ []) []) (sym f) ∙ w.whole
