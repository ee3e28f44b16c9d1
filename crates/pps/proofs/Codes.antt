-- Slice groups are read exactly where the codes of fields in range stand, and up to the end of those codes.
use mathlib.Core.Path.{◌≡◌, refl, sym, ap, ap₂, ◌∙◌, subst}
use mathlib.Core.List.{List, [], ◌∷◌, ◌++◌, append-nil}
use mathlib.Core.Bool.{Bool, true, false, cond}
use Prim.Native.Nat.{ℕ, zero, suc, ◌+◌, ◌-◌, ◌%◌, ◌^◌, ◌≤◌, ◌<◌}
use native.Mathlib.Omega.{arith}
use borrow.Author.Tests.{ltb-true, ltb-false, lt-ltb, le-ltb, leb-true, eqb-true, eqb-false, leb-false}
use lib.Dec.{ltb, leb, eqb}
use lib.ListN.{length, take, drop, length-append}
use lib.Seq.{take-add, drop-drop, take-take, take_at, drop_at}
use Rattle.desk.specs.Numbers.{bad_run_length, bad_change_rate, bad_pic_size}
use Rattle.bits.specs.Reading.{Ans, got, no, and_then, bits, bits_of, ue_code, AnyBit, Stands, Entered, Took, ReadsCodes, read_ue}
use Rattle.bits.proofs.Reading.{bits_codes, bit_codes, ue_codes}
use Rattle.pps.specs.declared.SliceRect.{SliceRect}
use Rattle.pps.specs.Rule.{most_units, ue_below, row, bottom_right_ok, corners, checked_rect, rectangle, id_bits, Fields, interleaved}
use Rattle.pps.specs.Rule.{dispersed, foreground, changing, explicit, run_lengths, rectangles, change, group_ids, by_type, slice_groups}
use Rattle.pps.specs.Codes.{row_code, RowOk, rect_code, RectOk, type_of, fields_code, groups_code, FieldsOk}

-- ---- a code behind a code

module _ (s : List ℕ) (p : ℕ) (a b : List ℕ) where
  pub both_stand : Stands s p a → Stands s (p + length a) b → Stands s p (a ++ b)
  both_stand sa sb =
      let w = sb.within in
      record {
        within = omega (arith, length-append a b);
        there = ap (λ (n : ℕ). take n (drop p (bits s))) (length-append a b) ∙ take-add (length a) (length b) (drop p (bits s))
            ∙ ap₂ (λ (x y : List ℕ). x ++ y) sa.there (ap (take (length b)) (drop-drop (length a) p (bits s)) ∙ sb.there);
      }

  pub front_stands : Stands s p (a ++ b) → Stands s p a
  front_stands w =
      let h = w.within in
      let l = length-append a b in
      record {
        within = omega arith;
        there = sym (take-take (length a) (length (a ++ b)) (drop p (bits s)) (omega arith)) ∙ ap (take (length a)) w.there
            ∙ take_at a b (length a) refl;
      }

  pub back_stands : Stands s p (a ++ b) → Stands s (p + length a) b
  back_stands w =
      let h = w.within in
      let l = length-append a b in
      let rest = take (length b) (drop (length a) (drop p (bits s))) in
      let all : a ++ rest ≡ a ++ b =
      ap (λ (x : List ℕ). x ++ rest) (sym (front_stands w).there) ∙ sym (take-add (length a) (length b) (drop p (bits s)))
      ∙ ap (λ (n : ℕ). take n (drop p (bits s))) (sym l) ∙ w.there in
      record {
        within = omega arith;
        there = ap (take (length b)) (sym (drop-drop (length a) p (bits s))) ∙ sym (drop_at a rest (length a) refl) ∙ ap (drop (length a)) all
            ∙ drop_at a b (length a) refl;
      }

-- ---- readers of codes, behind the entry checks

pub record Reader {A : Type 0} (code : A → List ℕ) (Ok : A → Type 0) (read : List ℕ → ℕ → Ans A) : Type 0 where
  pub took : (s : List ℕ) (p : ℕ) (a : A) (q : ℕ) → Entered s p → read s p ≡ got a q → Took code Ok s p a q
  pub gives : (s : List ℕ) (p : ℕ) (a : A) → Entered s p → Ok a → Stands s p (code a) → read s p ≡ got a (p + length (code a))

of_codes : {A : Type 0} {code : A → List ℕ} {Ok : A → Type 0} {read : List ℕ → ℕ → Ans A} → ReadsCodes code Ok read → Reader code Ok read
of_codes r = record { took = λ s p a q g e. r.took s p a q e; gives = r.gives }

-- the same by other words
ok_codes : {A : Type 0} {code : A → List ℕ} {Ok Ok' : A → Type 0} {read : List ℕ → ℕ → Ans A} → ((a : A) → Ok a → Ok' a) → ((a : A) → Ok' a → Ok a)
    → Reader code Ok read → Reader code Ok' read
ok_codes to back r =
    record {
      took = λ s p a q g e. let t = r.took s p a q g e in record { entered = t.entered; ok = to a t.ok; stands = t.stands; stops = t.stops };
      gives = λ s p a g ok st. r.gives s p a g (back a ok) st;
    }

cond_codes : {A : Type 0} {code : A → List ℕ} {Ok : A → Type 0} {f g : List ℕ → ℕ → Ans A} (b : Bool) → (b ≡ true → Reader code Ok f)
    → (b ≡ false → Reader code Ok g)
    → Reader code Ok (λ s p. cond b (f s p) (g s p))
cond_codes true f g = f refl
cond_codes false f g = g refl

-- nothing to read
give_codes : Reader {A = Unit} (λ u. []) (λ u. Unit) (λ s p. got tt p)
give_codes =
    record {
      took = λ s p a q g e. let pq : p ≡ q = cc in let w = g.within in
          record { entered = g; ok = tt; stands = record { within = omega arith; there = refl }; stops = omega arith };
      gives = λ s p a g ok st. ap (λ (k : ℕ). got tt k) (omega arith);
    }

-- a field that is checked once it is read
module _ {A : Type 0} {code : A → List ℕ} {Ok : A → Type 0} {f : List ℕ → ℕ → Ans A} (check : A → ℕ → Ans A) (Good : A → Type 0)
    (r : Reader code Ok f)
    (sound : (a : A) (q : ℕ) (b : A) (e : ℕ) → check a q ≡ got b e → (got a q ≡ got b e) × Good a)
    (complete : (a : A) (q : ℕ) → Good a → check a q ≡ got a q) where
  checked_codes : Reader code (λ a. Ok a × Good a) (λ s p. and_then (f s p) check)
  checked_codes = record { took = took; gives = λ s p a g ok st. rw (r.gives s p a g ok.0 st) (complete a (p + length (code a)) ok.1) }
    where
      took : (s : List ℕ) (p : ℕ) (b : A) (e : ℕ) → Entered s p → and_then (f s p) check ≡ got b e → Took code (λ a. Ok a × Good a) s p b e
      took s p b e g h = go (f s p) refl h
        where
          go : (x : Ans A) → f s p ≡ x → and_then x check ≡ got b e → Took code (λ a. Ok a × Good a) s p b e
          go (got a q) w c =
              let so = sound a q b e c in
              let t = r.took s p b e g (w ∙ so.0) in
              let ab : a ≡ b = let same = so.0 in cc in
              record { entered = t.entered; ok = (t.ok, subst Good ab so.1); stands = t.stands; stops = t.stops }
          go (no k) w c = absurd (let z : ◌≡◌ {A = ℕ} 0 1 = cc in omega arith)

-- what a value was made of
pub record Parts {A B C : Type 0} (OkA : A → Type 0) (OkB : A → B → Type 0) (make : A → B → C) (c : C) : Type 0 where
  pub a : A
  pub b : B
  pub is : c ≡ make a b
  pub ok_a : OkA a
  pub ok_b : OkB a b

-- a field, and what is read from where it stopped
module _ {A B C : Type 0} {code_a : A → List ℕ} {OkA : A → Type 0} {f : List ℕ → ℕ → Ans A} {code_b : A → B → List ℕ} {OkB : A → B → Type 0}
    {g : A → List ℕ → ℕ → Ans B} (make : A → B → C) (code : C → List ℕ) (Ok : C → Type 0) (rf : Reader code_a OkA f)
    (rg : (a : A) → Reader (code_b a) (OkB a) (g a)) (made_code : (a : A) (b : B) → OkB a b → code (make a b) ≡ code_a a ++ code_b a b)
    (made_ok : (a : A) (b : B) → OkA a → OkB a b → Ok (make a b)) (parts : (c : C) → Ok c → Parts OkA OkB make c) where
  chain_took : (s : List ℕ) (p : ℕ) (c : C) (e : ℕ) → Entered s p → and_then (f s p) (λ a q. and_then (g a s q) (λ b r. got (make a b) r)) ≡ got c e
      → Took code Ok s p c e
  chain_took s p c e en h = go (f s p) refl h
    where
      second : (a : A) (q : ℕ) → f s p ≡ got a q → (y : Ans B) → g a s q ≡ y → and_then y (λ b r. got (make a b) r) ≡ got c e → Took code Ok s p c e
      second a q w (got b r) v h =
          let ta = rf.took s p a q en w in
          let wa = ta.stands.within in
          let na = ta.stops in
          let tb = (rg a).took s q b r (record { small = en.small; within = omega arith }) v in
          let nb = tb.stops in
          let ec : make a b ≡ c = cc in
          let re : r ≡ e = cc in
          let ecode : code_a a ++ code_b a b ≡ code c = sym (made_code a b tb.ok) ∙ ap code ec in
          record {
            entered = en;
            ok = subst Ok ec (made_ok a b ta.ok tb.ok);
            stands = subst (Stands s p) ecode
                (both_stand s p (code_a a) (code_b a b) ta.stands (subst (λ (k : ℕ). Stands s k (code_b a b)) na tb.stands));
            stops = omega (arith, length-append (code_a a) (code_b a b), ap length ecode);
          }
      second a q w (no k) v h = absurd (let z : ◌≡◌ {A = ℕ} 0 1 = cc in omega arith)

      go : (x : Ans A) → f s p ≡ x → and_then x (λ a q. and_then (g a s q) (λ b r. got (make a b) r)) ≡ got c e → Took code Ok s p c e
      go (got a q) w h = second a q w (g a s q) refl h
      go (no k) w h = absurd (let z : ◌≡◌ {A = ℕ} 0 1 = cc in omega arith)

  chain_gives : (s : List ℕ) (p : ℕ) (c : C) → Entered s p → Ok c → Stands s p (code c)
      → and_then (f s p) (λ a q. and_then (g a s q) (λ b r. got (make a b) r)) ≡ got c (p + length (code c))
  chain_gives s p c en ok st =
      let x = parts c ok in
      let a = x.a in
      let b = x.b in
      let ecode : code c ≡ code_a a ++ code_b a b = ap code x.is ∙ made_code a b x.ok_b in
      let both = subst (Stands s p) ecode st in
      let sa = front_stands s p (code_a a) (code_b a b) both in
      let sb = back_stands s p (code_a a) (code_b a b) both in
      let w = sa.within in
      rw (rf.gives s p a en x.ok_a sa, (rg a).gives s (p + length (code_a a)) b (record { small = en.small; within = w }) x.ok_b sb)
      (ap₂ (λ (y : C) (k : ℕ). got y k) (sym x.is) (omega (arith, length-append (code_a a) (code_b a b), ap length ecode)))

  chain : Reader code Ok (λ s p. and_then (f s p) (λ a q. and_then (g a s q) (λ b r. got (make a b) r)))
  chain = record { took = chain_took; gives = chain_gives }

-- ---- fields

row_codes : {A : Type 0} {code : A → List ℕ} {Ok : A → Type 0} {field : List ℕ → ℕ → Ans A} → Reader code Ok field → (count : ℕ)
    → Reader (row_code code) (RowOk Ok count) (row field count)
unfolding row
row_codes {A} {code} {Ok} {field} r zero = record { took = took; gives = gives }
  where
    took : (s : List ℕ) (p : ℕ) (xs : List A) (q : ℕ) → Entered s p → got [] p ≡ got xs q → Took (row_code code) (RowOk Ok 0) s p xs q
    took s p [] q g e = let pq : p ≡ q = cc in let w = g.within in
        record { entered = g; ok = record { many = refl; each = tt }; stands = record { within = omega arith; there = refl }; stops = omega arith }
    took s p (x ∷ xs) q g e = absurd (let z : ◌≡◌ {A = ℕ} 0 1 = cc in omega arith)

    gives : (s : List ℕ) (p : ℕ) (xs : List A) → Entered s p → RowOk Ok 0 xs → Stands s p (row_code code xs)
        → got [] p ≡ got xs (p + length (row_code code xs))
    gives s p [] g ok st = ap (λ (k : ℕ). got [] k) (omega arith)
    gives s p (x ∷ xs) g ok st = absurd (let z : ⊥ = omega (arith, ok.many) in z)
row_codes {A} {code} {Ok} {field} r (suc count) =
    chain {OkB = λ a. RowOk Ok count} (λ a rest. a ∷ rest) (row_code code) (RowOk Ok (suc count)) r (λ a. row_codes r count) (λ a rest ok. refl)
    (λ a rest oka okb. record { many = ap suc okb.many; each = (oka, okb.each) }) parts
  where
    parts : (xs : List A) → RowOk Ok (suc count) xs → Parts Ok (λ a. RowOk Ok count) (λ a rest. a ∷ rest) xs
    parts [] ok = absurd (let z : ⊥ = omega (arith, ok.many) in z)
    parts (a ∷ rest) ok =
        record { a = a; b = rest; is = refl; ok_a = ok.each.0; ok_b = record { many = omega (arith, ok.many); each = ok.each.1 } }

below_codes : (limit k : ℕ) → limit ≤ most_units → Reader ue_code (λ v. v < limit) (ue_below limit k)
unfolding ue_below
below_codes limit k few =
    ok_codes (λ v ok. ok.1) (λ v l. (omega arith, l))
    (checked_codes (λ v q. cond (ltb v limit) (got v q) (no k)) (λ v. v < limit) (of_codes ue_codes)
    (λ v q b e h. test v q b e (ltb v limit) refl h) (λ v q l. rw (lt-ltb v limit l)))
  where
    test : (v q b e : ℕ) (c : Bool) → ltb v limit ≡ c → cond c (got v q) (no k) ≡ got b e → (got v q ≡ got b e) × (v < limit)
    test v q b e true l h = (h, ltb-true v limit l)
    test v q b e false l h = absurd (let z : ◌≡◌ {A = ℕ} 0 1 = cc in omega arith)

module _ (width units : ℕ) (few : units ≤ most_units) where
  ok_end : (br : ℕ) → bottom_right_ok units br ≡ true → br ≤ units
  unfolding bottom_right_ok
  ok_end br h = leb-true br units h

  corners_codes : Reader rect_code (λ rect. (rect.top_left < 4294967295) × (rect.bottom_right < 4294967295)) corners
  corners_codes =
      chain {OkB = λ tl br. br < 4294967295} (λ tl br. record { top_left = tl; bottom_right = br }) rect_code
      (λ rect. (rect.top_left < 4294967295) × (rect.bottom_right < 4294967295)) (of_codes ue_codes) (λ tl. of_codes ue_codes) (λ tl br ok. refl)
      (λ tl br a b. (a, b)) (λ rect ok. record { a = rect.top_left; b = rect.bottom_right; is = refl; ok_a = ok.0; ok_b = ok.1 })

  check_sound : (rect : SliceRect) (q : ℕ) (b : SliceRect) (e : ℕ) → checked_rect width units rect q ≡ got b e
      → (got rect q ≡ got b e) × RectOk width units rect
  check_sound rect q b e h = order (ltb rect.bottom_right rect.top_left) refl h
    where
      columns : rect.top_left ≤ rect.bottom_right → bottom_right_ok units rect.bottom_right ≡ true → (c : Bool)
          → ltb (rect.bottom_right % width) (rect.top_left % width) ≡ c → cond c (no 14) (got rect q) ≡ got b e
          → (got rect q ≡ got b e) × RectOk width units rect
      columns o w true t h = absurd (let z : ◌≡◌ {A = ℕ} 0 1 = cc in omega arith)
      columns o w false t h = (h, record { order = o; within = w; columns = ltb-false (rect.bottom_right % width) (rect.top_left % width) t })

      within : rect.top_left ≤ rect.bottom_right → (c : Bool) → bottom_right_ok units rect.bottom_right ≡ c
          → cond c (cond (ltb (rect.bottom_right % width) (rect.top_left % width)) (no 14) (got rect q)) (no 15) ≡ got b e
          → (got rect q ≡ got b e) × RectOk width units rect
      within o true t h = columns o t (ltb (rect.bottom_right % width) (rect.top_left % width)) refl h
      within o false t h = absurd (let z : ◌≡◌ {A = ℕ} 0 1 = cc in omega arith)

      order : (c : Bool) → ltb rect.bottom_right rect.top_left ≡ c
          → cond c (no 14)
          (cond (bottom_right_ok units rect.bottom_right)
          (cond (ltb (rect.bottom_right % width) (rect.top_left % width)) (no 14) (got rect q)) (no 15)) ≡ got b e
          → (got rect q ≡ got b e) × RectOk width units rect
      order true t h = absurd (let z : ◌≡◌ {A = ℕ} 0 1 = cc in omega arith)
      order false t h = within (ltb-false rect.bottom_right rect.top_left t) (bottom_right_ok units rect.bottom_right) refl h

  check_complete : (rect : SliceRect) (q : ℕ) → RectOk width units rect → checked_rect width units rect q ≡ got rect q
  check_complete rect q ok =
      simp (
        le-ltb rect.bottom_right rect.top_left ok.order,
        ok.within,
        le-ltb (rect.bottom_right % width) (rect.top_left % width) ok.columns,
      )

  rectangle_codes : Reader rect_code (RectOk width units) (rectangle width units)
  unfolding rectangle
  rectangle_codes =
      ok_codes (λ rect ok. ok.1)
      (λ rect ok. let o = ok.order in let w = ok_end rect.bottom_right ok.within in ((omega arith, omega arith), ok))
      (checked_codes (checked_rect width units) (RectOk width units) corners_codes check_sound check_complete)

  -- ---- the table, by type

  module _ (n : ℕ) (narrow : id_bits n ≤ 32) where
    -- fields in range, of type t
    abbrev Of : ℕ → Fields → Type 0
    Of t f = FieldsOk n width units f × (type_of f ≡ t)

    abbrev Arm : ℕ → (List ℕ → ℕ → Ans Fields) → Type 0
    Arm t read = Reader (fields_code n) (Of t) read

    runs_arm : (t : ℕ) → t ≡ 0 → Arm t (run_lengths n units)
    unfolding run_lengths
    runs_arm t e =
        chain {OkB = λ runs u. Unit {0}} (λ runs (u : Unit {0}). interleaved runs) (fields_code n) (Of t)
        (row_codes (below_codes units bad_run_length few) (n + 1))
        (λ runs. give_codes) (λ runs u ok. sym (append-nil (row_code ue_code runs))) (λ runs u ok v. (ok, sym e)) parts
      where
        parts : (f : Fields) → Of t f → Parts (RowOk (λ v. v < units) (n + 1)) (λ runs u. Unit {0}) (λ runs (u : Unit {0}). interleaved runs) f
        parts (interleaved runs) ok = record { a = runs; b = tt; is = refl; ok_a = ok.0; ok_b = tt }
        parts dispersed ok = absurd (let z : ⊥ = omega (arith, ok.1) in z)
        parts (foreground rects) ok = absurd (let z : ⊥ = omega (arith, ok.1) in z)
        parts (changing u flag rate) ok = absurd (let z : ⊥ = omega (arith, ok.1, ok.0.from) in z)
        parts (explicit ids) ok = absurd (let z : ⊥ = omega (arith, ok.1) in z)

    none_arm : (t : ℕ) → t ≡ 1 → Arm t (λ s p. got dispersed p)
    none_arm t e =
        chain {f = λ s p. got tt p} {g = λ u s p. got tt p} (λ (u : Unit {0}) (v : Unit {0}). dispersed) (fields_code n) (Of t) give_codes
        (λ u. give_codes) (λ u v ok. refl) (λ u v a b. (tt, sym e)) parts
      where
        parts : (f : Fields) → Of t f → Parts (λ u. Unit {0}) (λ u v. Unit {0}) (λ (u : Unit {0}) (v : Unit {0}). dispersed) f
        parts (interleaved runs) ok = absurd (let z : ⊥ = omega (arith, ok.1) in z)
        parts dispersed ok = record { a = tt; b = tt; is = refl; ok_a = tt; ok_b = tt }
        parts (foreground rects) ok = absurd (let z : ⊥ = omega (arith, ok.1) in z)
        parts (changing u flag rate) ok = absurd (let z : ⊥ = omega (arith, ok.1, ok.0.from) in z)
        parts (explicit ids) ok = absurd (let z : ⊥ = omega (arith, ok.1) in z)

    rects_arm : (t : ℕ) → t ≡ 2 → Arm t (rectangles n width units)
    unfolding rectangles
    rects_arm t e =
        chain {OkB = λ rects u. Unit {0}} (λ rects (u : Unit {0}). foreground rects) (fields_code n) (Of t) (row_codes rectangle_codes n)
        (λ rects. give_codes) (λ rects u ok. sym (append-nil (row_code rect_code rects))) (λ rects u ok v. (ok, sym e)) parts
      where
        parts : (f : Fields) → Of t f → Parts (RowOk (RectOk width units) n) (λ rects u. Unit {0}) (λ rects (u : Unit {0}). foreground rects) f
        parts (interleaved runs) ok = absurd (let z : ⊥ = omega (arith, ok.1) in z)
        parts dispersed ok = absurd (let z : ⊥ = omega (arith, ok.1) in z)
        parts (foreground rects) ok = record { a = rects; b = tt; is = refl; ok_a = ok.0; ok_b = tt }
        parts (changing u flag rate) ok = absurd (let z : ⊥ = omega (arith, ok.1, ok.0.from) in z)
        parts (explicit ids) ok = absurd (let z : ⊥ = omega (arith, ok.1) in z)

    change_arm : (t : ℕ) → 3 ≤ t → t ≤ 5 → Arm t (change t units)
    unfolding change
    change_arm t from to =
        chain {OkB = λ flag rate. rate < units} (λ flag rate. changing t flag rate) (fields_code n) (Of t) (of_codes bit_codes)
        (λ flag. below_codes units bad_change_rate few) (λ flag rate ok. refl)
        (λ flag rate a b. (record { from = from; to = to; below = b }, refl)) parts
      where
        parts : (f : Fields) → Of t f → Parts AnyBit (λ flag rate. rate < units) (λ flag rate. changing t flag rate) f
        parts (interleaved runs) ok = absurd (let z : ⊥ = omega (arith, ok.1) in z)
        parts dispersed ok = absurd (let z : ⊥ = omega (arith, ok.1) in z)
        parts (foreground rects) ok = absurd (let z : ⊥ = omega (arith, ok.1) in z)
        parts (changing u flag rate) ok =
            record { a = flag; b = rate; is = ap (λ (k : ℕ). changing k flag rate) ok.1; ok_a = tt; ok_b = ok.0.below }
        parts (explicit ids) ok = absurd (let z : ⊥ = omega (arith, ok.1) in z)

    ids_arm : (t : ℕ) → t ≡ 6 → Arm t (group_ids n units)
    unfolding group_ids
    ids_arm t e =
        chain {OkB = λ m. RowOk (λ v. v < 2 ^ id_bits n) (m + 1)} (λ m ids. explicit ids) (fields_code n) (Of t) (below_codes units bad_pic_size few)
        (λ m. row_codes (of_codes (bits_codes (id_bits n) narrow)) (m + 1))
        (λ m ids ok. let l : length ids - 1 ≡ m = omega (arith, ok.many) in ap (λ (k : ℕ). ue_code k ++ row_code (bits_of (id_bits n)) ids) l)
        (λ m ids a ok. (record { some = omega (arith, ok.many); few = omega (arith, ok.many); each = ok.each }, sym e)) parts
      where
        parts : (f : Fields) → Of t f → Parts (λ m. m < units) (λ m. RowOk (λ v. v < 2 ^ id_bits n) (m + 1)) (λ m ids. explicit ids) f
        parts (interleaved runs) ok = absurd (let z : ⊥ = omega (arith, ok.1) in z)
        parts dispersed ok = absurd (let z : ⊥ = omega (arith, ok.1) in z)
        parts (foreground rects) ok = absurd (let z : ⊥ = omega (arith, ok.1) in z)
        parts (changing u flag rate) ok = absurd (let z : ⊥ = omega (arith, ok.1, ok.0.to) in z)
        parts (explicit ids) ok =
            let i = ok.0 in
            record {
              a = length ids - 1;
              b = ids;
              is = refl;
              ok_a = omega (arith, i.some, i.few);
              ok_b = record { many = omega (arith, i.some); each = i.each };
            }

    -- no fields have a type over 6
    rest_arm : (t : ℕ) → 6 < t → Arm t (λ s p. no 12)
    rest_arm t h = record { took = λ s p f q g e. absurd (let z : ◌≡◌ {A = ℕ} 0 1 = cc in omega arith); gives = λ s p f g ok st. absurd (none f ok) }
      where
        none : (f : Fields) → Of t f → ⊥
        none (interleaved runs) ok = omega (arith, ok.1)
        none dispersed ok = omega (arith, ok.1)
        none (foreground rects) ok = omega (arith, ok.1)
        none (changing u flag rate) ok = omega (arith, ok.1, ok.0.to)
        none (explicit ids) ok = omega (arith, ok.1)

    by_type_codes : (t : ℕ) → Arm t (by_type n width units t)
    unfolding by_type
    by_type_codes t =
        cond_codes (eqb t 0) (λ a. runs_arm t (eqb-true t 0 a))
        (λ a. cond_codes (eqb t 1) (λ b. none_arm t (eqb-true t 1 b))
        (λ b. cond_codes (eqb t 2) (λ c. rects_arm t (eqb-true t 2 c))
        (λ c. cond_codes (leb t 5) (λ d. change_arm t (above t (eqb-false t 0 a) (eqb-false t 1 b) (eqb-false t 2 c)) (leb-true t 5 d))
        (λ d. cond_codes (eqb t 6) (λ e. ids_arm t (eqb-true t 6 e)) (λ e. rest_arm t (over t (leb-false t 5 d) (eqb-false t 6 e)))))))
      where
        above : (t : ℕ) → (t ≡ 0 → ⊥) → (t ≡ 1 → ⊥) → (t ≡ 2 → ⊥) → 3 ≤ t
        above t a b c = omega arith

        over : (t : ℕ) → 5 < t → (t ≡ 6 → ⊥) → 6 < t
        over t a b = omega arith

    whole_codes : Reader (groups_code n) (FieldsOk n width units)
        (λ s p. and_then (read_ue s p) (λ t q. and_then (by_type n width units t s q) (λ f r. got f r)))
    whole_codes =
        chain {OkB = λ t f. Of t f} (λ t f. f) (groups_code n) (FieldsOk n width units) (of_codes ue_codes) by_type_codes
        (λ t f ok. ap (λ (k : ℕ). ue_code k ++ fields_code n f) ok.1) (λ t f a ok. ok.0)
        (λ f ok. record { a = type_of f; b = f; is = refl; ok_a = small f ok; ok_b = (ok, refl) })
      where
        small : (f : Fields) → FieldsOk n width units f → type_of f < 4294967295
        small (interleaved runs) ok = omega arith
        small dispersed ok = omega arith
        small (foreground rects) ok = omega arith
        small (changing u flag rate) ok = omega (arith, ok.to)
        small (explicit ids) ok = omega arith

    again : (x : Ans Fields) → and_then x (λ f r. got f r) ≡ x
    again (got f r) = refl
    again (no k) = refl

    whole : (s : List ℕ) (p : ℕ) (x : Ans ℕ)
        → and_then x (λ t q. and_then (by_type n width units t s q) (λ f r. got f r)) ≡ and_then x (λ t q. by_type n width units t s q)
    whole s p (got t q) = again (by_type n width units t s q)
    whole s p (no k) = refl

    -- THE LAW: what is read are the fields in range whose code stands there, up to its end; and where the code of fields in range stands,
    -- they are read
    pub groups_codes : ReadsCodes (groups_code n) (FieldsOk n width units) (slice_groups n width units)
    unfolding slice_groups
    groups_codes =
        record {
          took = λ s p f q e. whole_codes.took s p f q (first s p f q (read_ue s p) refl e) (whole s p (read_ue s p) ∙ e);
          gives = λ s p f g ok st. sym (whole s p (read_ue s p)) ∙ whole_codes.gives s p f g ok st;
        }
      where
        first : (s : List ℕ) (p : ℕ) (f : Fields) (q : ℕ) (x : Ans ℕ) → read_ue s p ≡ x → and_then x (λ t r. by_type n width units t s r) ≡ got f q
            → Entered s p
        first s p f q (got t r) w e = (ue_codes.took s p t r w).entered
        first s p f q (no k) w e = absurd (let z : ◌≡◌ {A = ℕ} 0 1 = cc in omega arith)
