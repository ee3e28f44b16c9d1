-- The rule's answer as the struct has it, for each map type.
use Rattle.std.specs.Prelude.{Result, Ok, Err}
use mathlib.Core.Path.{◌≡◌, refl, sym, ap, ◌∙◌, subst}
use mathlib.Core.List.{List, [], ◌++◌}
use mathlib.Core.Bool.{false}
use Prim.Native.Nat.{ℕ, ◌+◌, ◌-◌, ◌*◌, ◌≤◌, ◌<◌}
use native.Mathlib.Omega.{arith}
use borrow.Author.Tests.{lt-ltb, le-ltb, ne_eqb, le-leb, lt-leb}
use lib.ListN.{length, take, drop}
use lib.Seq.{length-take-le}
use Rattle.desk.specs.Numbers.{bad_run_length, bad_change_rate, bad_pic_size}
use Rattle.desk.specs.Refusing.{refusal_number}
use Rattle.desk.specs.Room.{with_front}
use Rattle.desk.specs.declared.refusal.Refusal.{Refusal}
use Rattle.desk.specs.declared.refusal.Refusal.TheVariants.{NoRoom}
use Rattle.bits.specs.Reading.{Ans, got, no, and_then, answer, Reads, read_ue, read_bit, read_bits, size, skipped, long, past, WhySkip, skip_entry}
use Rattle.bits.specs.Reading.{skip_short}
use Rattle.bits.specs.declared.BitReader.{BitReader}
use Rattle.bits.proofs.Back.{read_is, reads, refuses}
use Rattle.bits.proofs.Reading.{skip_took, skip_refused}
use Rattle.pps.specs.declared.Geometry.{Geometry}
use Rattle.pps.specs.declared.SliceRect.{SliceRect}
use Rattle.pps.specs.declared.SliceGroups.{SliceGroups}
use Rattle.pps.specs.declared.SliceGroupRead.{SliceGroupRead}
use Rattle.pps.specs.declared.SliceGroup.TheVariants.{Interleaved, ForegroundAndLeftover, ExplicitAssignment}
use Rattle.pps.specs.declared.fields.FieldReader.{FieldReader}
use Rattle.pps.specs.Rule.{bad_group_count, ue_below, row, rectangle, id_bits, group_id, Fields, dispersed}
use Rattle.pps.specs.Rule.{changing, most_units, run_lengths, rectangles, change, group_ids, by_type, slice_groups}
use Rattle.pps.specs.Step.{ReadsField, ReadsPart, PartGiven, ReadsIds, ReadsTable, RowSo, IdsFit, IdsPut}
use Rattle.pps.specs.Answer.{entry_for, rect_of, ids_roomed, groups_of, ids_given, no_runs, no_rects, groups_with, result_of, ReadsGroups}
use Rattle.pps.proofs.Back.{field_is}
use Rattle.pps.proofs.Rows.{row_stops, row_read, row_length}
use Rattle.pps.proofs.Ids.{ids_there, ids_short}
use Rattle.pps.proofs.Below.{IdsKnown, ids_known}
use Rattle.pps.proofs.Entry.{refused_at}

-- what is refused before an id is written
refused_part : {from after : FieldReader} {n : ℕ} {ids : List ℕ} {a : Ans Fields} (e : Refusal) → after.s.now ≡ from.s.now → a ≡ no (refusal_number e)
    → PartGiven from after n a ids (Err e) ids
unfolding with_front
refused_part e same is = record { read = record { same = same; answers = rw is refl }; memory = rw is refl }

-- a row that stops, or comes to its end, and what the call makes of it
module _ (from at : FieldReader) (n width size i : ℕ) where
  module _ (xs : List ℕ) (so : RowSo (ue_below size bad_run_length) from (n + 1) i xs at) where
    pub runs_stop : {after : FieldReader} {r : Result ℕ Refusal} {e : Refusal} → i < n + 1
        → ReadsField at after r (ue_below size bad_run_length at.s.now at.at.at.0) → r ≡ Err e
        → ReadsPart from after n (Err e) (run_lengths n size from.s.now from.at.at.0)
    unfolding run_lengths
    runs_stop h read is =
        record { same = read.same ∙ so.same; answers = rw (row_stops (ue_below size bad_run_length) from (n + 1) i xs at so h read is) refl }

    pub runs_end : {g : SliceGroups} → n + 1 ≤ i → g ≡ groups_with Interleaved n no_runs no_rects
        → ReadsPart from at n (Ok (record { groups = record g { run_length_minus1 = xs ++ drop (n + 1) no_runs }; ids = 0 }))
        (run_lengths n size from.s.now from.at.at.0)
    unfolding run_lengths with_front
    runs_end h eg =
        record { same = so.same; answers = rw (row_read (ue_below size bad_run_length) from (n + 1) i xs at so h, eg, so.long) refl }

  module _ (xs : List SliceRect) (so : RowSo (rectangle width size) from n i xs at) where
    pub rects_stop : {after : FieldReader} {r : Result SliceRect Refusal} {e : Refusal} → i < n
        → ReadsField at after r (rectangle width size at.s.now at.at.at.0) → r ≡ Err e
        → ReadsPart from after n (Err e) (rectangles n width size from.s.now from.at.at.0)
    unfolding rectangles
    rects_stop h read is =
        record { same = read.same ∙ so.same; answers = rw (row_stops (rectangle width size) from n i xs at so h read is) refl }

    pub rects_end : {g : SliceGroups} → n ≤ i → g ≡ groups_with ForegroundAndLeftover n no_runs no_rects
        → ReadsPart from at n (Ok (record { groups = record g { rectangles = xs ++ drop n no_rects }; ids = 0 }))
        (rectangles n width size from.s.now from.at.at.0)
    unfolding rectangles with_front
    rects_end h eg = record { same = so.same; answers = rw (row_read (rectangle width size) from n i xs at so h, eg, so.long) refl }

-- ---- ids

module _ (from mid : FieldReader) (n units : ℕ) (ids : List ℕ) {r : Result ℕ Refusal}
    (first : ReadsField from mid r (ue_below units bad_pic_size from.s.now from.at.at.0)) where
  abbrev s : List ℕ
  s = from.s.now

  abbrev q : ℕ
  q = mid.at.at.0

  abbrev Ids : FieldReader → Result SliceGroupRead Refusal → List ℕ → Type 0
  Ids after x ids' = ReadsIds from after n units ids x ids'

  pub ids_stop : {e : Refusal} → r ≡ Err e → Ids mid (Err e) ids
  unfolding group_ids
  ids_stop {e} is = refused_part e first.same (rw (field_is first is) refl)

  -- m + 1 ids of b bits follow, from q on
  module _ {m b : ℕ} (is : r ≡ Ok m) (few : n ≤ 7) (limit : units ≤ most_units) (eb : b ≡ id_bits n) where
    pub known : IdsKnown s m q b n
    known = ids_known s from.at.at.0 n units bad_pic_size m q b few limit (field_is first is) eb

    narrow : id_bits n ≤ 32
    narrow = let w = known.width in omega arith

    module _ {end : BitReader} {x : Result Unit Refusal} (skip : Reads mid.at end x (skipped mid.s.now q ((m + 1) * b))) where
      skips : {y : Result Unit Refusal} → x ≡ y → skipped s q ((m + 1) * b) ≡ answer y end
      skips {y} e = subst (λ (t : List ℕ). skipped t q ((m + 1) * b) ≡ answer y end) first.same (read_is skip e)

      short : {k : ℕ} → WhySkip s q ((m + 1) * b) k → (k ≡ 4) × (size s < q + (m + 1) * b)
      short (skip_entry (long h)) = absurd (let z : ⊥ = omega (arith, known.entered.small) in z)
      short (skip_entry (past h l)) = absurd (let z : ⊥ = omega (arith, known.entered.within) in z)
      short (skip_short g h) = (refl, h)

      pub ids_few : {e : Refusal} → x ≡ Err e → Ids mid (Err e) ids
      unfolding group_ids
      ids_few {e} k =
          let why = short (skip_refused s q ((m + 1) * b) (refusal_number e) (skips k)) in
          let none : row (group_id n) (m + 1) s q ≡ no 4 =
          ids_short (id_bits n) narrow (m + 1) s q known.entered (subst (λ (w : ℕ). size s < q + (m + 1) * w) eb why.1) in
          refused_part e first.same (rw (field_is first is, none) (ap (λ (j : ℕ). no j) (sym why.0)))

      module _ {u : Unit} (there : x ≡ Ok u) where
        all_there : q + (m + 1) * b ≤ size s
        all_there = let t = skip_took s q ((m + 1) * b) u end.at.0 (skips there) in let w = t.within in omega (arith, t.stops)

        pub ids_fit : m + 1 ≤ length ids → IdsFit mid.s.now q b (take (m + 1) ids)
        ids_fit h =
            let w = known.narrow in
            let l : length (take (m + 1) ids) ≡ m + 1 = length-take-le (m + 1) ids h in
            rw (first.same) (record { entered = known.entered; bits = rw l all_there; narrow = omega arith })

        pub ids_no_room : length ids < m + 1 → Ids mid (Err NoRoom) ids
        unfolding group_ids
        ids_no_room l = go (row (group_id n) (m + 1) s q) refl
          where
            go : (y : Ans (List ℕ)) → row (group_id n) (m + 1) s q ≡ y → Ids mid (Err NoRoom) ids
            go (got vs e) f =
                let many = row_length (group_id n) (m + 1) s q vs e f in
                refused_part NoRoom first.same (rw (field_is first is, f, lt-ltb (length ids) (length vs) (omega arith)) refl)
            go (no k) f =
                absurd (ids_there (id_bits n) narrow (m + 1) s q k known.entered (subst (λ (w : ℕ). q + (m + 1) * w ≤ size s) eb all_there) f)

    pub ids_end : {after : FieldReader} {ids' : List ℕ} {g : SliceGroups} → m + 1 ≤ length ids → IdsPut mid after b (take (m + 1) ids) ids'
        → g ≡ groups_with (ExplicitAssignment m) n no_runs no_rects
        → Ids after (Ok (record { groups = g; ids = m + 1 })) (ids' ++ drop (m + 1) ids)
    unfolding group_ids with_front
    ids_end {after} {ids'} h put eg =
        let l : length (take (m + 1) ids) ≡ m + 1 = length-take-le (m + 1) ids h in
        let e : ℕ = after.at.at.0 in
        let read : row (group_id n) (m + 1) s q ≡ got ids' e =
        subst (λ (t : List ℕ). row (group_id n) (m + 1) t q ≡ got ids' e) first.same
        (subst (λ (k : ℕ). row (group_id n) k mid.s.now q ≡ got ids' e) l
        (subst (λ (w : ℕ). row (λ s p. read_bits s p w) (length (take (m + 1) ids)) mid.s.now q ≡ got ids' e) eb put.read)) in
        let many = row_length (group_id n) (m + 1) s q ids' e read in
        let less : length ids' - 1 ≡ m = omega arith in
        let fits = le-ltb (length ids) (length ids') (omega arith) in
        record {
          read = record { same = put.same ∙ first.same; answers = rw (field_is first is, read, fits, less, many, eg) refl };
          memory = rw (field_is first is, read, fits, many) refl;
        }

-- ---- the table

no_ids : (from after : FieldReader) (n : ℕ) (ids : List ℕ) (r : Result SliceGroupRead Refusal) (x : Ans Fields) → ids_given x ≡ []
    → ReadsPart from after n r x → PartGiven from after n (ids_roomed (length ids) x) ids r ids
unfolding with_front
no_ids from after n ids r (got f q) none read =
    rw (none, le-ltb (length ids) 0 (omega arith)) (record { read = read; memory = rw none })
no_ids from after n ids r (no k) none read = record { read = read; memory = refl }

none_given : {A : Type 0} (x : Ans A) (make : A → ℕ → Ans Fields) → ((a : A) (q : ℕ) → ids_given (make a q) ≡ []) → ids_given (and_then x make) ≡ []
none_given (got a q) make h = h a q
none_given (no k) make h = refl

module _ (from : FieldReader) (n w z : ℕ) (ids : List ℕ) {at : BitReader} {x : Result ℕ Refusal}
    (first : Reads from.at at x (read_ue from.s.now from.at.at.0)) where
  abbrev mid : FieldReader
  mid = record { s = from.s; at = at }

  abbrev Given : FieldReader → Result SliceGroupRead Refusal → List ℕ → Type 0
  Given after r ids' = ReadsTable from after n w z ids r ids'

  pub table_stop : {e : Refusal} → x ≡ Err e → Given mid (Err e) ids
  unfolding slice_groups
  table_stop {e} is = refused_part e refl (rw (read_is first is) refl)

  module _ {t : ℕ} (is : x ≡ Ok t) {after : FieldReader} {r : Result SliceGroupRead Refusal} where
    -- the answer is that of the type's fields
    by_type_lem : (y : Ans Fields) (ids' : List ℕ) → by_type n w z t mid.s.now at.at.0 ≡ y
        → PartGiven mid after n (ids_roomed (length ids) y) ids r ids' → Given after r ids'
    unfolding slice_groups
    by_type_lem y ids' e given =
        record {
          read = record { same = given.read.same; answers = rw (read_is first is, e) given.read.answers };
          memory = rw (read_is first is, e) given.memory;
        }

    pub type_0 : t ≡ 0 → ReadsPart mid after n r (run_lengths n z mid.s.now at.at.0) → Given after r ids
    unfolding by_type run_lengths
    type_0 e read =
        by_type_lem (run_lengths n z mid.s.now at.at.0) ids (rw e)
        (no_ids mid after n ids r (run_lengths n z mid.s.now at.at.0)
        (none_given (row (ue_below z bad_run_length) (n + 1) mid.s.now at.at.0) _ (λ runs q. refl)) read)

    pub type_1 : t ≡ 1 → ReadsPart mid after n r (got dispersed at.at.0) → Given after r ids
    unfolding by_type
    type_1 e read = by_type_lem (got dispersed at.at.0) ids (rw e) (no_ids mid after n ids r (got dispersed at.at.0) refl read)

    pub type_2 : t ≡ 2 → ReadsPart mid after n r (rectangles n w z mid.s.now at.at.0) → Given after r ids
    unfolding by_type rectangles
    type_2 e read =
        by_type_lem (rectangles n w z mid.s.now at.at.0) ids (rw e)
        (no_ids mid after n ids r (rectangles n w z mid.s.now at.at.0)
        (none_given (row (rectangle w z) n mid.s.now at.at.0) _ (λ rects q. refl)) read)

    pub type_3 : 2 < t → t < 6 → ReadsPart mid after n r (change t z mid.s.now at.at.0) → Given after r ids
    unfolding by_type change
    type_3 l h read =
        by_type_lem (change t z mid.s.now at.at.0) ids
        (simp (ne_eqb t 0 (λ e. omega arith), ne_eqb t 1 (λ e. omega arith), ne_eqb t 2 (λ e. omega arith), le-leb t 5 (omega arith)))
        (no_ids mid after n ids r (change t z mid.s.now at.at.0)
        (none_given (read_bit mid.s.now at.at.0) _
        (λ flag q. none_given (ue_below z bad_change_rate mid.s.now q) (λ rate q. got (changing t flag rate) q) (λ rate q. refl)))
        read)

    pub type_6 : {ids' : List ℕ} → t ≡ 6 → ReadsIds mid after n z ids r ids' → Given after r ids'
    unfolding by_type
    type_6 {ids'} e given = by_type_lem (group_ids n z mid.s.now at.at.0) ids' (rw e) given

    pub type_rest : 6 ≤ t → (t ≡ 6 → ⊥) → ReadsPart mid after n r (no 12) → Given after r ids
    unfolding by_type
    type_rest l six read =
        by_type_lem (no 12) ids
        (simp (
          ne_eqb t 0 (λ e. omega arith),
          ne_eqb t 1 (λ e. omega arith),
          ne_eqb t 2 (λ e. omega arith),
          lt-leb t 5 (omega arith),
          ne_eqb t 6 six,
        ))
        (no_ids mid after n ids r (no 12) refl read)

-- ---- the calls: what the entry checks refuse, and a read that they let through

module _ (s : List ℕ) (from : BitReader) (width size : ℕ) where
  pub rect_refused : (e : Refusal) → entry_for s from.at.0 0 width size false ≡ refusal_number e
      → Reads from from (Err e) (rect_of s from.at.0 width size)
  unfolding rect_of
  rect_refused e h = refuses (refused_at e h (rectangle width size s from.at.0))

  pub rect_read : {a : Ans SliceRect} {w z : ℕ} → entry_for s from.at.0 0 width size false ≡ 0 → w ≡ width → z ≡ size
      → rectangle w z s from.at.0 ≡ a → rect_of s from.at.0 width size ≡ a
  unfolding rect_of
  rect_read h ew ez e = rw (h, ← ew, ← ez) e

module _ (s : List ℕ) (from : BitReader) (n : ℕ) (g : Geometry) (ids : List ℕ) where
  abbrev entry : ℕ
  entry = entry_for s from.at.0 (length ids) g.pic_width_in_mbs g.pic_size_in_map_units (bad_group_count n)

  pub groups_refused : (e : Refusal) → entry ≡ refusal_number e → ReadsGroups s from n g ids from (Err e) ids
  unfolding groups_of with_front
  groups_refused e h =
      let whole : groups_of s from.at.0 n g.pic_width_in_mbs g.pic_size_in_map_units (length ids) ≡ no (refusal_number e) = refused_at e h _ in
      record { read = refuses (ap (result_of n) whole); memory = rw whole refl }

  -- a read that is let through: the reader stands behind it where it is not refused, and the ids are as the table leaves them
  module _ {at after : FieldReader} {m w z : ℕ} {r : Result SliceGroupRead Refusal} {ids' : List ℕ} (pass : entry ≡ 0)
      (table : ReadsTable at after m w z ids r ids') (es : at.s.now ≡ s) (ef : at.at ≡ from) (em : m ≡ n) (ew : w ≡ g.pic_width_in_mbs)
      (ez : z ≡ g.pic_size_in_map_units) where
    whole : groups_of s from.at.0 n g.pic_width_in_mbs g.pic_size_in_map_units (length ids)
        ≡ ids_roomed (length ids) (slice_groups m w z at.s.now at.at.at.0)
    unfolding groups_of
    whole = rw (pass, ← es, ← ef, ← em, ← ew, ← ez) refl

    answered_by : {x : Result SliceGroupRead Refusal} → r ≡ x
        → result_of n (groups_of s from.at.0 n g.pic_width_in_mbs g.pic_size_in_map_units (length ids)) ≡ answer x after.at
    answered_by {x} is = rw (whole, ← em) (field_is table.read is)

    kept : ids' ≡ with_front ids (ids_given (groups_of s from.at.0 n g.pic_width_in_mbs g.pic_size_in_map_units (length ids)))
    kept = rw whole table.memory

    pub groups_read : {v : SliceGroupRead} → r ≡ Ok v → ReadsGroups s from n g ids after.at (Ok v) ids'
    groups_read is = record { read = reads (answered_by is); memory = kept }

    pub groups_stop : {e : Refusal} → r ≡ Err e → ReadsGroups s from n g ids from (Err e) ids'
    groups_stop is = record { read = refuses (answered_by is); memory = kept }
