-- What a read of slice groups says once it came to its end: where it stopped, on which bits it depends, and what the id buffer holds.
use mathlib.Core.Path.{◌≡◌, refl, ◌∙◌, subst}
use mathlib.Core.List.{List, [], ◌∷◌, ◌++◌}
use mathlib.Core.Bool.{Bool, true, false, cond}
use Prim.Native.Nat.{ℕ, zero, suc, ◌+◌, ◌-◌, ◌*◌, ◌^◌, ◌≤◌, ◌<◌}
use native.Mathlib.Nat.{suc-mul}
use native.Mathlib.Omega.{arith}
use borrow.Author.Tests.{ltb-false, le-ltb}
use lib.Dec.{ltb}
use lib.ListN.{length, get_or, take, drop, length-append}
use lib.Seq.{take_at, drop_at}
use Rattle.bits.specs.Reading.{Ans, got, no, unless, bits_of, ue_code, Stands, Entered, Took, SameBits, read_bits}
use Rattle.bits.proofs.Codes.{length_bits_of}
use Rattle.bits.proofs.Reading.{bits_codes}
use Rattle.pps.specs.Rule.{bad_group_count, id_bits, Fields, explicit, slice_groups}
use Rattle.desk.specs.Room.{with_front}
use Rattle.pps.specs.Codes.{row_code, All, groups_code, FieldsOk, IdsStand}
use Rattle.pps.specs.Answer.{entry_for, ids_roomed, groups_of, ids_in}
use Rattle.pps.proofs.Below.{id_bits_few}
use Rattle.pps.proofs.Codes.{front_stands, back_stands, groups_codes}
use Rattle.pps.proofs.Entry.{PassedEntry, passed, entry_passes, groups_few}
use Rattle.pps.proofs.Local.{groups_local}

module _ (s : List ℕ) (p n width units room : ℕ) (f : Fields) (q : ℕ) where
  -- a read that came to its end passed the entry checks, is the rule's, and its ids fit
  pub record Came : Type 0 where
    pub good : entry_for s p room width units (bad_group_count n) ≡ 0
    pub rule : slice_groups n width units s p ≡ got f q
    pub fits : length (ids_in f) ≤ room

  pub came : groups_of s p n width units room ≡ got f q → Came
  unfolding groups_of
  came e = go (entry_for s p room width units (bad_group_count n)) refl e
    where
      room_test : (g : Fields) (r : ℕ) → entry_for s p room width units (bad_group_count n) ≡ 0 → slice_groups n width units s p ≡ got g r
          → (c : Bool) → ltb room (length (ids_in g)) ≡ c → cond c (no 10) (got g r) ≡ got f q → Came
      room_test g r z w true t h = absurd (let x : ◌≡◌ {A = ℕ} 0 1 = cc in omega arith)
      room_test g r z w false t h =
          let fg : g ≡ f = cc in
          record { good = z; rule = w ∙ h; fits = subst (λ (y : Fields). length (ids_in y) ≤ room) fg (ltb-false room (length (ids_in g)) t) }

      fields : (x : Ans Fields) → entry_for s p room width units (bad_group_count n) ≡ 0 → slice_groups n width units s p ≡ x → ids_roomed room x ≡ got f q
          → Came
      fields (got g r) z w h = room_test g r z w (ltb room (length (ids_in g))) refl h
      fields (no k) z w h = absurd (let x : ◌≡◌ {A = ℕ} 0 1 = cc in omega arith)

      go : (k : ℕ) → entry_for s p room width units (bad_group_count n) ≡ k
          → unless no k (ids_roomed room (slice_groups n width units s p)) ≡ got f q → Came
      go zero z h = fields (slice_groups n width units s p) z refl h
      go (suc k) z h = absurd (let x : ◌≡◌ {A = ℕ} 0 1 = cc in omega arith)

  module _ (done : groups_of s p n width units room ≡ got f q) where
    picture : PassedEntry s p room width units (bad_group_count n)
    picture = passed s p room width units (bad_group_count n) (came done).good

    narrow : id_bits n ≤ 32
    narrow = let l = id_bits_few n (groups_few n picture.count).1 in omega arith

    -- the code of what was read stands from p on, in range, and the reader stands behind its last bit
    pub stops : Took (groups_code n) (FieldsOk n width units) s p f q
    stops = (groups_codes width units picture.limit n narrow).took s p f q (came done).rule

    -- where those bits stand again, the same is read, whatever stands around them
    pub again : (t : List ℕ) (p' : ℕ) → SameBits s p t p' (q - p) → groups_of t p' n width units room ≡ got f (p' + (q - p))
    unfolding groups_of
    again t p' same =
        let w = same.within in
        let here = picture in
        simp (
          entry_passes t p' room width units (bad_group_count n) (record { small = same.small; within = omega arith })
              here.ids here.picture here.count,
          (groups_local width units n).again s p f q t p' (came done).rule same,
          le-ltb room (length (ids_in f)) (came done).fits,
        )

-- ---- ids

row_long : (b : ℕ) (ids : List ℕ) → length (row_code (bits_of b) ids) ≡ length ids * b
row_long b [] = omega arith
row_long b (v ∷ ids) = length-append (bits_of b v) (row_code (bits_of b) ids) ∙ omega (arith, length_bits_of b v, row_long b ids, suc-mul (length ids) b)

kth_id : (b : ℕ) → b ≤ 32 → (s : List ℕ) (ids : List ℕ) (start : ℕ) → Entered s start → All (λ v. v < 2 ^ b) ids
    → Stands s start (row_code (bits_of b) ids)
    → (k : ℕ) → k < length ids → read_bits s (start + k * b) b ≡ got (get_or ids k 0) (start + (k + 1) * b)
kth_id b h s [] start g ok st k l = absurd (let z : ⊥ = omega arith in z)
kth_id b h s (v ∷ ids) start g ok st zero l =
    let e : start + 0 * b ≡ start = omega arith in
    let r : start + (0 + 1) * b ≡ start + length (bits_of b v) = omega (arith, length_bits_of b v) in
    rw (e, r) ((bits_codes b h).gives s start v g ok.0 (front_stands s start (bits_of b v) (row_code (bits_of b) ids) st))
kth_id b h s (v ∷ ids) start g ok st (suc k) l =
    let long = length_bits_of b v in
    let next = back_stands s start (bits_of b v) (row_code (bits_of b) ids) st in
    let w = next.within in
    let rest = kth_id b h s ids (start + length (bits_of b v)) (record { small = g.small; within = omega arith }) ok.1 next k (omega arith) in
    let e : start + suc k * b ≡ start + length (bits_of b v) + k * b = omega (arith, suc-mul k b) in
    let r : start + (suc k + 1) * b ≡ start + length (bits_of b v) + (k + 1) * b = omega (arith, suc-mul k b, suc-mul (k + 1) b) in
    rw (e, r) rest

-- type 6: id k is the k-th field of b bits, b the width of an id, behind the codes of 6 and of the count
pub ids_stand : (s : List ℕ) (p n width units room : ℕ) (ids : List ℕ) (q : ℕ) → groups_of s p n width units room ≡ got (explicit ids) q
    → IdsStand s (p + length (ue_code 6) + length (ue_code (length ids - 1))) (id_bits n) ids q
ids_stand s p n width units room ids q done =
    let t = stops s p n width units room (explicit ids) q done in
    let b = id_bits n in
    let one = back_stands s p (ue_code 6) (ue_code (length ids - 1) ++ row_code (bits_of b) ids) t.stands in
    let two = back_stands s (p + length (ue_code 6)) (ue_code (length ids - 1)) (row_code (bits_of b) ids) one in
    let w = two.within in
    record {
      ends = t.stops ∙ omega (
        arith,
        length-append (ue_code 6) (ue_code (length ids - 1) ++ row_code (bits_of b) ids),
        length-append (ue_code (length ids - 1)) (row_code (bits_of b) ids),
        row_long b ids,
      );
      kth = kth_id b (narrow s p n width units room (explicit ids) q done) s ids (p + length (ue_code 6) + length (ue_code (length ids - 1)))
          (record { small = t.entered.small; within = omega arith }) t.ok.each two;
    }

-- ---- the id buffer

-- what was read stands at its front
pub front_kept : (room ids : List ℕ) → take (length ids) (with_front room ids) ≡ ids
unfolding with_front
front_kept room ids = take_at ids (drop (length ids) room) (length ids) refl

-- and memory past it keeps its old bytes
pub rest_kept : (room ids : List ℕ) → drop (length ids) (with_front room ids) ≡ drop (length ids) room
unfolding with_front
rest_kept room ids = drop_at ids (drop (length ids) room) (length ids) refl

-- where no ids are given, by a refusal or another type, it is untouched
pub untouched : (room : List ℕ) → with_front room [] ≡ room
unfolding with_front
untouched room = refl
