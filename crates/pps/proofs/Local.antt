-- A read depends on the bits that it read alone.
use mathlib.Core.List.{List, [], ◌∷◌}
use Prim.Native.Nat.{ℕ, zero, suc, ◌+◌, ◌%◌}
use lib.Dec.{ltb, leb, eqb}
use Rattle.desk.specs.Numbers.{bad_map_type, bad_run_length, invalid_top_left, invalid_bottom_right, bad_change_rate, bad_pic_size}
use Rattle.bits.specs.Reading.{Ans, Local}
use Rattle.bits.proofs.Locality.{ue_local, bit_local, bits_local, then_local, cond_local, give_local, refuse_local}
use Rattle.pps.specs.Rule.{ue_below, row, bottom_right_ok, rectangle, id_bits, interleaved, dispersed, foreground, changing, explicit}
use Rattle.pps.specs.Rule.{run_lengths, rectangles, change, group_ids, by_type, slice_groups}

pub below_local : (limit k : ℕ) → Local (ue_below limit k)
unfolding ue_below
below_local limit k = then_local ue_local (λ v. cond_local (ltb v limit) (give_local v) (refuse_local k))

pub row_local : {A : Type 0} {field : List ℕ → ℕ → Ans A} → Local field → (count : ℕ) → Local (row field count)
unfolding row
row_local l zero = give_local []
row_local l (suc count) = then_local l (λ a. then_local (row_local l count) (λ rest. give_local (a ∷ rest)))

module _ (width size : ℕ) where
  pub rectangle_local : Local (rectangle width size)
  unfolding rectangle
  rectangle_local =
      then_local
      (then_local ue_local (λ tl. then_local ue_local (λ br. give_local (record { top_left = tl; bottom_right = br }))))
      (λ rect.
      cond_local (ltb rect.bottom_right rect.top_left) (refuse_local invalid_top_left)
      (cond_local (bottom_right_ok size rect.bottom_right)
      (cond_local (ltb (rect.bottom_right % width) (rect.top_left % width)) (refuse_local invalid_top_left) (give_local rect))
      (refuse_local invalid_bottom_right)))

  module _ (n : ℕ) where
    runs_local : Local (run_lengths n size)
    unfolding run_lengths
    runs_local = then_local (row_local (below_local size bad_run_length) (n + 1)) (λ runs. give_local (interleaved runs))

    rects_local : Local (rectangles n width size)
    unfolding rectangles
    rects_local = then_local (row_local rectangle_local n) (λ rects. give_local (foreground rects))

    change_local : (t : ℕ) → Local (change t size)
    unfolding change
    change_local t = then_local bit_local (λ flag. then_local (below_local size bad_change_rate) (λ rate. give_local (changing t flag rate)))

    ids_local : Local (group_ids n size)
    unfolding group_ids
    ids_local =
        then_local (below_local size bad_pic_size) (λ m. then_local (row_local (bits_local (id_bits n)) (m + 1)) (λ ids. give_local (explicit ids)))

    by_type_local : (t : ℕ) → Local (by_type n width size t)
    unfolding by_type
    by_type_local t =
        cond_local (eqb t 0) runs_local
        (cond_local (eqb t 1) (give_local dispersed)
        (cond_local (eqb t 2) rects_local
        (cond_local (leb t 5) (change_local t)
        (cond_local (eqb t 6) ids_local (refuse_local bad_map_type)))))

    -- the slice groups of a set: what is read moves on, stays within the bytes, and is read again where its bits stand again
    pub groups_local : Local (slice_groups n width size)
    unfolding slice_groups
    groups_local = then_local ue_local by_type_local
