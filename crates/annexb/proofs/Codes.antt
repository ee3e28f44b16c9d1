-- A start code forgets all before it: what follows depends on what follows alone (document 02's E5).
use Prim.Native.Nat.{ℕ, zero, suc}
use native.Mathlib.Omega.{arith}
use mathlib.Core.Path.{◌≡◌, refl, ap, ap₂, sym, ◌∙◌}
use mathlib.Core.Bool.{Bool, true, false, ◌&&◌, and-true, and-false}
use mathlib.Core.List.{List, [], ◌∷◌, ◌++◌, append_assoc}
use Rattle.desk.specs.Search.{trail, unheld}
use Rattle.desk.specs.Zeros.{two, one_more_zero}
use Rattle.desk.proofs.Search.{trail_more}
use Rattle.desk.proofs.Choice.{cond_by}
use Rattle.annexb.specs.Rule.{Frame, unended, ended_before, frame_from}
use Rattle.annexb.proofs.Framing.{split, on_byte, frame_more}

two_full : (z : ℕ) → two z ≡ true → 2 ≡ one_more_zero z
two_full zero e = absurd (let q : ◌≡◌ {A = ℕ} 0 1 = cc in omega arith)
two_full (suc z) e = refl

-- a zero more at the end of what is open
zero_trail : (o : Bool) (r : List ℕ) → trail (on_byte o r 0).rest ≡ one_more_zero (trail r)
zero_trail false r = rw (and-false (two (trail r))) (trail_more r 0)
zero_trail true r =
    cond_by (λ (f : Frame). trail f.rest ≡ one_more_zero (trail r)) (two (trail r) && true)
    (ended_before (unheld r ∷ []) (unended false (0 ∷ 0 ∷ 0 ∷ [])))
    (unended true (r ++ 0 ∷ []))
    (λ e. two_full (trail r) (sym (and-true (two (trail r))) ∙ e))
    (λ e. trail_more r 0)

twice : (z : ℕ) → one_more_zero (one_more_zero z) ≡ 2
twice zero = refl
twice (suc z) = refl

record Opens (f : Frame) : Type 0 where
  is_in_unit : f.in_unit ≡ true
  fresh : f.rest ≡ []

-- 01 behind two zeros
one_opens : (o : Bool) (r : List ℕ) → trail r ≡ 2 → Opens (on_byte o r 1)
one_opens false r e = rw e (record { is_in_unit = refl; fresh = refl })
one_opens true r e = rw e (record { is_in_unit = refl; fresh = refl })

abbrev pub code : List ℕ
code = 0 ∷ 0 ∷ 1 ∷ []

-- whatever stood before a start code, a unit has just been opened behind it
code_opens : (o : Bool) (h : List ℕ) → Opens (frame_from o (((h ++ 0 ∷ []) ++ 0 ∷ []) ++ 1 ∷ []))
code_opens o h =
    let f = frame_from o h in
    let g = frame_from o (h ++ 0 ∷ []) in
    let k = frame_from o ((h ++ 0 ∷ []) ++ 0 ∷ []) in
    let one : trail g.rest ≡ one_more_zero (trail f.rest) =
    ap (λ (x : Frame). trail x.rest) (frame_more o h 0) ∙ zero_trail f.in_unit f.rest in
    let full : trail k.rest ≡ 2 =
    ap (λ (x : Frame). trail x.rest) (frame_more o (h ++ 0 ∷ []) 0) ∙ zero_trail g.in_unit g.rest ∙ ap one_more_zero one
    ∙ twice (trail f.rest) in
    let last = frame_more o ((h ++ 0 ∷ []) ++ 0 ∷ []) 1 in
    let opens = one_opens k.in_unit k.rest full in
    record { is_in_unit = ap (λ (x : Frame). x.in_unit) last ∙ opens.is_in_unit; fresh = ap (λ (x : Frame). x.rest) last ∙ opens.fresh }

by_one : (h : List ℕ) → ((h ++ 0 ∷ []) ++ 0 ∷ []) ++ 1 ∷ [] ≡ h ++ code
by_one h = simp append_assoc

-- THE FRAME BEHIND A START CODE: the units that ended up to it, and then what the bytes t are framed as from just inside a unit
pub after_code : (o : Bool) (h t : List ℕ) → frame_from o (h ++ 0 ∷ 0 ∷ 1 ∷ t) ≡ ended_before (frame_from o (h ++ code)).closed (frame_from true t)
after_code o h t =
    let c = code_opens o h in
    let i : (frame_from o (h ++ code)).in_unit ≡ true = ap (λ (l : List ℕ). (frame_from o l).in_unit) (sym (by_one h)) ∙ c.is_in_unit in
    let r : (frame_from o (h ++ code)).rest ≡ [] = ap (λ (l : List ℕ). (frame_from o l).rest) (sym (by_one h)) ∙ c.fresh in
    ap (frame_from o) (sym (append_assoc h code t))
    ∙ split o (h ++ code) t
    ∙ ap₂ (λ (b : Bool) (l : List ℕ). ended_before (frame_from o (h ++ code)).closed (frame_from b (l ++ t))) i r
