use Rattle.std.proofs.Common.{◌≡◌, ℕ, suc, ◌+◌, ◌*◌, ◌^◌, ◌≤◌, ◌<◌, length, sym, ap, ap₂, ◌∙◌, subst, add-one, arith}
use Rattle.std.proofs.lemmas.Bool.{le-ltb, ltb-false}
use Rattle.bits.specs.Step.{stored, stored_more, whole_with, Wrote, GoodAfter}
use Rattle.bits.specs.Answer.{ue_width}
use Rattle.bits.proofs.Storing.{stored_more_lem, stored_good}
use Rattle.bits.proofs.Back.{writes}
use Rattle.bits.proofs.BitWriter.put_ue.Goals as goal

-- v + 1 is a number of zeros + 1 bits
code_fits : (v m : ℕ) → v + 1 < 2 ^ suc m → v + 1 < 2 ^ (m + 1)
code_fits v m h = subst (λ (i : ℕ). v + 1 < 2 ^ i) (sym (add-one m)) h

pub put-requires : goal.put-requires
put-requires c =
    let a = c.args in
    let st = a.self.now in
    let l = c.prefix_len-zeros.ensures in
    let m = c.prefix_len-zeros.result in
    let r : whole_with st (2 * m + 1) ≤ length a.out.now = ltb-false _ _ (sym c.lacks_room.ensures ∙ c.if-lacks_room.false) in
    let h = subst (GoodAfter (length a.out.now) (8 * st.written.0 + (st.count + m))) (sym c.put_zeros.ensures)
    (stored_good a.out.now st m 0 c.requires.0.small (omega arith)) in
    let bits = h.2 in
    (record { good = rw h.0 h.1; room = rw h.0 (omega arith) }, omega arith, code_fits a.value m l.high)

pub returns : goal.returns
returns c =
    let a = c.args in
    let st = a.self.now in
    let o = a.out.now in
    let v = a.value in
    let l = c.prefix_len-zeros.ensures in
    let m = c.prefix_len-zeros.result in
    let is = l.is in
    let r : whole_with st (2 * m + 1) ≤ length o = ltb-false _ _ (sym c.lacks_room.ensures ∙ c.if-lacks_room.false) in
    let width : m + (m + 1) ≡ ue_width v = omega arith in
    let value : 0 * 2 ^ (m + 1) + (v + 1) ≡ v + 1 = omega arith in
    writes (sym (simp (le-ltb (length o) (whole_with st (ue_width v)) (omega arith))
    (sym (c.put.ensures
    ∙ ap (λ (x : Wrote). stored_more x (m + 1) (v + 1)) c.put_zeros.ensures
    ∙ stored_more_lem o st m 0 (m + 1) (v + 1) (code_fits v m l.high) (omega arith)
    ∙ ap₂ (λ (k x : ℕ). stored o st k x) width value))))
