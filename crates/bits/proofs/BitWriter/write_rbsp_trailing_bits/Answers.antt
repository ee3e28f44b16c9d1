use Rattle.std.proofs.Common.{ℕ, ◌≡◌, ◌+◌, ◌-◌, ◌*◌, ◌%◌, ◌^◌, length, refl, sym, ap, ap₂, ◌∙◌, arith}
use Rattle.std.proofs.Math.Pow.{pow-lt}
use Rattle.bits.specs.Step.{kept, Good}
use Rattle.bits.specs.Answer.{write_trailing, roomed}
use Rattle.bits.proofs.Entry.{good, passed}
use Rattle.bits.proofs.Value.{one_shl}
use Rattle.bits.proofs.Back.{writes_as}
use Rattle.bits.proofs.BitWriter.write_rbsp_trailing_bits.Goals as goal

pub put_if_room-requires : goal.put_if_room-requires
put_if_room-requires c =
    let n = 7 - c.from-zeros.result in (
      good _ _ (sym c.in_ok-entry.ensures),
      omega arith,
      omega (arith, one_shl 32 n (omega arith), pow-lt {i = n} {j = n + 1} (omega arith)),
    )

pub returns : goal.returns
unfolding write_trailing
returns c =
    let o = c.args.out.now in
    let st = c.args.self.now in
    let g : Good (length o) st = good _ _ (sym c.in_ok-entry.ensures) in
    let n = 7 - c.from-zeros.result in
    let n8 : n + 1 ≡ 8 - st.count = omega arith in
    let one : 1 * 2 ^ n % 4294967296 ≡ 2 ^ (7 - st.count) = one_shl 32 n (omega arith) ∙ ap (λ (k : ℕ). 2 ^ (7 - k)) c.from-zeros.ensures in
    writes_as c.put_if_room.ensures
    (passed (λ (k : ℕ). kept k o) _ _ c.in_ok-entry.ensures refl (ap₂ (λ (i y : ℕ). roomed o st i y) n8 one))
