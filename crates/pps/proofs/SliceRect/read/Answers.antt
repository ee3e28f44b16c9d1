use Rattle.std.proofs.Common.{refl, false}
use Rattle.std.proofs.lemmas.Result.{err_from_is_err_and}
use Rattle.bits.proofs.Back.{reads, refuses}
use Rattle.pps.proofs.Back.{field_is}
use Rattle.pps.proofs.Entry.{entry_first, entry_picture, entry_count}
use Rattle.pps.proofs.Results.{rect_refused, rect_read}
use Rattle.pps.proofs.SliceRect.read.Goals as goal

pub returns-in_err-entry : goal.returns-in_err-entry
returns-in_err-entry c =
    let p = err_from_is_err_and c.from_residual.result c.from_residual.ensures.1 in
    rw (p.1, p.2)
    (rect_refused _ _ _ _ _ (entry_first _ _ 0 _ _ false c.past_end.ensures c.entry.ensures c.in_err-entry.was))

pub returns-in_err-picture : goal.returns-in_err-picture
returns-in_err-picture c =
    let p = err_from_is_err_and c.from_residual-in_err-picture.result c.from_residual-in_err-picture.ensures.1 in
    rw (p.1, p.2)
    (rect_refused _ _ _ _ _
    (entry_picture _ _ 0 _ _ false c.past_end.ensures c.entry.ensures c.in_ok-entry.was _ c.in_err-picture.ensures.0))

pub returns-in_err-rect : goal.returns-in_err-rect
returns-in_err-rect c =
    let p = err_from_is_err_and c.from_residual-in_err-rect.result c.from_residual-in_err-rect.ensures.1 in
    let made = c.in_ok-picture.ensures in
    rw (p.1, p.2)
    (refuses (rect_read _ _ _ _ (entry_count _ _ 0 _ _ false c.past_end.ensures c.entry.ensures c.in_ok-entry.was made.0 refl) made.1.0 made.1.1
    (field_is c.rectangle.ensures c.in_err-rect.was)))

pub returns : goal.returns
returns c =
    let made = c.in_ok-picture.ensures in
    reads (rect_read _ _ _ _ (entry_count _ _ 0 _ _ false c.past_end.ensures c.entry.ensures c.in_ok-entry.was made.0 refl) made.1.0 made.1.1
    (field_is c.rectangle.ensures c.in_ok-rect.was))
