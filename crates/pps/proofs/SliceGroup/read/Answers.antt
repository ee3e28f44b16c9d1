use Rattle.std.proofs.Common.{refl}
use Rattle.std.proofs.lemmas.Result.{err_from_is_err_and}
use Rattle.pps.proofs.Entry.{entry_first, entry_picture, entry_count}
use Rattle.pps.proofs.Results.{groups_refused, groups_stop, groups_read}
use Rattle.pps.proofs.SliceGroup.read.Goals as goal

pub returns-in_err-entry : goal.returns-in_err-entry
returns-in_err-entry c =
    let p = err_from_is_err_and c.from_residual.result c.from_residual.ensures.1 in
    rw (p.1, p.2) (groups_refused _ _ _ _ _ _ (entry_first _ _ _ _ _ _ c.past_end.ensures c.entry.ensures c.in_err-entry.was))

pub returns-in_err-picture : goal.returns-in_err-picture
returns-in_err-picture c =
    let p = err_from_is_err_and c.from_residual-in_err-picture.result c.from_residual-in_err-picture.ensures.1 in
    rw (p.1, p.2)
    (groups_refused _ _ _ _ _ _
    (entry_picture _ _ _ _ _ _ c.past_end.ensures c.entry.ensures c.in_ok-entry.was _ c.in_err-picture.ensures.0))

pub returns-in_err-count : goal.returns-in_err-count
returns-in_err-count c =
    let p = err_from_is_err_and c.from_residual-in_err-count.result c.from_residual-in_err-count.ensures.1 in
    rw (p.1, p.2)
    (groups_refused _ _ _ _ _ _
    (entry_count _ _ _ _ _ _ c.past_end.ensures c.entry.ensures c.in_ok-entry.was c.in_ok-picture.ensures.0 c.in_err-count.ensures.0))

pub returns-in_err-read : goal.returns-in_err-read
returns-in_err-read c =
    let p = err_from_is_err_and c.from_residual-in_err-read.result c.from_residual-in_err-read.ensures.1 in
    let made = c.in_ok-picture.ensures in
    let counted = c.in_ok-count.ensures in
    rw (p.1, p.2)
    (groups_stop _ _ _ _ _ (entry_count _ _ _ _ _ _ c.past_end.ensures c.entry.ensures c.in_ok-entry.was made.0 counted.0) c.slice_groups.ensures
    refl refl counted.1 made.1.0 made.1.1 c.in_err-read.was)

pub returns : goal.returns
returns c =
    let made = c.in_ok-picture.ensures in
    let counted = c.in_ok-count.ensures in
    groups_read _ _ _ _ _ (entry_count _ _ _ _ _ _ c.past_end.ensures c.entry.ensures c.in_ok-entry.was made.0 counted.0) c.slice_groups.ensures
    refl refl counted.1 made.1.0 made.1.1 c.in_ok-read.was
