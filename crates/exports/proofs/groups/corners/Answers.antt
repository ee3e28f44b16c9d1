use Rattle.std.proofs.Common.{rules, ap, ◌∙◌, [], get_or}
use Rattle.std.specs.List.{flat_map}
use Rattle.std.proofs.lemmas.List.FromFn.{fill_by_all}
use Rattle.pps.specs.Answer.{no_rect}
use Rattle.exports.specs.Groups.{pair_of}
use Rattle.exports.proofs.groups.corners.Goals as goal

pub returns : goal.returns
returns c =
    let pairs = c.map-pairs.ensures.items in
    c.copy_from_slice.ensures.after
    ∙ c.as_flattened.ensures.value
    ∙ ap (flat_map (λ x. x))
    (fill_by_all (λ i. pair_of (get_or c.args.rects i no_rect)) c.map-pairs.result 7 [] pairs.long
    (λ i h. let pair = (pairs.at i no_rect [] h).2.met in search rules))
