use Rattle.std.proofs.Common.{◌++◌, ◌∙◌, List, map, ap}
use Rattle.std.proofs.lemmas.List.{take_all}
use Rattle.mesh_types.specs.declared.answers.Corner.{Corner}
use Rattle.mesh_types.specs.Stretches.{counted_from}
use Rattle.off_links.proofs.pulling.push_counted.Goals as goal

pub returns : goal.returns
returns c =
    c.loop-corner.invariant
    ∙ ap (λ (corners : List Corner). c.args.turns.now.items ++ map (counted_from c.args.first) corners)
    (take_all c.loop-corner.corner-index c.args.corners.now c.loop-corner-test.false)
