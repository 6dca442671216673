use Rattle.std.proofs.Common.{sym, ◌∙◌}
use Rattle.crowd_filter.proofs.PlacingLaws.{fits_there}
use Rattle.crowd_filter.proofs.placing.gap_at.Goals as goal

pub returns-clause-some : goal.returns-clause-some
returns-clause-some c =
    fits_there c.args.mesh.now c.args.agent.now c.args.at c.in-Some.polygon c.floors_gap-gap.result (sym c.poly.ensures ∙ c.in-Some.is)
    (c.is_fine_held.ensures.0 c.if-not-is_fine_held.false) c.floors_gap-gap.ensures c.if-gap-mesh.false
