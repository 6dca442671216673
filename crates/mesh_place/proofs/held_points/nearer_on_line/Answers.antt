use Rattle.std.proofs.Common.{sym, ◌∙◌}
use Rattle.mesh_types.proofs.HeldPoints.{held_coordinates}
use Rattle.mesh_place.proofs.HeldLaws.{line_passed, line_empty, line_held, line_nearer}
use Rattle.mesh_place.proofs.held_points.nearer_on_line.Goals as goal

pub comes_before-requires-clause-second : goal.comes_before-requires-clause-second
comes_before-requires-clause-second c = held_coordinates c.args.polygon.now c.args.best c.requires.rules c.requires.best

pub returns-then-not-comes_before : goal.returns-then-not-comes_before
returns-then-not-comes_before c =
    line_passed c.args.p c.args.polygon.now c.args.columns c.requires.reach c.args.z c.args.best c.nearest_across.result c.point_on.result c.requires.best
    c.point_on.ensures.value c.nearest_across.ensures.nearest (sym c.comes_before.ensures ∙ c.if-not-comes_before.true)

pub returns-in_default : goal.returns-in_default
returns-in_default c =
    line_empty c.args.p c.args.polygon.now c.args.columns c.requires.reach c.args.z c.args.best c.requires.best c.in_default.ensures

pub comes_before-requires-2-clause-second : goal.comes_before-requires-2-clause-second
comes_before-requires-2-clause-second c = held_coordinates c.args.polygon.now c.args.best c.requires.rules c.requires.best

pub returns-then-comes_before : goal.returns-then-comes_before
returns-then-comes_before c =
    line_nearer c.args.p c.args.polygon.now c.args.columns c.requires.reach c.args.z c.args.best c.in-Some.part c.in-Some.ensures c.nearest_across-2.result
    c.point_on-point.result c.point_on-point.ensures.value c.nearest_across-2.ensures.nearest c.nearest_across-2.ensures.inside
    (sym c.comes_before-2.ensures ∙ c.if-comes_before.true)

pub returns-else-comes_before : goal.returns-else-comes_before
returns-else-comes_before c =
    line_held c.args.p c.args.polygon.now c.args.columns c.requires.reach c.args.z c.args.best c.in-Some.part c.in-Some.ensures c.nearest_across-2.result
    c.point_on-point.result c.point_on-point.ensures.value c.nearest_across-2.ensures.nearest c.requires.best
    (sym c.comes_before-2.ensures ∙ c.if-comes_before.false)
