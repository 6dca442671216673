use Rattle.std.proofs.Common.{sym, ◌∙◌}
use Rattle.std.proofs.lemmas.Bool.{iff_false}
use Rattle.mesh_locate.proofs.NearestLaws.{too_far, outside, passed_over, left_alone, taken}
use Rattle.mesh_locate.proofs.polygons.nearer.Goals as goal

pub returns-then-gap-mesh : goal.returns-then-gap-mesh
returns-then-gap-mesh c =
    passed_over c.args.mesh.now c.args.sought.p c.args.sought.y c.args.at c.args.best
    (too_far c.args.mesh.now c.args.sought.p c.args.sought.y c.args.at c.args.polygon.now c.height_gap-gap.result c.requires.there c.height_gap-gap.ensures c.if-gap-mesh.true)
    c.requires.best

pub returns-then-not-is_nearer : goal.returns-then-not-is_nearer
returns-then-not-is_nearer c =
    left_alone c.args.mesh.now c.args.sought.p c.args.sought.y c.args.at c.args.polygon.now c.height_gap-gap.result c.args.best c.requires.there c.height_gap-gap.ensures
    (sym c.is_nearer.ensures ∙ c.if-not-is_nearer.true) c.requires.best

pub returns-then-not-holds : goal.returns-then-not-holds
returns-then-not-holds c =
    passed_over c.args.mesh.now c.args.sought.p c.args.sought.y c.args.at c.args.best
    (outside c.args.mesh.now c.args.sought.p c.args.sought.y c.args.at c.args.polygon.now c.requires.there (iff_false c.holds.ensures c.if-not-holds.true)) c.requires.best

pub returns : goal.returns
returns c =
    taken c.args.mesh.now c.args.sought.p c.args.sought.y c.args.at c.args.polygon.now c.height_gap-gap.result c.args.best c.requires.there c.height_gap-gap.ensures
    c.if-gap-mesh.false (c.holds.ensures.0 c.if-not-holds.false) (sym c.is_nearer.ensures ∙ c.if-not-is_nearer.false) c.requires.best
