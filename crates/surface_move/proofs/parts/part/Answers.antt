use Rattle.std.proofs.Common.{subst}
use Rattle.surface_move.specs.Ways.{IsFirstHolder}
use Rattle.surface_move.proofs.Reaches.{no_part, part_first, part_second}
use Rattle.surface_move.proofs.parts.part.Goals as goal

pub returns-then-gone-eq0 : goal.returns-then-gone-eq0
returns-then-gone-eq0 c = no_part c.args.mesh.now c.args.polys.now c.args.from c.args.to c.args.rest c.furthest-gone.result c.furthest-gone.ensures c.if-gone-eq0.true

pub returns-in-Some : goal.returns-in-Some
returns-in-Some c =
    part_first c.args.mesh.now c.args.polys.now c.args.from c.args.to c.args.rest c.furthest-gone.result c.furthest-gone.ensures
    c.near_points.result.0 c.near_points.result.1 c.if-gone-eq0.false c.near_points.ensures.near c.near_points.ensures.order c.in-Some.place
    (subst (IsFirstHolder c.args.mesh.now c.args.polys.now c.near_points.result.0) c.in-Some.is c.first_holder.ensures)

pub returns : goal.returns
returns c =
    part_second c.args.mesh.now c.args.polys.now c.args.from c.args.to c.args.rest c.furthest-gone.result c.furthest-gone.ensures
    c.near_points.result.0 c.near_points.result.1 c.if-gone-eq0.false c.near_points.ensures.near c.near_points.ensures.order c.in_ok-place.place
    (subst (IsFirstHolder c.args.mesh.now c.args.polys.now c.near_points.result.0) c.in_default.is c.first_holder.ensures)
    (subst (IsFirstHolder c.args.mesh.now c.args.polys.now c.near_points.result.1) c.in_ok-place.was c.first_holder-2.ensures)
