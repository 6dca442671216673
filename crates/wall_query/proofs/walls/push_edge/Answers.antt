use Rattle.std.proofs.lemmas.Result.{IfOk-weaker}
use Rattle.nav_base.proofs.Sizes.{HasCoordinates-field}
use Rattle.wall_query.proofs.FieldPoints.{edge_field, start_field}
use Rattle.wall_query.proofs.WallLaws.{begun, cursor_field, ended, first_field, goes_on, more, not_past, shorter}
use Rattle.wall_query.proofs.walls.push_edge.Goals as goal

pub loop-portal-init : goal.loop-portal-init
loop-portal-init c = begun c.args.mesh.now c.args.around.now c.args.edge.now c.requires.sound c.requires.edge c.args.walls.now.items

pub next_portal-requires-clause-from : goal.next_portal-requires-clause-from
next_portal-requires-clause-from c =
    HasCoordinates-field _ (cursor_field c.args.mesh.now c.args.around.now c.args.edge.now _ _ c.loop-portal.from c.requires.sound c.loop-portal.invariant)

pub push_part-requires-clause-from : goal.push_part-requires-clause-from
push_part-requires-clause-from c = start_field c.args.mesh.now c.args.around.now c.requires.sound c.requires.start

pub push_part-requires-clause-first : goal.push_part-requires-clause-first
push_part-requires-clause-first c = (edge_field c.args.mesh.now c.args.edge.now c.requires.sound c.requires.edge).begin

pub push_part-requires-clause-last : goal.push_part-requires-clause-last
push_part-requires-clause-last c = (edge_field c.args.mesh.now c.args.edge.now c.requires.sound c.requires.edge).end

pub push_part-requires-clause-begin : goal.push_part-requires-clause-begin
push_part-requires-clause-begin c =
    cursor_field c.args.mesh.now c.args.around.now c.args.edge.now _ _ c.loop-portal.from c.requires.sound c.loop-portal.invariant

pub push_part-requires-clause-end : goal.push_part-requires-clause-end
push_part-requires-clause-end c =
    (first_field c.args.mesh.now c.args.around.now.areas c.args.edge.now c.loop-portal.from c.in-Some.portal c.requires.sound c.in-Some.ensures).right

pub loop-portal-smaller : goal.loop-portal-smaller
loop-portal-smaller c =
    shorter _ _ _
    (goes_on c.args.mesh.now c.args.around.now c.args.edge.now c.requires.sound _ _ c.loop-portal.walls.items c.loop-portal.from c.loop-portal.invariant c.in-Some.portal c.in-Some.ensures)
    (not_past c.args.mesh.now c.args.around.now c.args.edge.now c.requires.sound _ _ c.loop-portal.walls.items c.loop-portal.from c.loop-portal.invariant c.in-Some.portal c.in-Some.ensures)

pub loop-portal-preserved : goal.loop-portal-preserved
loop-portal-preserved c =
    more c.args.mesh.now c.args.around.now c.args.edge.now c.requires.sound _ c.loop-portal.walls.items _ c.loop-portal.from c.loop-portal.invariant c.in-Some.portal
    c.in-Some.ensures (c.in_ok-push_part.ensures c.args.mesh.now)

pub push_part-requires-2-clause-from : goal.push_part-requires-2-clause-from
push_part-requires-2-clause-from c = start_field c.args.mesh.now c.args.around.now c.requires.sound c.requires.start

pub push_part-requires-2-clause-first : goal.push_part-requires-2-clause-first
push_part-requires-2-clause-first c = (edge_field c.args.mesh.now c.args.edge.now c.requires.sound c.requires.edge).begin

pub push_part-requires-2-clause-last : goal.push_part-requires-2-clause-last
push_part-requires-2-clause-last c = (edge_field c.args.mesh.now c.args.edge.now c.requires.sound c.requires.edge).end

pub push_part-requires-2-clause-begin : goal.push_part-requires-2-clause-begin
push_part-requires-2-clause-begin c =
    cursor_field c.args.mesh.now c.args.around.now c.args.edge.now _ _ c.loop-portal.from c.requires.sound c.loop-portal.invariant

pub push_part-requires-2-clause-end : goal.push_part-requires-2-clause-end
push_part-requires-2-clause-end c = (edge_field c.args.mesh.now c.args.edge.now c.requires.sound c.requires.edge).end

pub returns : goal.returns
returns c =
    IfOk-weaker c.push_part-2.result _ _ (λ x adds.
    ended c.args.mesh.now c.args.around.now c.args.edge.now c.requires.sound _ c.loop-portal.walls.items _ c.loop-portal.from c.loop-portal.invariant c.in_default.ensures
    (adds c.args.mesh.now))
    c.push_part-2.ensures
