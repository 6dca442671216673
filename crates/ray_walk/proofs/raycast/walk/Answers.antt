use Rattle.std.proofs.Common.{sym, subst}
use Rattle.std.specs.Prelude.{Contains}
use Rattle.mesh_types.specs.declared.answers.RayAnswer.TheVariants.{Reached}
use Rattle.mesh_types.specs.Rays.{IsRayWalk}
use Rattle.mesh_types.proofs.RayLaws.{one_ray_walk}
use Rattle.ray_walk.specs.Walking.{IsFirstAmong, IsOnward, IsProper, links_from}
use Rattle.ray_walk.proofs.ExitLaws.{proper}
use Rattle.ray_walk.proofs.WalkLaws.{added, has_ends, sets_out, still_entered, arrives, is_stopped, goes_on, fewer_left}
use Rattle.ray_walk.proofs.raycast.walk.Goals as goal

pub loop-onward-init : goal.loop-onward-init
loop-onward-init c =
    sets_out c.args.mesh.now c.args.first (record { from = c.args.from; to = c.args.to }) c.new-visited.result c.new-visited.ensures.empty c.requires.start

pub first_exit-requires-clause-ray : goal.first_exit-requires-clause-ray
first_exit-requires-clause-ray c =
    has_ends c.args.mesh.now c.args.first (record { from = c.args.from; to = c.args.to }) c.requires.sound c.requires.start c.requires.to

pub first_exit-requires-clause-entered : goal.first_exit-requires-clause-entered
first_exit-requires-clause-entered c =
    still_entered c.args.mesh.now c.args.first (record { from = c.args.from; to = c.args.to }) c.loop-onward.visited c.insert.new.self c.loop-onward.at
    c.polygon_at-polygon.result c.requires.sound c.loop-onward.invariant c.polygon_at-polygon.ensures.named
    (added _ _ _ c.in_ok-insert.ensures.updates)

pub returns-in_default-clause-walk : goal.returns-in_default-clause-walk
returns-in_default-clause-walk c =
    arrives c.args.mesh.now c.args.first (record { from = c.args.from; to = c.args.to }) c.loop-onward.visited c.insert.new.self c.loop-onward.at
    c.polygon_at-polygon.result c.requires.sound c.loop-onward.invariant c.polygon_at-polygon.ensures.named
    (added _ _ _ c.in_ok-insert.ensures.updates) c.in_default.ensures.none

pub returns-in_default-clause-only : goal.returns-in_default-clause-only
returns-in_default-clause-only c =
    λ other is. one_ray_walk c.args.mesh.now c.args.first c.args.from c.args.to (Reached c.loop-onward.at) other (returns-in_default-clause-walk c) is

pub next_link-requires-clause-ray : goal.next_link-requires-clause-ray
next_link-requires-clause-ray c =
    has_ends c.args.mesh.now c.args.first (record { from = c.args.from; to = c.args.to }) c.requires.sound c.requires.start c.requires.to

pub next_link-requires-clause-entered : goal.next_link-requires-clause-entered
next_link-requires-clause-entered c =
    still_entered c.args.mesh.now c.args.first (record { from = c.args.from; to = c.args.to }) c.loop-onward.visited c.insert.new.self c.loop-onward.at
    c.polygon_at-polygon.result c.requires.sound c.loop-onward.invariant c.polygon_at-polygon.ensures.named
    (added _ _ _ c.in_ok-insert.ensures.updates)

pub returns-in_default-next-clause-walk : goal.returns-in_default-next-clause-walk
returns-in_default-next-clause-walk c =
    subst (IsRayWalk c.args.mesh.now c.args.first c.args.from c.args.to) (sym c.wall.ensures)
    (is_stopped c.args.mesh.now c.args.first (record { from = c.args.from; to = c.args.to }) c.loop-onward.visited c.insert.new.self c.loop-onward.at
    c.polygon_at-polygon.result c.requires.sound c.loop-onward.invariant c.polygon_at-polygon.ensures.named
    (added _ _ _ c.in_ok-insert.ensures.updates)
    c.in-Some.exit c.in-Some.ensures.first (subst (IsFirstAmong (λ link. Contains (links_from c.args.mesh.now c.loop-onward.at) link × IsOnward c.polygon_at-polygon.result (record { from = c.args.from; to = c.args.to }) c.insert.new.self link)) c.in_default-next.is c.in_ok-next.ensures))

pub returns-in_default-next-clause-only : goal.returns-in_default-next-clause-only
returns-in_default-next-clause-only c =
    λ other is. one_ray_walk c.args.mesh.now c.args.first c.args.from c.args.to c.wall.result other (returns-in_default-next-clause-walk c) is

pub returns-in_default-next-clause-fraction : goal.returns-in_default-next-clause-fraction
returns-in_default-next-clause-fraction c =
    subst IsProper (sym c.wall.ensures)
    (proper c.polygon_at-polygon.result (record { from = c.args.from; to = c.args.to })
    (still_entered c.args.mesh.now c.args.first (record { from = c.args.from; to = c.args.to }) c.loop-onward.visited c.insert.new.self c.loop-onward.at
    c.polygon_at-polygon.result c.requires.sound c.loop-onward.invariant c.polygon_at-polygon.ensures.named
    (added _ _ _ c.in_ok-insert.ensures.updates)) c.in-Some.exit c.in-Some.ensures.first)

pub loop-onward-smaller : goal.loop-onward-smaller
loop-onward-smaller c =
    fewer_left c.args.mesh.now c.args.first (record { from = c.args.from; to = c.args.to }) c.loop-onward.visited c.insert.new.self c.loop-onward.at
    c.polygon_at-polygon.result c.requires.sound c.loop-onward.invariant c.polygon_at-polygon.ensures.named
    (added _ _ _ c.in_ok-insert.ensures.updates)

pub loop-onward-preserved : goal.loop-onward-preserved
loop-onward-preserved c =
    goes_on c.args.mesh.now c.args.first (record { from = c.args.from; to = c.args.to }) c.loop-onward.visited c.insert.new.self c.loop-onward.at
    c.polygon_at-polygon.result c.requires.sound c.loop-onward.invariant c.polygon_at-polygon.ensures.named
    (added _ _ _ c.in_ok-insert.ensures.updates)
    c.in-Some-next.link (subst (IsFirstAmong (λ link. Contains (links_from c.args.mesh.now c.loop-onward.at) link × IsOnward c.polygon_at-polygon.result (record { from = c.args.from; to = c.args.to }) c.insert.new.self link)) c.in-Some-next.is c.in_ok-next.ensures)
