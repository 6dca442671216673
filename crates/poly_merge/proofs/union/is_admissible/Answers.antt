use Rattle.std.proofs.Common.{◌≡◌, ◌+◌, ◌-◌, length, take, map, All, sym, ap, subst, ◌∙◌, arith}
use Rattle.nav_base.specs.Point.{HasCoordinates}
use Rattle.nav_base.specs.Convex.{corner_at}
use Rattle.mesh_types.specs.Merging.{union_of}
use Rattle.poly_merge.specs.Seen.{seen}
use Rattle.poly_merge.proofs.Unions.{union-points, union-coordinates, length-union, admissible-few}
use Rattle.poly_merge.proofs.union.is_admissible.Goals as goal
use Rattle.poly_merge.proofs.union.is_admissible.Goals.{After-put_past_edge-2}

-- the points that are written
points : (c : After-put_past_edge-2) → take (length c.places_at-first.result.now - 1 + (length c.places_at-second.result.now - 1)) c.put_past_edge-2.new.points
    ≡ map (corner_at c.args.corners.now) (union_of c.args.pieces.now (seen c.args.merge))
points c =
    union-points c.args.corners.now c.args.pieces.now (seen c.args.merge) c.places_at-first.result.now c.places_at-second.result.now
    (take (length c.places_at-first.result.now - 1) c.put_past_edge.new.points) _ c.places_at-first.ensures c.places_at-second.ensures
    (ap (λ n. take n c.put_past_edge.new.points) {x = length c.places_at-first.result.now - 1} {y = 0 + (length c.places_at-first.result.now - 1)} (omega arith)
    ∙ c.put_past_edge.ensures.value) c.put_past_edge-2.ensures.value

pub strictly_convex-requires : goal.strictly_convex-requires
strictly_convex-requires c =
    subst (All HasCoordinates) (sym (points (goal.at.strictly_convex-requires c).After-put_past_edge-2))
    (union-coordinates c.args.corners.now c.args.pieces.now (seen c.args.merge) c.requires.coordinates c.requires.pieces (omega (arith, c.requires.there.first, c.requires.there.second))
    c.requires.there.second)

pub returns : goal.returns
returns c =
    let few = length-union c.args.pieces.now (seen c.args.merge) c.requires.there.edge c.requires.there.facing in
    admissible-few c.strictly_convex.result c.args.corners.now c.args.pieces.now (seen c.args.merge) _ (points (goal.at.returns c).After-put_past_edge-2)
    (omega (arith, few, c.requires.few.few)) c.strictly_convex.ensures
