use Rattle.std.proofs.Common.{rules, ◌≡◌, ℕ, ◌+◌, ◌-◌, ◌<◌, length, ap, sym, subst, ◌∙◌, arith}
use Rattle.mesh_types.specs.WholeMesh.{poly_at}
use Rattle.surface_move.specs.Moves.{nth_polygon}
use Rattle.surface_move.specs.Ways.{HoldsNearFrom, IsGreatest}
use Rattle.surface_move.proofs.Reaches.{one_more_polygon}
use Rattle.surface_move.proofs.parts.furthest.Goals as goal

pub loop-later-preserved : goal.loop-later-preserved
loop-later-preserved c =
    let mesh = c.args.mesh.now in
    let polys = c.args.polys.now in
    let later = c.loop-later.later in
    let below : later < length polys = search rules in
    let i : ℕ = length polys - (later + 1) in
    let next : length polys - later ≡ i + 1 = omega (arith, below) in
    let same : length polys - 1 - later ≡ i = omega arith in
    one_more_polygon mesh polys c.args.way.from c.args.way.to c.args.rest c.loop-later.gone c.furthest_in-gone.result i c.polygon_at-polygon.result
    (omega (arith, below))
    (ap (λ (n : ℕ). poly_at mesh (nth_polygon polys n)) (sym same) ∙ c.polygon_at-polygon.ensures.named)
    (subst (λ (n : ℕ). IsGreatest (HoldsNearFrom mesh polys c.args.way.from c.args.way.to n) 0 c.args.rest c.loop-later.gone) next c.loop-later.invariant)
    c.furthest_in-gone.ensures
