use Rattle.std.proofs.Common.{◌+◌, ◌∙◌, [], map, ap, arith, refl}
use Rattle.std.specs.List.{range_with_len}
use Rattle.nav_ground.specs.Directions.{number}
use Rattle.contour_mesh.specs.RimTables.{pair_in}
use Rattle.contour_mesh.proofs.Steps.{one_more_counted}
use Rattle.contour_mesh.proofs.rim.pairs.Goals as goal

pub loop-place-preserved : goal.loop-place-preserved
loop-place-preserved c =
    one_more_counted (pair_in c.args.on.tables.now c.args.on.door.now (number c.args.on.side)) [] c.args.first c.loop-place.place (c.loop-place.place + 1) c.loop-place.pairs.items
    c.push.new.self.items c.pair.result c.loop-place.invariant c.in_ok-push.ensures.items c.pair.ensures refl

pub returns : goal.returns
returns c =
    c.from_vec.ensures ∙ c.loop-place.invariant
    ∙ ap (λ n. map (pair_in c.args.on.tables.now c.args.on.door.now (number c.args.on.side)) (range_with_len c.args.first n))
    {x = c.loop-place.place} {y = c.args.count} (omega (arith, c.loop-place-test.false, c.loop-place.auto.place-end))
