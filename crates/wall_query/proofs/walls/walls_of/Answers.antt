use Rattle.std.proofs.Common.{◌+◌, rules, sym, subst, ap}
use Rattle.std.proofs.lemmas.Bool.{iff_false}
use Rattle.wall_query.proofs.ListedWalls.{HasFirst, none_first, of_all, of_more, of_same}
use Rattle.wall_query.proofs.walls.walls_of.Goals.{then-is_first+in_ok-push_polygon, else-is_first}
use Rattle.wall_query.proofs.walls.walls_of.Goals as goal

pub loop-place-init : goal.loop-place-init
loop-place-init c = none_first c.args.mesh.now c.args.around.now c.args.list.now c.new-walls.result.items (search rules)

pub loop-place-preserved : goal.loop-place-preserved
loop-place-preserved c =
    elim c.if-is_first.branch [
      | then-is_first+in_ok-push_polygon w ↦
          subst (HasFirst c.args.mesh.now c.args.around.now c.args.list.now (c.loop-place.place + 1)) (sym (ap (λ v. v.items) w.walls-is))
          (of_more c.args.mesh.now c.args.around.now c.args.list.now c.loop-place.place _ c.loop-place.walls.items c.loop-place-test.true c.loop-place.invariant
          _ (c.is_first.ensures.0 w.if-is_first.true) w.in_ok-push_polygon.ensures)
      | else-is_first w ↦
          subst (HasFirst c.args.mesh.now c.args.around.now c.args.list.now (c.loop-place.place + 1)) (sym (ap (λ v. v.items) w.walls-is))
          (of_same c.args.mesh.now c.args.around.now c.args.list.now c.loop-place.place (record { tile = 0; index = 0 }) c.loop-place.walls.items c.loop-place-test.true
          c.loop-place.invariant (iff_false c.is_first.ensures w.if-is_first.false))
    ]

pub returns : goal.returns
returns c = of_all c.args.mesh.now c.args.around.now c.args.list.now c.loop-place.place c.loop-place.walls.items c.loop-place-test.false c.loop-place.invariant
