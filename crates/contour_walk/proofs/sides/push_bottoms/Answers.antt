use Rattle.std.proofs.Common.{◌-◌, ◌++◌, ◌∙◌, ap, map, arith, refl}
use Rattle.std.specs.List.{range_with_len}
use Rattle.nav_ground.specs.declared.cell.CellRef.{CellRef}
use Rattle.mesh_types.specs.Contours.{edge_of}
use Rattle.contour_walk.specs.Walk.{edge_at}
use Rattle.contour_walk.proofs.Loops.{one_more, more_right, same_range}
use Rattle.contour_walk.proofs.sides.push_bottoms.Goals as goal

pub loop-x-preserved : goal.loop-x-preserved
loop-x-preserved c =
    let edge = edge_at c.args.rim.table.now.window c.args.rim.cells.now c.args.rim.regions.now 3 c.args.strip.now in (
      omega (arith, c.loop-x-test.true),
      one_more c.args.edges.now.items _ _ (map edge (range_with_len c.args.first (c.loop-x.x - c.args.first))) _ _ (edge c.loop-x.x)
          c.loop-x.invariant.1 c.in_ok-push.ensures.items
          (c.edge.ensures ∙ ap (λ (at : CellRef). edge_of c.args.rim.table.now.window c.args.rim.cells.now c.args.rim.regions.now 3 at) c.place_in-at.ensures)
          (more_right edge c.args.first c.loop-x.x c.loop-x.auto.x),
    )

pub returns : goal.returns
returns c =
    c.loop-x.invariant.1
    ∙ ap (λ columns. c.args.edges.now.items ++ map (edge_at c.args.rim.table.now.window c.args.rim.cells.now c.args.rim.regions.now 3 c.args.strip.now) columns)
    (same_range c.args.first c.args.first (c.loop-x.x - c.args.first) (c.args.end - c.args.first)
    (omega (arith, c.loop-x.invariant.0, c.loop-x-test.false, c.loop-x.auto.x)) (λ some. refl))
