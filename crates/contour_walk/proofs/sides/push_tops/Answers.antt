use Rattle.std.proofs.Common.{◌-◌, ◌++◌, ◌∙◌, ap, map, arith}
use Rattle.std.specs.Prelude.{reverse}
use Rattle.std.specs.List.{range_with_len}
use Rattle.nav_ground.specs.declared.cell.CellRef.{CellRef}
use Rattle.mesh_types.specs.Contours.{edge_of}
use Rattle.contour_walk.specs.Walk.{edge_at}
use Rattle.contour_walk.proofs.Loops.{one_more, more_left, same_range}
use Rattle.contour_walk.proofs.sides.push_tops.Goals as goal

pub loop-x-preserved : goal.loop-x-preserved
loop-x-preserved c =
    let edge = edge_at c.args.rim.table.now.window c.args.rim.cells.now c.args.rim.regions.now 1 c.args.strip.now in (
      omega (arith, c.loop-x-test.true),
      one_more c.args.edges.now.items _ _ (map edge (reverse (range_with_len c.loop-x.x (c.args.end - c.loop-x.x)))) _ _ (edge (c.loop-x.x - 1))
          c.loop-x.invariant.1 c.in_ok-push.ensures.items
          (c.edge.ensures ∙ ap (λ (at : CellRef). edge_of c.args.rim.table.now.window c.args.rim.cells.now c.args.rim.regions.now 1 at) c.place_in-at.ensures)
          (more_left edge c.loop-x.x c.args.end (omega (arith, c.loop-x-test.true)) c.loop-x.auto.x),
    )

pub returns : goal.returns
returns c =
    c.loop-x.invariant.1
    ∙ ap (λ columns. c.args.edges.now.items ++ map (edge_at c.args.rim.table.now.window c.args.rim.cells.now c.args.rim.regions.now 1 c.args.strip.now) (reverse columns))
    (same_range c.loop-x.x c.args.first (c.args.end - c.loop-x.x) (c.args.end - c.args.first)
    (omega (arith, c.loop-x.invariant.0, c.loop-x-test.false, c.loop-x.auto.x))
    (λ some. omega (arith, some, c.loop-x.invariant.0, c.loop-x-test.false)))
