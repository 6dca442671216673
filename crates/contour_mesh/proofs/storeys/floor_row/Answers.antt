use Rattle.std.proofs.Common.{◌∙◌, ap, arith}
use Rattle.nav_ground.specs.declared.cell.Cell.{Cell}
use Rattle.contour_walk.specs.Tables.{index_of}
use Rattle.contour_mesh.proofs.StoreyLaws.{floors_more, index_there}
use Rattle.contour_mesh.proofs.storeys.floor_row.Goals as goal

pub bounds-cells-index : goal.bounds-cells-index
bounds-cells-index c =
    index_there c.args.cells.now c.requires.cells _ c.index_of-index.result (c.index_of-index.ensures ∙ ap (index_of c.args.cells.now) c.place_in.ensures)
    (c.requires.there c.loop-x.x (c.loop-x.auto.x, omega (arith, c.loop-x-test.true)))

pub offset_bounds-cells-index : goal.offset_bounds-cells-index
offset_bounds-cells-index c = omega (arith, bounds-cells-index c, c.requires.cells.few)

pub overflow_cast-floor : goal.overflow_cast-floor
overflow_cast-floor c =
    omega (
      arith,
      c.floor.ensures,
      ap (λ (cell : Cell). cell.floor) c.index-cells-index.is,
      (c.requires.cells.each c.index_of-index.result c.index-cells-index.result (index_there c.args.cells.now c.requires.cells _ c.index_of-index.result (c.index_of-index.ensures ∙ ap (index_of c.args.cells.now) c.place_in.ensures)
          (c.requires.there c.loop-x.x (c.loop-x.auto.x, omega (arith, c.loop-x-test.true))))).floor,
    )

pub loop-x-preserved : goal.loop-x-preserved
loop-x-preserved c =
    floors_more c.args.cells.now c.args.strip.now c.loop-x.x c.index_of-index.result c.floor.result c.index-cells-index.result c.loop-x.floors.items
    c.push.new.self.items c.loop-x.auto.x (c.index_of-index.ensures ∙ ap (index_of c.args.cells.now) c.place_in.ensures) (index_there c.args.cells.now c.requires.cells _ c.index_of-index.result (c.index_of-index.ensures ∙ ap (index_of c.args.cells.now) c.place_in.ensures)
    (c.requires.there c.loop-x.x (c.loop-x.auto.x, omega (arith, c.loop-x-test.true))))
    (c.floor.ensures ∙ ap (λ (cell : Cell). cell.floor) c.index-cells-index.is) c.in_ok-push.ensures.items c.loop-x.invariant
