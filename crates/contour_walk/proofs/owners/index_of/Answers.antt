use Rattle.std.proofs.Common.{◌∙◌, sym, ap, arith}
use Rattle.nav_ground.proofs.SmallCellLaws.{place_read}
use Rattle.mesh_types.specs.StripPolygons.{some_cell}
use Rattle.contour_walk.specs.Tables.{is_same}
use Rattle.contour_walk.proofs.Places.{found_there, found_nowhere}
use Rattle.contour_walk.proofs.owners.index_of.Goals as goal
use Rattle.contour_walk.proofs.owners.index_of.Goals.{else-least-cells-via-then-least-cells+else-is_at-2, else-least-cells-via-else-least-cells}

pub returns-then-is_at : goal.returns-then-is_at
returns-then-is_at c =
    found_there c.args.cells.now c.requires c.args.at c.args.guess some_cell c.if-guess-cells.true
    (ap (is_same c.args.at)
    (sym (place_read c.args.cells.now c.args.guess c.index-cells-guess.result c.at.result c.if-guess-cells.true c.index-cells-guess.is c.at.ensures some_cell))
    ∙ sym c.is_at.ensures ∙ c.if-is_at.true)

pub returns-then-is_at-2 : goal.returns-then-is_at-2
returns-then-is_at-2 c =
    found_there c.args.cells.now c.requires c.args.at c.cells_before-least.result some_cell c.if-least-cells.true
    (ap (is_same c.args.at)
    (sym (place_read c.args.cells.now c.cells_before-least.result c.index-cells-least.result c.at-then-least-cells.result c.if-least-cells.true
    c.index-cells-least.is c.at-then-least-cells.ensures some_cell))
    ∙ sym c.is_at-then-least-cells.ensures ∙ c.if-is_at-2.true)

pub returns-else-least-cells : goal.returns-else-least-cells
returns-else-least-cells c =
    found_nowhere c.args.cells.now c.requires c.args.at c.cells_before-least.result
    c.cells_before-least.ensures.most c.cells_before-least.ensures.before c.cells_before-least.ensures.after
    (λ d there. elim c.else-least-cells.branch [
      | else-least-cells-via-then-least-cells+else-is_at-2 w ↦
          ap (is_same c.args.at)
          (sym (place_read c.args.cells.now c.cells_before-least.result w.index-cells-least.result w.at-then-least-cells.result there
          w.index-cells-least.is w.at-then-least-cells.ensures d))
          ∙ sym w.is_at-then-least-cells.ensures ∙ w.if-is_at-2.false
      | else-least-cells-via-else-least-cells w ↦ absurd (omega (arith, there, w.if-least-cells.false))
    ])
