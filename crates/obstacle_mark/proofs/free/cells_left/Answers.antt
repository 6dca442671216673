use Rattle.std.proofs.Common.{List, map, length, ◌∙◌, sym, ap, subst, arith}
use Rattle.std.specs.List.{filter}
use Rattle.std.proofs.lemmas.List.{length-map}
use Rattle.nav_ground.specs.declared.cell.Cell.{Cell}
use Rattle.nav_ground.specs.Cells.{IsCells}
use Rattle.nav_ground.specs.FreeCells.{is_taken, free_cell_of}
use Rattle.nav_ground.proofs.Words.{is_free}
use Rattle.obstacle_mark.specs.AreasLeft.{area_left}
use Rattle.obstacle_mark.specs.Columns.{ArePlaces}
use Rattle.obstacle_mark.proofs.FreeCellsLeft.{blocked_are_places}
use Rattle.obstacle_mark.proofs.SmallAreas.{small_areas}
use Rattle.obstacle_mark.proofs.free.cells_left.Goals as goal

pub blocked_places-requires : goal.blocked_places-requires
blocked_places-requires c =
    ap length (c.requires.areas)
    ∙ length-map c.args.layer.now.cells (area_left (is_taken c.args.layer.now c.args.shapes.now) c.args.shapes.now)
    ∙ ap length (sym (c.as_slice-cells.ensures ∙ c.get.ensures))

pub free_cells-requires-clause-cells : goal.free_cells-requires-clause-cells
free_cells-requires-clause-cells c = subst IsCells (sym (c.as_slice-cells.ensures ∙ c.get.ensures)) c.requires.layer.cells.rules

pub free_cells-requires-clause-beside : goal.free_cells-requires-clause-beside
free_cells-requires-clause-beside c =
    ap length (c.requires.areas)
    ∙ length-map c.args.layer.now.cells (area_left (is_taken c.args.layer.now c.args.shapes.now) c.args.shapes.now)
    ∙ ap length (sym (c.as_slice-cells.ensures ∙ c.get.ensures))

pub free_cells-requires-clause-areas : goal.free_cells-requires-clause-areas
free_cells-requires-clause-areas c =
    small_areas c.args.layer.now c.args.shapes.now c.args.areas.now c.requires.layer.cells c.requires.shapes
    (c.requires.areas)

pub free_cells-requires-clause-blocked : goal.free_cells-requires-clause-blocked
free_cells-requires-clause-blocked c =
    let taken = is_taken c.args.layer.now c.args.shapes.now in
    let left = c.requires.areas ∙ ap (map (area_left taken c.args.shapes.now)) (sym (c.as_slice-cells.ensures ∙ c.get.ensures)) in
    let blocked = c.as_slice.ensures.value ∙ c.in_ok-blocked.ensures.places taken c.args.shapes.now left in
    let rules' : IsCells c.as_slice-cells.result.now = subst IsCells (sym (c.as_slice-cells.ensures ∙ c.get.ensures)) c.requires.layer.cells.rules in
    subst ArePlaces (sym blocked) (blocked_are_places taken c.as_slice-cells.result.now rules')

pub free_cells-requires-clause-few : goal.free_cells-requires-clause-few
free_cells-requires-clause-few c = omega (arith, c.as_slice.ensures.len, c.in_ok-blocked.ensures.few)

pub returns : goal.returns
returns c =
    let shapes = c.args.shapes.now in
    let taken = is_taken c.args.layer.now shapes in
    let left = c.requires.areas ∙ ap (map (area_left taken shapes)) (sym (c.as_slice-cells.ensures ∙ c.get.ensures)) in
    ap (λ (cells : List Cell). record { tile = c.args.layer.now.tile; cells = cells })
    (c.from_vec.ensures
    ∙ c.in_ok-free.ensures taken shapes left
    (c.as_slice.ensures.value ∙ c.in_ok-blocked.ensures.places taken shapes left)
    ∙ ap (λ (xs : List Cell). map (free_cell_of taken xs shapes) (filter (is_free c.args.layer.now shapes) xs)) (c.as_slice-cells.ensures ∙ c.get.ensures))
