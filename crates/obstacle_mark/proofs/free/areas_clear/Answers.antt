use Rattle.std.proofs.Common.{◌≡◌, List, length, map, filter, ap, ◌∙◌, sym, subst}
use Rattle.std.specs.Prelude.{not, ◌||◌}
use Rattle.std.specs.List.{list_any}
use Rattle.nav_ground.specs.declared.cell.Cell.{Cell}
use Rattle.nav_ground.specs.declared.cell.CellRef.{CellRef}
use Rattle.nav_ground.specs.Clearance.{kept_cells, places_of}
use Rattle.nav_ground.specs.FreeCells.{is_blocked, is_unblocked, is_same_place, clear_places}
use Rattle.obstacle_mark.specs.AreasLeft.{area_left}
use Rattle.obstacle_mark.specs.Columns.{ArePlaces}
use Rattle.obstacle_mark.proofs.ClearPlaces.{areas_plain, areas_crowded, areas_left_clear, clear_are_places}
use Rattle.obstacle_mark.proofs.OneMoreShape.{written_back}
use Rattle.obstacle_mark.proofs.free.areas_clear.Goals as goal

pub returns-then-is_plain : goal.returns-then-is_plain
returns-then-is_plain c =
    let shapes = c.args.shapes.now in
    c.in_ok-areas.ensures ∙ ap (map (area_left (is_blocked shapes) shapes)) (c.as_slice-cells.ensures ∙ c.get.ensures)
    ∙ areas_plain c.args.layer.now shapes (sym c.is_plain.ensures ∙ c.if-is_plain.true)

pub leave_clear-requires-clause-clear : goal.leave_clear-requires-clause-clear
leave_clear-requires-clause-clear c =
    let wide = c.args.layer.now.wide in
    let shapes = c.args.shapes.now in
    let radius = c.args.layer.now.radius in
    let are : c.as_slice-2.result.now ≡ clear_places c.args.layer.now shapes =
    c.as_slice-2.ensures.value ∙ c.in_ok-clear.ensures
    ∙ ap (λ (cells : List Cell). places_of (kept_cells (filter (is_unblocked shapes) cells) radius)) (c.as_slice.ensures.value ∙ c.in_ok-wide.ensures) in
    subst ArePlaces (sym are) (clear_are_places wide shapes radius c.requires.layer.wide)

pub returns : goal.returns
returns c =
    let layer = c.args.layer.now in
    let shapes = c.args.shapes.now in
    let cells = c.as_slice-cells.result.now in
    let clear = c.as_slice-2.result.now in
    let old = c.as_mut_slice.result.now in
    let new = c.leave_clear.new.areas in
    let are : clear ≡ clear_places layer shapes =
    c.as_slice-2.ensures.value ∙ c.in_ok-clear.ensures
    ∙ ap (λ (cells : List Cell). places_of (kept_cells (filter (is_unblocked shapes) cells) layer.radius)) (c.as_slice.ensures.value ∙ c.in_ok-wide.ensures) in
    let crowded = λ (places : List CellRef) (cell : Cell). not (list_any (is_same_place cell.at) places) || is_blocked shapes cell in
    let same : c.in_ok-areas.areas.len ≡ length new =
    c.in_ok-areas.areas.ok.0 ∙ sym (ap length c.as_mut_slice.ensures.value) ∙ sym c.leave_clear.auto.areas in
    written_back c.in_ok-areas.areas.len c.in_ok-areas.areas.items new same
    ∙ areas_left_clear clear (is_blocked shapes) shapes cells old new
    (c.as_mut_slice.ensures.value ∙ c.in_ok-areas.ensures) c.leave_clear.auto.areas c.leave_clear.ensures
    ∙ ap (λ (places : List CellRef). map (area_left (crowded places) shapes) cells) are
    ∙ ap (map (area_left (crowded (clear_places layer shapes)) shapes)) (c.as_slice-cells.ensures ∙ c.get.ensures)
    ∙ areas_crowded layer shapes (sym c.is_plain.ensures ∙ c.if-is_plain.false)
