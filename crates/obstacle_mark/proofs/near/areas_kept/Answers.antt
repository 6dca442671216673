use Rattle.std.proofs.Common.{◌≡◌, ℕ, Option, map, length, ap, ◌∙◌, sym, subst}
use Rattle.std.specs.Global.{Vec}
use Rattle.std.specs.Prelude.{◌*◌}
use Rattle.std.proofs.lemmas.Bool.{ne_eqb}
use Rattle.nav_ground.specs.Clearance.{cells_in}
use Rattle.nav_ground.specs.FreeCells.{is_blocked}
use Rattle.nav_ground.specs.Tiling.{widened}
use Rattle.nav_ground.proofs.LayerLaws.{cells_in_rules}
use Rattle.obstacle_mark.specs.AreasLeft.{area_left}
use Rattle.obstacle_mark.specs.Columns.{ArePlaces}
use Rattle.obstacle_mark.proofs.ClearPlaces.{clear_are_places}
use Rattle.obstacle_mark.proofs.NearLaws.{areas_written, areas_unblocked}
use Rattle.obstacle_mark.proofs.OneMoreShape.{written_back}
use Rattle.obstacle_mark.proofs.near.areas_kept.Goals as goal
use Rattle.obstacle_mark.proofs.near.areas_kept.Goals.{in-Some+in_ok-clear, in_default}

pub leave_near-requires-clause-clear : goal.leave_near-requires-clause-clear
leave_near-requires-clause-clear c =
    let layer = c.args.layer.now in
    let around = widened c.in-Some.window (2 * layer.radius) in
    subst ArePlaces (sym (c.as_slice.ensures.value ∙ c.in_ok-clear.ensures))
    (clear_are_places (cells_in around layer.wide) c.args.shapes.now layer.radius (cells_in_rules around layer.wide c.requires.layer.wide))

pub returns : goal.returns
returns c =
    let layer = c.args.layer.now in
    let shapes = c.args.shapes.now in
    let cells_are = c.as_slice-cells.ensures ∙ c.get.ensures in
    let some = ne_eqb layer.radius 0 c.if-layer-eq0.false in
    elim c.match-stops_window.branch [
      | in-Some+in_ok-clear w ↦
          let old = w.as_mut_slice.result.now in
          let new = w.leave_near.new.areas in
          let same : c.in_ok-areas.areas.len ≡ length new =
          c.in_ok-areas.areas.ok.0 ∙ sym (ap length w.as_mut_slice.ensures.value) ∙ sym w.leave_near.auto.areas in
          ap (λ (v : Vec (Option ℕ)). v.items) w.areas-is
          ∙ written_back c.in_ok-areas.areas.len c.in_ok-areas.areas.items new same
          ∙ areas_written layer shapes c.stops_window.result w.in-Some.window c.as_slice-cells.result.now w.as_slice.result.now old new cells_are
          (w.as_slice.ensures.value ∙ w.in_ok-clear.ensures) some w.in-Some.is c.stops_window.ensures c.requires.kept
          (w.as_mut_slice.ensures.value ∙ c.in_ok-areas.ensures) w.leave_near.auto.areas w.leave_near.ensures
      | in_default w ↦
          ap (λ (v : Vec (Option ℕ)). v.items) w.areas-is ∙ c.in_ok-areas.ensures
          ∙ ap (map (area_left (is_blocked shapes) shapes)) cells_are
          ∙ areas_unblocked layer shapes c.stops_window.result some w.in_default.is c.stops_window.ensures c.requires.kept
    ]
