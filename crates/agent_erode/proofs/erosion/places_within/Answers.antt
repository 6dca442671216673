use Rattle.std.proofs.Common.{◌≡◌, ap, ◌∙◌, sym, true, false, ◌&&◌, List, [], ◌∷◌, ◌++◌, get_or}
use Rattle.std.specs.Global.{Vec}
use Rattle.std.specs.List.{filter}
use Rattle.std.proofs.lemmas.Bool.{and_from, and_left, and_right}
use Rattle.std.proofs.lemmas.List.{take_all}
use Rattle.nav_ground.specs.declared.cell.Cell.{Cell}
use Rattle.nav_ground.specs.declared.cell.CellRef.{CellRef}
use Rattle.nav_ground.specs.Tiling.{is_in_window, widened}
use Rattle.nav_ground.specs.Clearance.{places_of}
use Rattle.nav_ground.proofs.Selections.{filter-filter}
use Rattle.agent_erode.proofs.Selected.{one_more_place, one_less_place, mark_at}
use Rattle.agent_erode.proofs.WindowLaws.{not_widened}
use Rattle.agent_erode.proofs.erosion.places_within.Goals as goal
use Rattle.agent_erode.proofs.erosion.places_within.Goals.{then-marks-i+then-is_near+in_ok-push, else-marks-i, else-marks-i-via-then-marks-i+else-is_near, else-marks-i-via-else-marks-i}

pub loop-i-init : goal.loop-i-init
loop-i-init c = λ p are. c.new-places.ensures.items

pub loop-i-preserved : goal.loop-i-preserved
loop-i-preserved c = λ p are.
    let cells = c.args.cells.now in
    let marks = c.args.marks.now in
    let i = c.loop-i.i in
    let item = c.index-cells-i.result in
    let cell : Cell = get_or cells i item in
    let place : c.at-place.result ≡ cell.at = c.at-place.ensures ∙ ap (λ (other : Cell). other.at) c.index-cells-i.is in
    let inside = λ (other : Cell). is_in_window c.args.window other.at.x other.at.z in
    let both = λ (other : Cell). p other && inside other in
    let in_window : inside cell ≡ is_in_window (widened c.args.window 0) c.at-place.result.x c.at-place.result.z =
    sym (not_widened c.args.window cell.at.x cell.at.z) ∙ ap (λ (at : CellRef). is_in_window (widened c.args.window 0) at.x at.z) (sym place) in
    elim c.if-marks-i.branch [
      | then-marks-i+then-is_near+in_ok-push w ↦
          ap (λ (v : Vec CellRef). v.items) w.places-is ∙ w.in_ok-push.ensures.items
          ∙ ap (λ (at : CellRef). c.loop-i.places.items ++ at ∷ []) place
          ∙ one_more_place both cells i item c.loop-i.places.items c.loop-i-test.true
          (and_from (p cell) (inside cell) (mark_at p cells marks i item false true are c.loop-i-test.true w.if-marks-i.true)
          (in_window ∙ sym w.is_near.ensures ∙ w.if-is_near.true)) (c.loop-i.invariant p are)
      | else-marks-i w ↦
          ap (λ (v : Vec CellRef). v.items) w.places-is
          ∙ one_less_place both cells i item c.loop-i.places.items c.loop-i-test.true
          (elim w.else-marks-i.branch [
            | else-marks-i-via-then-marks-i+else-is_near w' ↦
                and_right (p cell) (inside cell) (in_window ∙ sym w'.is_near.ensures ∙ w'.if-is_near.false)
            | else-marks-i-via-else-marks-i w' ↦
                and_left (p cell) (inside cell) (mark_at p cells marks i item false false are c.loop-i-test.true w'.if-marks-i.false)
          ]) (c.loop-i.invariant p are)
    ]

pub returns : goal.returns
returns c = λ p are.
    let cells = c.args.cells.now in
    let inside = λ (other : Cell). is_in_window c.args.window other.at.x other.at.z in
    c.loop-i.invariant p are
    ∙ ap (λ (xs : List Cell). places_of (filter (λ (other : Cell). p other && inside other) xs)) (take_all c.loop-i.i cells c.loop-i-test.false)
    ∙ ap places_of (sym (filter-filter inside p cells))
