use Rattle.std.proofs.Common.{List, [], ◌∷◌, ◌++◌, ap, ◌∙◌, false}
use Rattle.std.specs.List.{filter}
use Rattle.std.specs.Global.{Vec}
use Rattle.std.proofs.lemmas.List.{take_all}
use Rattle.nav_ground.specs.declared.cell.Cell.{Cell}
use Rattle.nav_ground.specs.declared.cell.CellRef.{CellRef}
use Rattle.nav_ground.specs.Clearance.{places_of}
use Rattle.agent_erode.proofs.Selected.{one_more_place, one_less_place, mark_at}
use Rattle.agent_erode.proofs.erosion.places_marked.Goals as goal
use Rattle.agent_erode.proofs.erosion.places_marked.Goals.{then-marks-i+in_ok-push, else-marks-i}

pub loop-i-init : goal.loop-i-init
loop-i-init c = λ p are. c.new-places.ensures.items

pub loop-i-preserved : goal.loop-i-preserved
loop-i-preserved c = λ p are.
    let cells = c.args.cells.now in
    let marks = c.args.marks.now in
    let item = c.index-cells-i.result in
    elim c.if-marks-i.branch [
      | then-marks-i+in_ok-push w ↦
          ap (λ (v : Vec CellRef). v.items) w.places-is ∙ w.in_ok-push.ensures.items
          ∙ ap (λ (at : CellRef). c.loop-i.places.items ++ at ∷ []) (w.at.ensures ∙ ap (λ (cell : Cell). cell.at) c.index-cells-i.is)
          ∙ one_more_place p cells c.loop-i.i item c.loop-i.places.items c.loop-i-test.true
          (mark_at p cells marks c.loop-i.i item false _ are c.loop-i-test.true w.if-marks-i.true) (c.loop-i.invariant p are)
      | else-marks-i w ↦
          ap (λ (v : Vec CellRef). v.items) w.places-is
          ∙ one_less_place p cells c.loop-i.i item c.loop-i.places.items c.loop-i-test.true
          (mark_at p cells marks c.loop-i.i item false _ are c.loop-i-test.true w.if-marks-i.false) (c.loop-i.invariant p are)
    ]

pub returns : goal.returns
returns c = λ p are.
    c.loop-i.invariant p are ∙ ap (λ (xs : List Cell). places_of (filter p xs)) (take_all c.loop-i.i c.args.cells.now c.loop-i-test.false)
