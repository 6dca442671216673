use Rattle.std.proofs.Common.{◌<◌, length, ◌++◌, List, [], ◌∷◌, take, get_or, ap, ◌∙◌, sym, false, arith}
use Rattle.std.specs.Global.{Vec}
use Rattle.std.proofs.lemmas.List.{take_all}
use Rattle.nav_ground.specs.declared.cell.Cell.{Cell}
use Rattle.nav_ground.specs.Clearance.{marked}
use Rattle.agent_erode.proofs.Marked.{one_more_marked, one_less_marked}
use Rattle.agent_erode.proofs.erosion.open_cells.Goals as goal
use Rattle.agent_erode.proofs.erosion.open_cells.Goals.{then-uncovered-i+in_ok-push, else-uncovered-i}

pub loop-i-preserved : goal.loop-i-preserved
loop-i-preserved c =
    let cells = c.args.cells.now in
    let marks = c.args.uncovered.now in
    let item = c.index-cells-i.result in
    let beside : c.loop-i.i < length marks = omega (arith, c.loop-i-test.true, c.requires) in
    elim c.if-uncovered-i.branch [
      | then-uncovered-i+in_ok-push w ↦
          ap (λ (v : Vec Cell). v.items) w.chosen-is ∙ w.in_ok-push.ensures.items
          ∙ ap (λ (cell : Cell). c.loop-i.chosen.items ++ cell ∷ []) c.index-cells-i.is
          ∙ ap (λ (cs : List Cell). cs ++ get_or cells c.loop-i.i item ∷ []) c.loop-i.invariant
          ∙ sym (one_more_marked cells marks c.loop-i.i item false c.loop-i-test.true beside w.if-uncovered-i.true)
      | else-uncovered-i w ↦
          ap (λ (v : Vec Cell). v.items) w.chosen-is ∙ c.loop-i.invariant
          ∙ sym (one_less_marked cells marks c.loop-i.i false c.loop-i-test.true beside w.if-uncovered-i.false)
    ]

pub returns : goal.returns
returns c =
    c.loop-i.invariant
    ∙ ap (λ (xs : List Cell). marked xs (take c.loop-i.i c.args.uncovered.now)) (take_all c.loop-i.i c.args.cells.now c.loop-i-test.false)
    ∙ ap (marked c.args.cells.now) (take_all c.loop-i.i c.args.uncovered.now (omega (arith, c.loop-i-test.false, c.requires)))
