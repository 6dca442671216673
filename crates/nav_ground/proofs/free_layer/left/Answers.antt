use Rattle.std.proofs.Common.{◌∙◌, ap}
use Rattle.nav_ground.specs.declared.free_layer.CellMark.{CellMark}
use Rattle.nav_ground.proofs.MarkLaws.{left_kept, left_lost}
use Rattle.nav_ground.proofs.free_layer.left.Goals as goal
use Rattle.nav_ground.proofs.free_layer.left.Goals.{then-mark-ne0+in_ok-push, else-mark-ne0}

pub loop-i-preserved : goal.loop-i-preserved
loop-i-preserved c =
    let none : CellMark = record { area = 0; sides = 0 } in
    elim c.if-mark-ne0.branch [
      | then-mark-ne0+in_ok-push w ↦
          ap (λ v. v.items) w.left-is
          ∙ w.in_ok-push.ensures.items
          ∙ left_kept c.args.marks.now c.args.cells.now c.loop-i.left.items c.loop-i.i none c.index-cells-i.result w.marked.result c.requires
          c.loop-i-test.true w.if-mark-ne0.true c.index-cells-i.is w.marked.ensures c.loop-i.invariant
      | else-mark-ne0 w ↦
          ap (λ v. v.items) w.left-is
          ∙ left_lost c.args.marks.now c.args.cells.now c.loop-i.left.items c.loop-i.i none c.index-cells-i.result c.requires c.loop-i-test.true
          w.if-mark-ne0.false c.loop-i.invariant
    ]
