use Rattle.std.proofs.Common.{◌+◌, ◌∷◌, [], List, length, take, ◌∙◌, ap, arith}
use Rattle.std.proofs.lemmas.List.{length-append}
use Rattle.nav_ground.specs.declared.free_layer.CellMark.{CellMark}
use Rattle.nav_ground.specs.Marks.{cells_left}
use Rattle.nav_ground.proofs.MarkLaws.{marks_more}
use Rattle.nav_ground.proofs.free_layer.marks_of.Goals as goal

pub loop-cell-preserved : goal.loop-cell-preserved
loop-cell-preserved c =
    let cells = c.args.cells.now in
    let i = c.loop-cell.cell-index in
    record {
      count = omega (arith, ap length c.in_ok-push.ensures.items, length-append c.loop-cell.marks.items (c.in-Some.next.mark ∷ []), c.loop-cell.invariant.count);
      within = c.in-Some.ensures.within;
      left = ap (λ (ms : List CellMark). cells_left ms (take (i + 1) cells)) c.in_ok-push.ensures.items
          ∙ marks_more c.loop-cell.marks.items cells c.args.free.now i c.loop-cell.passed c.in-Some.next.passed c.in-Some.next.mark c.cell-item.result
          c.loop-cell.invariant.count c.loop-cell-test.true c.cell-item.is c.loop-cell.invariant.left c.in-Some.ensures.left;
    }
