use Rattle.std.proofs.Common.{◌∷◌, ◌++◌, [], length, get_or, ◌∙◌, ap, arith}
use Rattle.std.specs.Prelude.{not}
use Rattle.std.specs.Global.{Vec}
use Rattle.std.proofs.lemmas.List.{length-append}
use Rattle.nav_ground.specs.declared.cell.CellRef.{CellRef}
use Rattle.nav_ground.proofs.SmallCellLaws.{place_read}
use Rattle.obstacle_mark.proofs.Blocked.{one_more_blocked, one_more_open, no_cell}
use Rattle.obstacle_mark.proofs.places.blocked_places.Goals as goal
use Rattle.obstacle_mark.proofs.places.blocked_places.Goals.{then-is_none+in_ok-push, else-is_none}

pub loop-i-preserved : goal.loop-i-preserved
loop-i-preserved c = elim c.if-is_none.branch [
  | then-is_none+in_ok-push w ↦
      let items = ap (λ (v : Vec CellRef). v.items) w.places-is ∙ w.in_ok-push.ensures.items
      ∙ ap (λ (at : CellRef). c.loop-i.places.items ++ at ∷ [])
      (place_read c.args.cells.now c.loop-i.i c.index-cells-i.result w.at.result c.loop-i-test.true c.index-cells-i.is w.at.ensures no_cell) in
      record {
        few = omega (arith, ap length items, length-append c.loop-i.places.items ((get_or c.args.cells.now c.loop-i.i no_cell).at ∷ []), c.loop-i.invariant.few);
        places = λ taken shapes left. items ∙ one_more_blocked taken shapes c.args.cells.now c.args.areas.now c.loop-i.i no_cell c.loop-i.places.items left c.loop-i-test.true
            (c.is_none.ensures ∙ ap not w.if-is_none.true) (c.loop-i.invariant.places taken shapes left);
      }
  | else-is_none w ↦
      let items = ap (λ (v : Vec CellRef). v.items) w.places-is in
      record {
        few = omega (arith, ap length items, c.loop-i.invariant.few);
        places = λ taken shapes left. items ∙ one_more_open taken shapes c.args.cells.now c.args.areas.now c.loop-i.i no_cell c.loop-i.places.items left c.loop-i-test.true
            (c.is_none.ensures ∙ ap not w.if-is_none.false) (c.loop-i.invariant.places taken shapes left);
      }
]
