use Rattle.std.proofs.Common.{◌+◌, ap, sym, arith}
use Rattle.std.proofs.lemmas.List.{get_or_default}
use Rattle.nav_ground.specs.declared.cell.CellRef.{CellRef}
use Rattle.cell_table.specs.Columns.{column_of}
use Rattle.obstacle_mark.proofs.Columns.{none_passed, none_more, none_after}
use Rattle.obstacle_mark.proofs.places.is_there.Goals as goal

abbrev nowhere : CellRef
nowhere = record { x = 0; z = 0; level = 0 }

pub loop-i-init : goal.loop-i-init
loop-i-init c = record {
  most = c.requires.passed.most;
  none = none_passed c.args.column c.args.level c.args.first c.args.places.now c.requires.passed;
  next = c.requires.next;
}

pub loop-i-preserved : goal.loop-i-preserved
loop-i-preserved c = record {
  most = omega (arith, c.loop-i-test.true);
  none = none_more c.args.column c.args.level c.loop-i.i c.args.places.now _ c.loop-i-test.true c.loop-i.invariant.none c.if-level-places.false;
  next = λ d there.
      let rises = c.requires.places.order c.loop-i.i (c.loop-i.i + 1) d (omega arith) there in
      let same = get_or_default c.args.places.now c.loop-i.i nowhere d c.loop-i-test.true in
      let here = ap column_of same in
      omega (arith, rises, here, c.column_of.ensures.value, c.if-column_of-column.true);
}

pub returns-else-column_of-column : goal.returns-else-column_of-column
returns-else-column_of-column c =
    sym (none_after c.args.column c.args.level c.loop-i.i c.args.places.now c.requires.places
    (λ d there.
    let here = ap column_of (get_or_default c.args.places.now c.loop-i.i nowhere d c.loop-i-test.true) in
    let next = c.loop-i.invariant.next d there in
    let apart = c.if-column_of-column.false in
    omega (arith, next, here, apart, c.column_of.ensures.value))
    c.loop-i.invariant.none)
