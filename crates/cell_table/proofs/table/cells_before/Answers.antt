use Rattle.std.proofs.Common.{◌-◌, ◌<◌, length, ◌∙◌, sym, ap, arith}
use Rattle.nav_ground.proofs.SmallCellLaws.{place_read}
use Rattle.cell_table.specs.Columns.{is_before}
use Rattle.cell_table.proofs.Places.{none_before, some_before}
use Rattle.cell_table.proofs.table.cells_before.Goals as goal

pub loop-least-init : goal.loop-least-init
loop-least-init c = record { most = c.pass-least.ensures.most; next = c.pass-least.ensures.next }

pub loop-least-preserved : goal.loop-least-preserved
loop-least-preserved c = record {
  most = omega (arith, c.loop-least.invariant.most);
  next = λ d there.
      let read = place_read c.args.cells.now (c.loop-least.least - 1) c.index-cells-least.result c.at.result there c.index-cells-least.is c.at.ensures d in
      ap (is_before c.args.column c.args.level) (sym read) ∙ sym c.is_before.ensures ∙ c.if-not-is_before.true;
}

pub returns-after-loop-least-clause-before : goal.returns-after-loop-least-clause-before
returns-after-loop-least-clause-before c = λ k d below. absurd (omega (arith, below, c.loop-least-test.false))

pub returns-after-loop-least-clause-after : goal.returns-after-loop-least-clause-after
returns-after-loop-least-clause-after c = λ k d above there.
    none_before c.args.cells.now c.requires c.args.column c.args.level c.loop-least.least k d above there c.loop-least.invariant.next

pub returns-else-not-is_before-clause-before : goal.returns-else-not-is_before-clause-before
returns-else-not-is_before-clause-before c = λ k d below.
    let cells = c.args.cells.now in
    let least = c.loop-least.least in
    let there : least - 1 < length cells = omega (arith, below, c.loop-least.invariant.most) in
    let read = place_read cells (least - 1) c.index-cells-least.result c.at.result there c.index-cells-least.is c.at.ensures d in
    some_before cells c.requires c.args.column c.args.level least k d below c.loop-least.invariant.most
    (ap (is_before c.args.column c.args.level) (sym read) ∙ sym c.is_before.ensures ∙ c.if-not-is_before.false)

pub returns-else-not-is_before-clause-after : goal.returns-else-not-is_before-clause-after
returns-else-not-is_before-clause-after c = λ k d above there.
    none_before c.args.cells.now c.requires c.args.column c.args.level c.loop-least.least k d above there c.loop-least.invariant.next
