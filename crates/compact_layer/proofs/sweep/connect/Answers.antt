use Rattle.std.proofs.Common.{◌<◌, ◌+◌, ◌∙◌, sym, ap, subst, length, get_or, set, arith}
use Rattle.std.proofs.lemmas.List.{get_or_default}
use Rattle.nav_ground.specs.declared.cell.Cell.{Cell}
use Rattle.compact_layer.specs.Stacks.{ArePassed}
use Rattle.compact_layer.proofs.Candidates.{passed_on}
use Rattle.nav_ground.specs.Connection.{connected_cell}
use Rattle.compact_layer.proofs.Small.{connected_small}
use Rattle.compact_layer.proofs.Alike.{AreConnected, alike_connected, alike_back, stacked_alike, all_passed_alike, one_more_connected, all_connected}
use Rattle.compact_layer.proofs.sweep.connect.Goals as goal

pub next_levels-next-requires-clause-cells : goal.next_levels-next-requires-clause-cells
next_levels-next-requires-clause-cells c =
    let before = c.args.cells.now in
    let alike = alike_connected c.args.agent.now before c.loop-i.i c.loop-i.cells c.loop-i.invariant.connected in
    stacked_alike before c.loop-i.cells alike c.requires.cells

pub next_levels-next-requires-clause-passed : goal.next_levels-next-requires-clause-passed
next_levels-next-requires-clause-passed c =
    let before = c.args.cells.now in
    let here = c.index-cells-i.result in
    let connected = c.loop-i.invariant.connected in
    let alike = alike_connected c.args.agent.now before c.loop-i.i c.loop-i.cells connected in
    let there : c.loop-i.i < length before = omega (arith, c.loop-i-test.true, connected.length_is) in
    let P : Cell → Type 0 = λ (cell : Cell). ArePassed c.loop-i.cells c.args.agent.now.height c.loop-i.passed cell in
    subst P (sym (c.get-cell.ensures.value ∙ connected.left c.loop-i.i here (omega arith) there))
    (all_passed_alike before c.loop-i.cells _ _ _ alike (c.loop-i.invariant.passed c.loop-i.i here (omega arith) there))

pub new-requires : goal.new-requires
new-requires c =
    let before = c.args.cells.now in
    let alike = alike_connected c.args.agent.now before c.loop-i.i c.loop-i.cells c.loop-i.invariant.connected in
    connected_small c.args.agent.now c.loop-i.cells c.get-cell.result c.next_levels-next.result
    (stacked_alike before c.loop-i.cells alike c.requires.cells) c.get-cell.ensures.small c.next_levels-next.ensures.next

pub loop-i-preserved : goal.loop-i-preserved
loop-i-preserved c =
    let agent = c.args.agent.now in
    let before = c.args.cells.now in
    let cells = c.loop-i.cells in
    let i = c.loop-i.i in
    let here = c.index-cells-i.result in
    let next = c.next_levels-next.result in
    let connected = c.loop-i.invariant.connected in
    let passed = c.next_levels-next.new.passed in
    let alike = alike_connected agent before i cells connected in
    let there : i < length before = omega (arith, c.loop-i-test.true, connected.length_is) in
    let value = c.get-cell.ensures.value in
    record {
      connected =
          let P : Cell → Type 0 = λ (cell : Cell). AreConnected agent before (i + 1) (set cells i cell) in
          subst P (sym (c.new.ensures ∙ ap (λ (cell : Cell). record cell { next = next }) value))
          (one_more_connected agent before i cells here next connected there
          (c.next_levels-next.ensures.next ∙ ap (λ (cell : Cell). (connected_cell agent cells cell).next) value));
      passed = λ j d later within.
          let P : Cell → Type 0 = λ (cell : Cell). ArePassed cells agent.height passed cell in
          let now = subst P (value ∙ connected.left i here (omega arith) there ∙ get_or_default before i here d there) c.next_levels-next.ensures.passed in
          passed_on before agent.height passed (get_or before i d) (get_or before j d) (c.requires.cells.order i j d (omega (arith, later)) within)
          (all_passed_alike cells before _ _ _ (alike_back before cells alike) now);
    }

pub returns : goal.returns
returns c =
    all_connected c.args.agent.now c.args.cells.now c.loop-i.i c.loop-i.cells c.loop-i.invariant.connected
    (omega (arith, c.loop-i-test.false, c.loop-i.invariant.connected.length_is))
