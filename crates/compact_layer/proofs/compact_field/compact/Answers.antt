use Rattle.std.proofs.Common.{◌∙◌, sym, subst}
use Rattle.nav_ground.specs.Cells.{IsCompact}
use Rattle.nav_ground.proofs.CompactLaws.{compact_rules}
use Rattle.compact_layer.specs.Stacks.{AreStacked}
use Rattle.compact_layer.proofs.Sweepable.{unconnected_stacked, connected_in_place}
use Rattle.compact_layer.proofs.compact_field.compact.Goals as goal

pub connect-requires-clause-cells : goal.connect-requires-clause-cells
connect-requires-clause-cells c =
    let cells = c.as_mut_slice.ensures.value ∙ c.in_ok-cells.ensures in
    subst AreStacked (sym cells) (unconnected_stacked c.args.field.now c.args.areas.now c.requires.field c.requires.areas c.requires.each)

pub returns-clause-cells : goal.returns-clause-cells
returns-clause-cells c =
    connected_in_place c.args.field.now c.args.areas.now c.args.agent.now c.as_mut_slice.result.now c.connect.new.cells _ c.from_vec.result
    c.in_ok-cells.cells.len (c.as_mut_slice.ensures.value ∙ c.in_ok-cells.ensures) c.as_mut_slice.ensures.len c.connect.ensures c.from_vec.ensures

pub returns-clause-rules : goal.returns-clause-rules
returns-clause-rules c =
    subst IsCompact (sym (returns-clause-cells c))
    (compact_rules c.args.field.now c.args.areas.now c.args.agent.now c.requires.field c.requires.areas c.requires.each c.requires.agent)
