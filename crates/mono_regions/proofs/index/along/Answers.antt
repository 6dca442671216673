use Rattle.std.proofs.Common.{◌<◌, ◌∙◌, sym, arith, ap, length}
use Rattle.nav_ground.specs.declared.cell.Cell.{Cell}
use Rattle.cell_table.proofs.Tables.{table_length}
use Rattle.mono_regions.specs.Indices.{along}
use Rattle.mono_regions.proofs.Chains.{table_read, along_found, along_missed, along_other}
use Rattle.mono_regions.proofs.index.along.Goals as goal
use Rattle.mono_regions.proofs.index.along.Goals.{else-to-cells-via-then-to-cells+else-area, else-to-cells-via-else-to-cells}

pub bounds-table-at : goal.bounds-table-at
bounds-table-at c = omega (arith, ap length c.requires.table, table_length c.args.cells.now)

pub returns-then-area : goal.returns-then-area
returns-then-area c =
    let there : c.args.at < length c.args.table.now = omega (arith, ap length c.requires.table, table_length c.args.cells.now, c.requires.there) in
    let to = c.area.ensures ∙ ap (λ (cell : Cell). cell.area) c.index-cells-to.is in
    let at = c.area-then-to-cells.ensures ∙ ap (λ (cell : Cell). cell.area) c.index-cells-at.is in
    along_found c.args.cells.now c.requires.cells.rules c.index.result c.args.at _ _ _ c.index.ensures.small c.requires.there
    (table_read c.args.cells.now c.args.table.now c.args.at c.index.result c.requires.table c.requires.there c.index.ensures.small (c.told-table c.args.at there))
    c.if-to-cells.true (sym to ∙ c.if-area.true ∙ at)
    ∙ ap (λ dir. along c.args.cells.now dir c.args.at) c.index.ensures.value

pub returns-else-to-cells : goal.returns-else-to-cells
returns-else-to-cells c =
    let there : c.args.at < length c.args.table.now = omega (arith, ap length c.requires.table, table_length c.args.cells.now, c.requires.there) in
    let read = table_read c.args.cells.now c.args.table.now c.args.at c.index.result c.requires.table c.requires.there c.index.ensures.small (c.told-table c.args.at there) in
    (elim c.else-to-cells.branch [
      | else-to-cells-via-then-to-cells+else-area w ↦
          let to = w.area.ensures ∙ ap (λ (cell : Cell). cell.area) w.index-cells-to.is in
          let at = w.area-then-to-cells.ensures ∙ ap (λ (cell : Cell). cell.area) w.index-cells-at.is in
          along_other c.args.cells.now c.requires.cells.rules c.index.result c.args.at _ _ _ c.index.ensures.small c.requires.there read w.if-to-cells.true
          (λ same. w.if-area.false (to ∙ same ∙ sym at))
      | else-to-cells-via-else-to-cells w ↦
          along_missed c.args.cells.now c.requires.cells.rules c.index.result c.args.at _ c.index.ensures.small c.requires.there read w.if-to-cells.false
    ])
    ∙ ap (λ dir. along c.args.cells.now dir c.args.at) c.index.ensures.value
