use Rattle.std.proofs.Common.{◌∙◌, ap, length, arith}
use Rattle.cell_table.proofs.Tables.{table_length}
use Rattle.mono_regions.specs.Seeing.{beyond}
use Rattle.mono_regions.proofs.Touches.{beyond_read}
use Rattle.mono_regions.proofs.touching.beyond.Goals as goal

pub bounds-as_slice-at : goal.bounds-as_slice-at
bounds-as_slice-at c =
    omega (arith, ap length c.as_slice.ensures, ap length c.requires.strips.table, table_length c.args.cells.now, c.requires.there)

pub returns : goal.returns
returns c =
    c.copied.ensures ∙ c.get.ensures
    ∙ beyond_read c.args.cells.now c.requires.strips.cut c.as_slice.result.now c.args.strips.now.index.owners c.index.result c.args.at
    (c.as_slice.ensures ∙ c.requires.strips.table) c.requires.strips.owners c.requires.there c.index.ensures.small
    ∙ ap (λ dir. beyond c.args.cells.now dir c.args.at) c.index.ensures.value
