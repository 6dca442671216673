use Rattle.std.proofs.Common.{◌≡◌, ℕ, [], ◌∷◌, length, get_or, ap, ◌∙◌}
use Rattle.std.proofs.lemmas.List.{get_or_default}
use Rattle.nav_ground.specs.declared.cell.Cell.{Cell}
use Rattle.cell_table.specs.Table.{index_named}
use Rattle.cell_table.proofs.table.row_behind.Goals as goal

pub returns : goal.returns
returns c = λ d.
    let cells = c.args.cells.now in
    let none : ℕ = length cells in
    let same : c.index-cells-i.result ≡ get_or cells c.args.i d =
    c.index-cells-i.is ∙ get_or_default cells c.args.i c.index-cells-i.result d c.requires.there in
    ap (λ m. m ∷ none ∷ none ∷ c.index_named-2.result ∷ []) (c.index_named.ensures ∙ ap (λ (cell : Cell). index_named cells cell 0) same)
    ∙ ap (λ m. index_named cells (get_or cells c.args.i d) 0 ∷ none ∷ none ∷ m ∷ []) (c.index_named-2.ensures ∙ ap (λ (cell : Cell). index_named cells cell 3) same)
