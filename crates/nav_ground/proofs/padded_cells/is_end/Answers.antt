use Rattle.std.proofs.Common.{◌∙◌, sym, inl, inr, ◌≤◌, le-leb, arith, tests}
use Rattle.std.proofs.lemmas.Bool.{cases_lt}
use Rattle.nav_ground.proofs.CellRunLaws.{none_behind, some_behind}
use Rattle.nav_ground.proofs.padded_cells.is_end.Goals as goal

pub returns : goal.returns
returns c =
    let cells = c.args.cells.now in
    let runs = c.args.runs.now in
    let here = c.at_cell-here.result in (
      λ holds.
          let none : here.left.to ≤ here.left.from = omega (arith, tests, holds) in
          sym c.at_cell-here.ensures.same ∙ none_behind cells runs here none (c.at_cell-here.ensures.end none),
      λ none-left.
          elim (cases_lt here.left.from here.left.to) [
            | inl some ↦ absurd (some_behind cells runs here c.at_cell-here.ensures.left some (c.at_cell-here.ensures.same ∙ none-left))
            | inr none ↦ le-leb here.left.to here.left.from none
          ],
    )
