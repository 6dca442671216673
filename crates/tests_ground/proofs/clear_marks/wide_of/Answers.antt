use Rattle.std.proofs.Common.{◌∙◌, sym, subst, ap, pos}
use Rattle.nav_ground.specs.Cells.{IsCells}
use Rattle.nav_ground.specs.CellRuns.{cells_of_runs}
use Rattle.nav_ground.specs.Tiling.{widened}
use Rattle.nav_ground.specs.declared.cell.Window.{Window}
use Rattle.nav_ground.proofs.LayerLaws.{cells_in_rules}
use Rattle.tests_ground.proofs.clear_marks.wide_of.Goals as goal

abbrev everywhere : Window
everywhere = record { x0 = pos 0; x1 = pos 1023; z0 = pos 0; z1 = pos 1023 }

pub returns : goal.returns
returns c =
    let cells = c.in_ok-shared.ensures.ok ∙ c.from_vec.ensures ∙ sym c.as_slice.ensures.value in
    let near = c.over.ensures ∙ ap (λ cells. cells_of_runs cells c.in_ok-runs.runs.items) cells ∙ c.in_ok-runs.ensures.near in
    subst IsCells (sym near) (cells_in_rules (widened everywhere 0) _ (subst IsCells (sym c.as_slice.ensures.value) c.requires))
