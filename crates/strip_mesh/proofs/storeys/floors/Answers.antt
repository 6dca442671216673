use Rattle.std.proofs.Common.{◌∙◌, map, refl}
use Rattle.nav_ground.specs.declared.cell.Cell.{Cell}
use Rattle.mono_regions.specs.Indices.{cell_at}
use Rattle.strip_mesh.proofs.Steps.{made_of_cells}
use Rattle.strip_mesh.proofs.storeys.floors.Goals as goal

pub returns : goal.returns
returns c =
    c.from_vec.ensures ∙ c.loop-at.invariant
    ∙ made_of_cells (λ (cell : Cell). cell.floor) c.args.cells.now c.args.run.now (map (cell_at c.args.cells.now) c.args.run.now) c.loop-at.at-index
    c.loop-at-test.false refl
