-- The cells of a field that grounds share.
use Rattle.std.specs.Prelude.{◌≡◌}
use Rattle.nav_ground.specs.declared.field.Field.{Field}
use Rattle.nav_ground.specs.declared.setting.Setting.{Setting}
use Rattle.nav_ground.specs.Cells.{IsCompact}
use Rattle.nav_ground.specs.Layers.{cells_of}
use Rattle.layer_cut.specs.declared.shared_cells.AgentCells.{AgentCells}

-- the cells of a field for each agent of a height and a climb
pub record AreCellsOf (field : Field) (made : AgentCells) : Type 0 where
  pub each : (setting : Setting) → setting.agent.height ≡ made.height → setting.agent.climb ≡ made.climb → made.cells ≡ cells_of setting field
  pub rules : IsCompact made.cells
