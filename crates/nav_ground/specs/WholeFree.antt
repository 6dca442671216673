-- What shapes leave free of a whole field, without tiles.
use Rattle.std.specs.Prelude.{if◌then◌else◌, List, filter}
use Rattle.nav_ground.specs.declared.setting.Setting.{Setting}
use Rattle.nav_ground.specs.declared.field.Field.{Field}
use Rattle.nav_ground.specs.declared.cell.Cell.{Cell}
use Rattle.nav_ground.specs.declared.shape.Shape.{Shape}
use Rattle.nav_ground.specs.Clearance.{kept_cells}
use Rattle.nav_ground.specs.FreeCells.{is_unblocked}
use Rattle.nav_ground.specs.Layers.{cells_of, kept_cells_of}

-- the cells of a whole field that shapes leave free: where the setting says clear, those that no shape blocks and that keep the agent's radius
-- among all that none blocks; else the kept cells that no shape blocks
abbrev pub whole_free : Setting → Field → List Shape → List Cell
whole_free setting field shapes =
    if setting.clear then kept_cells (filter (is_unblocked shapes) (cells_of setting field)) setting.agent.radius
    else filter (is_unblocked shapes) (kept_cells_of setting field)
