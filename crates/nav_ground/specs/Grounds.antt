-- Grounds: a setting, the field of its size, and the layers of its tiles.
use Rattle.std.specs.Prelude.{◌≡◌, All}
use Rattle.nav_ground.specs.declared.setting.Setting.{Setting}
use Rattle.nav_ground.specs.declared.field.Field.{Field}
use Rattle.nav_ground.specs.declared.cell.Cell.{Cell}
use Rattle.nav_ground.specs.declared.cell.Layer.{Layer}
use Rattle.nav_ground.specs.declared.history.Ground.{Ground}
use Rattle.nav_ground.specs.Limits.{IsSetting}
use Rattle.nav_ground.specs.Fields.{IsField}
use Rattle.nav_ground.specs.Cells.{IsLayer, IsInTile}
use Rattle.nav_ground.specs.Tiling.{tile_window, widened, margin_of, IsInWindow}
use Rattle.nav_ground.specs.Layers.{layers_of}

-- a field has the size that the setting says
pub record IsSized (setting : Setting) (field : Field) : Type 0 where
  pub width : field.width ≡ setting.width
  pub depth : field.depth ≡ setting.depth

-- a layer of a ground with a setting keeps the rules of layers, its tile is one of the ground, and its cells lie in it
pub record IsLayerOf (setting : Setting) (layer : Layer) : Type 0 where
  pub rules : IsLayer layer
  pub inside : IsInTile setting layer.tile layer.cells

-- the wide cells of a layer of a ground lie in its tile or so near it as agents keep from obstacles
abbrev pub IsWideWithin : Setting → Layer → Type 0
IsWideWithin setting layer =
    All (λ (cell : Cell). IsInWindow (widened (tile_window setting layer.tile) (margin_of setting)) cell.at.x cell.at.z) layer.wide

-- a ground keeps the rules of its parts, its field has the size that the setting says, and its layers are those of its field
pub record IsGround (ground : Ground) : Type 0 where
  pub setting : IsSetting ground.setting
  pub field : IsField ground.field
  pub sized : IsSized ground.setting ground.field
  pub layers : ground.layers ≡ layers_of ground.setting ground.field
