-- Marks of the tiles that are replaced or lie beside one that is.
use Rattle.std.specs.Prelude.{◌≡◌, ℕ, ◌<◌, Bool, true, false, List, Some, slice_index_or}
use Rattle.nav_ground.specs.declared.setting.Setting.{Setting}
use Rattle.mesh_types.specs.WholeMesh.{tile_across}

-- the tile across a side of a tile is marked, if there is one
abbrev pub IsMarkedAcross : Setting → List Bool → ℕ → ℕ → Type 0
IsMarkedAcross setting near tile side = (other : ℕ) → tile_across setting tile side ≡ Some other → slice_index_or near other false ≡ true

-- a tile is marked, and those across its sides
pub record IsMarked (setting : Setting) (near : List Bool) (tile : ℕ) : Type 0 where
  pub own : slice_index_or near tile false ≡ true
  pub beside : (side : ℕ) → side < 4 → IsMarkedAcross setting near tile side
