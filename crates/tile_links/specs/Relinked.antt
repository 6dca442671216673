-- Relinked: the lists of links of a mesh while new tile meshes come, some of them made again.
use Rattle.std.specs.Prelude.{◌≡◌, ℕ, ◌<◌, Bool, true, false, List, length, get_or, slice_index_or}
use Rattle.nav_ground.specs.declared.setting.Setting.{Setting}
use Rattle.mesh_types.specs.declared.links.Link.{Link}
use Rattle.mesh_types.specs.declared.mesh.TileMesh.{TileMesh}
use Rattle.mesh_types.specs.WholeMesh.{cross_links}
use Rattle.tile_links.specs.KeptLinks.{KeepsOld}
use Rattle.tile_links.specs.NewTiles.{New, is_new}

-- each tile mesh stands at the place of its number
abbrev pub AreInOrder : List TileMesh → Type 0
AreInOrder tiles = (t : ℕ) (d : TileMesh) → t < length tiles → (get_or tiles t d).tile ≡ t

-- of the links of each tile that is not new, those that lead to old tiles are those over the sides across which none is new
abbrev pub ComeBeside : Setting → List New → List TileMesh → List (List Link) → Type 0
ComeBeside setting news tiles cross = (t : ℕ) (d : List Link) (e : TileMesh) → t < length tiles → is_new news t ≡ false
    → KeepsOld setting news tiles (get_or tiles t e) (get_or cross t d)

-- lists beside the tiles, of which those that are done are the links that leave the tile, and the others are as they were
pub record AreRelinked (setting : Setting) (tiles : List TileMesh) (cross : List (List Link)) (done : List Bool) (after : List (List Link)) : Type 0 where
  pub marks : length done ≡ length tiles
  pub beside : length after ≡ length tiles
  pub made : (t : ℕ) (d : List Link) (e : TileMesh) → slice_index_or done t false ≡ true → get_or after t d ≡ cross_links setting tiles (get_or tiles t e)
  pub others : (t : ℕ) (d : List Link) → slice_index_or done t false ≡ false → get_or after t d ≡ get_or cross t d
