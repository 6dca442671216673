-- NewTiles: tile meshes that take the places of those of a mesh.
use Rattle.std.specs.Prelude.{◌≡◌, ℕ, ◌<◌, Bool, false, ◌==◌, ◌||◌, List, map, All, AllPairs, Option, is_some, unwrap_or}
use Rattle.std.specs.List.{find}
use Rattle.std.specs.Option.{option_map, option_map_or}
use Rattle.nav_ground.specs.declared.setting.Setting.{Setting}
use Rattle.nav_ground.specs.Tiling.{tile_count}
use Rattle.mesh_types.specs.declared.mesh.TileMesh.{TileMesh}
use Rattle.mesh_types.specs.declared.mesh.Mesh.{Mesh}
use Rattle.mesh_types.specs.Soundness.{AreTiles}
use Rattle.mesh_types.specs.FitTiles.{IsFit}
use Rattle.mesh_types.specs.WholeMesh.{tile_across, mesh_of}

-- a mesh is the whole of its tiles: one fit tile mesh for each tile, and the links over their borders
pub record IsWhole (mesh : Mesh) : Type 0 where
  pub tiles : AreTiles mesh.setting mesh.tiles
  pub is : mesh ≡ mesh_of mesh.setting mesh.tiles

-- a tile mesh with the number of the tile whose place it takes
abbrev pub New : Type 0
New = ℕ × TileMesh

-- the numbers rise
abbrev pub AreRising : List New → Type 0
AreRising news = AllPairs (λ (a b : New). a.0 < b.0) news

-- new tile meshes: their numbers rise and are those of tiles, each number is its tile mesh's own, and each tile mesh is fit for the setting
pub record AreNew (setting : Setting) (news : List New) : Type 0 where
  pub rising : AreRising news
  pub there : All (λ (new : New). new.0 < tile_count setting) news
  pub own : All (λ (new : New). new.1.tile ≡ new.0) news
  pub fit : All (λ (new : New). IsFit setting new.1) news

-- the new tile mesh with a number, if there is one
abbrev pub new_tile : List New → ℕ → Option TileMesh
new_tile news number = option_map (λ (new : New). new.1) (find (λ (new : New). new.0 == number) news)

-- what stands in the place of a tile mesh once the new ones have come: the new one with its number, and itself where there is none
abbrev pub tile_after : List New → TileMesh → TileMesh
tile_after news tile = unwrap_or (new_tile news tile.tile) tile

-- tiles with the new ones in place
abbrev pub tiles_after : List New → List TileMesh → List TileMesh
tiles_after news tiles = map (tile_after news) tiles

-- there is a new tile mesh with a number; there is one for the tile across a side; there is one for a tile or for one beside it
abbrev pub is_new : List New → ℕ → Bool
is_new news number = is_some (new_tile news number)

abbrev pub is_new_across : Setting → List New → ℕ → ℕ → Bool
is_new_across setting news tile side = option_map_or (is_new news) (tile_across setting tile side) false

abbrev pub is_near_new : Setting → List New → ℕ → Bool
is_near_new setting news tile =
    is_new news tile || (is_new_across setting news tile 0 || (is_new_across setting news tile 1
    || (is_new_across setting news tile 2 || is_new_across setting news tile 3)))
