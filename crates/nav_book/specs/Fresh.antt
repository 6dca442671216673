-- Fresh tile meshes, which are stored and not published yet: one place a tile, empty where the stored mesh is the published one.
use Rattle.std.specs.Prelude.{◌≡◌, ℕ, ◌+◌, ◌<◌, ◌≤◌, List, [], ◌∷◌, ◌++◌, length, map, take, drop, get_or, All, Option, Some, None, unwrap_or}
use Rattle.std.specs.List.{range_with_len}
use Rattle.nav_ground.specs.declared.history.Ground.{Ground}
use Rattle.nav_ground.specs.declared.shape.Shape.{Shape}
use Rattle.nav_ground.specs.Tiling.{tile_count}
use Rattle.mesh_types.specs.declared.mesh.TileMesh.{TileMesh}
use Rattle.tile_links.specs.NewTiles.{New, AreRising, new_tile}
use Rattle.nav_book.specs.LevelResults.{tile_under}

-- the number of a tile with its fresh mesh, if it has one
abbrev pub new_at : ℕ → Option TileMesh → List New
new_at tile None = []
new_at tile (Some mesh) = (tile, mesh) ∷ []

-- the fresh tile meshes with their numbers, in order, where the first place is that of a tile
abbrev pub news_from : ℕ → List (Option TileMesh) → List New
news_from tile [] = []
news_from tile (place ∷ places) = new_at tile place ++ news_from (tile + 1) places

-- the same where the first place is that of the first tile
abbrev pub news_of : List (Option TileMesh) → List New
news_of places = news_from 0 places

-- the mesh that is at hand for a tile: its fresh one, and its published one where it has none
abbrev pub mesh_at_hand : List (Option TileMesh) → List TileMesh → ℕ → TileMesh → TileMesh
mesh_at_hand places published tile otherwise = unwrap_or (get_or places tile None) (get_or published tile otherwise)

-- the mesh at hand for each tile is its mesh under its stored shapes
abbrev pub AreStored : (ground : Ground) → List (List Shape) → List (Option TileMesh) → List TileMesh → Type 0
AreStored ground stored places published = (tile : ℕ) (otherwise : TileMesh) → tile < tile_count ground.setting
    → mesh_at_hand places published tile otherwise ≡ tile_under ground tile (get_or stored tile [])

-- the places of so many tiles, where the fresh tile meshes are those of a list
abbrev pub places_of : ℕ → List New → List (Option TileMesh)
places_of tiles news = map (new_tile news) (range_with_len 0 tiles)

-- such a list as it is kept: the numbers rise and are those of tiles, and there is room for a mesh of each
pub record AreKeptFresh (tiles room : ℕ) (news : List New) : Type 0 where
  pub rising : AreRising news
  pub there : All (λ (new : New). new.0 < tiles) news
  pub enough : tiles ≤ room

-- the mesh of a tile stands at a place of a list
pub record IsPlaceOf (news : List New) (tile place : ℕ) : Type 0 where
  pub there : place < length news
  pub number : (d : New) → (get_or news place d).0 ≡ tile

-- a list has none, and those before a place are of lower tiles, the others of higher ones
pub record IsGapFor (news : List New) (tile place : ℕ) : Type 0 where
  pub within : place ≤ length news
  pub low : All (λ (new : New). new.0 < tile) (take place news)
  pub high : All (λ (new : New). tile < new.0) (drop place news)
