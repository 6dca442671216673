-- Changed tiles: those that an obstacle touches which is there after exactly one of two lengths of a history.
use Rattle.std.specs.Prelude.{◌≡◌, ℕ, ◌<◌, not, List, Some, slice_get, Contains, ◌↔◌}
use Rattle.nav_ground.specs.declared.history.Entry.{Entry}
use Rattle.nav_ground.specs.declared.history.Ground.{Ground}
use Rattle.nav_ground.specs.declared.shape.Shape.{Shape}
use Rattle.nav_ground.specs.History.{is_alive, shape_of}
use Rattle.nav_ground.specs.Tiling.{tile_count}
use Rattle.nav_ground.specs.Touching.{Touches}
use Rattle.mesh_types.specs.declared.links.Link.{Link}
use Rattle.mesh_types.specs.declared.mesh.Mesh.{Mesh}
use Rattle.mesh_types.specs.Corridors.{IsLinkOf}

-- an obstacle of this shape is there after exactly one of two lengths of a history
pub record IsThereOnce (history : List Entry) (a b : ℕ) (shape : Shape) : Type 0 where
  pub number : ℕ
  pub is : shape_of history number ≡ Some shape
  pub once : is_alive history a number ≡ not (is_alive history b number)

-- a tile of a ground is changed where such an obstacle touches it
pub record IsChanged (ground : Ground) (history : List Entry) (a b tile : ℕ) : Type 0 where
  pub there : tile < tile_count ground.setting
  pub shape : Shape
  pub once : IsThereOnce history a b shape
  pub touches : Touches ground.setting tile shape

-- each tile but those of a list has the same polygons, links and free cells in two meshes
abbrev pub HasSameTiles : List ℕ → Mesh → Mesh → Type 0
HasSameTiles changed before after = (tile : ℕ) → (Contains changed tile → ⊥) → slice_get before.tiles tile ≡ slice_get after.tiles tile

-- the links from each tile but those of a list to each tile but those are the same in two meshes
abbrev pub HasSameLinks : List ℕ → Mesh → Mesh → Type 0
HasSameLinks changed before after =
    (link : Link) → (Contains changed link.from.tile → ⊥) → (Contains changed link.to.tile → ⊥) → IsLinkOf before link ↔ IsLinkOf after link
