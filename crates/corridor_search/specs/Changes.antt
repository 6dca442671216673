-- Changes: a mesh in which tiles were replaced, and heights over landmarks that were written for it.
use Rattle.std.specs.Prelude.{◌≡◌, ℕ, ◌+◌, ◌≤◌, ◌⊎◌, List, [], slice_get, slice_index_or, Contains}
use Rattle.std.specs.Int.{abs_diff}
use Rattle.mesh_types.specs.declared.links.Link.{Link}
use Rattle.mesh_types.specs.declared.mesh.Mesh.{Mesh}
use Rattle.mesh_types.specs.Corridors.{IsLinkOf}
use Rattle.corridor_search.specs.Landmarks.{Heights, IsGentle}

-- two meshes differ in some tiles at most: they have one setting, their other tiles are the same, and a link of the second that touches none
-- of those tiles is one of the first
pub record DifferIn (news : List ℕ) (before after : Mesh) : Type 0 where
  pub one : after.setting ≡ before.setting
  pub others : (t : ℕ) → (Contains news t → ⊥) → slice_get after.tiles t ≡ slice_get before.tiles t
  pub between : (link : Link) → (Contains news link.from.tile → ⊥) → (Contains news link.to.tile → ⊥) → IsLinkOf after link → IsLinkOf before link

-- heights are those that were there, but in some tiles
pub record AreSameBut (written : List ℕ) (old marks : Heights) : Type 0 where
  pub rows : (t : ℕ) → (Contains written t → ⊥) → slice_index_or marks t [] ≡ slice_index_or old t []

-- the links of a mesh that leave a polygon of a tile or enter one are gentle
pub record AreGentleAround (mesh : Mesh) (marks : Heights) (tile : ℕ) : Type 0 where
  pub each : (link : Link) → IsLinkOf mesh link → (link.from.tile ≡ tile) ⊎ (link.to.tile ≡ tile) → IsGentle mesh marks link

-- a link is gentle if it enters a polygon of a tile
pub record IsGentleInto (mesh : Mesh) (marks : Heights) (tile : ℕ) (link : Link) : Type 0 where
  pub gentle : link.to.tile ≡ tile → IsGentle mesh marks link

-- the number of a tile is a given one, or the one before or behind
pub record IsNear (middle t : ℕ) : Type 0 where
  pub near : abs_diff t middle ≤ 1

-- so it is to the number of another tile, or to that of the tile before or behind this one by a row of tiles
pub record IsBeside (row tile t : ℕ) : Type 0 where
  pub beside : IsNear tile (t + row) ⊎ (IsNear tile t ⊎ IsNear (tile + row) t)
