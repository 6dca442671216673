-- Islands: polygons that no link from outside leads to.
use Rattle.std.specs.Prelude.{◌<◌, ◌+◌, ℕ, List, [], slice_get, Contains}
use Rattle.std.specs.Int.{abs_diff}
use Rattle.std.specs.Option.{option_map_or}
use Rattle.mesh_types.specs.declared.links.PolyRef.{PolyRef}
use Rattle.mesh_types.specs.declared.links.Link.{Link}
use Rattle.mesh_types.specs.declared.mesh.TileMesh.{TileMesh}
use Rattle.mesh_types.specs.declared.mesh.Mesh.{Mesh}
use Rattle.mesh_types.specs.Corridors.{IsLinkOf}

-- the links inside a tile, and those that leave it over its border
abbrev pub inner_of : Mesh → ℕ → List Link
inner_of mesh t = option_map_or (λ (tile : TileMesh). tile.links) (slice_get mesh.tiles t) []

abbrev pub outer_of : Mesh → ℕ → List Link
outer_of mesh t = option_map_or (λ (links : List Link). links) (slice_get mesh.cross t) []

-- a link that leads to a polygon of an island leaves one
pub record IsFromInside (island : List PolyRef) (link : Link) : Type 0 where
  pub inside : Contains island link.to → Contains island link.from

-- so does each link of a mesh
pub record IsLeftAlone (mesh : Mesh) (island : List PolyRef) : Type 0 where
  pub each : (link : Link) → IsLinkOf mesh link → IsFromInside island link

-- a polygon stands in one of some tiles
pub record IsReached (tiles : List ℕ) (at : PolyRef) : Type 0 where
  pub tile : Contains tiles at.tile

-- the numbers of two tiles differ by more than a row of tiles and one, so their squares do not touch
pub record AreFar (row : ℕ) (tile other : ℕ) : Type 0 where
  pub far : row + 1 < abs_diff tile other
