-- Corners: the turns of a line through portals as places of the mesh.
use Rattle.std.specs.Prelude.{◌≡◌, ℕ, List, [], ◌∷◌, ◌++◌, Option, None, Some, slice_get}
use Rattle.std.specs.List.{AllZip}
use Rattle.nav_base.specs.declared.point.Point.{Point}
use Rattle.mesh_types.specs.declared.answers.Corner.{Corner}
use Rattle.mesh_types.specs.declared.links.Link.{Link}
use Rattle.mesh_types.specs.declared.mesh.Mesh.{Mesh}
use Rattle.mesh_types.specs.declared.storeys.MeshPlace.{MeshPlace}
use Rattle.mesh_types.specs.declared.storeys.Storey.{Storey}
use Rattle.mesh_types.specs.Places.{IsHighestAt, storey_at}
use Rattle.mesh_types.specs.Rays.{IsHeldAt}

-- the floor told at a point of a polygon: the highest of its storey there, which is that of the nearest cell; 0 for a polygon without a storey
abbrev pub IsFloorTold : Option Storey → Point → ℕ → Type 0
IsFloorTold None p y = y ≡ 0
IsFloorTold (Some storey) p y = (aside : ℕ) × IsHighestAt storey p y aside

-- a turn as a place: it lies in the polygon that its link enters, which holds it
pub record IsCornerPlace (mesh : Mesh) (links : List Link) (turn : Corner) (place : MeshPlace) : Type 0 where
  pub link : Link
  pub named : slice_get links turn.portal ≡ Some link
  pub polygon : place.polygon ≡ link.to
  pub point : place.point ≡ turn.at
  pub held : IsHeldAt mesh place.point place.polygon
  pub floor : IsFloorTold (storey_at mesh place.polygon) place.point place.y

-- the corners of a line from one place to another: the one, each turn in order, the other
pub record AreCorners (mesh : Mesh) (from goal : MeshPlace) (links : List Link) (turns : List Corner) (corners : List MeshPlace) : Type 0 where
  pub inner : List MeshPlace
  pub whole : corners ≡ from ∷ (inner ++ goal ∷ [])
  pub each : AllZip (IsCornerPlace mesh links) turns inner
