-- Draws: which place a number draws, and the right answers to the question for it.
use Rattle.std.specs.Prelude.{◌≡◌, ℕ, ◌+◌, ◌*◌, ◌/◌, ◌^◌, ◌≤◌, pos, [], length, Option, Some, None, option_and_then, slice_get}
use Rattle.nav_base.specs.declared.point.Point.{Point}
use Rattle.mesh_types.specs.declared.links.PolyRef.{PolyRef}
use Rattle.mesh_types.specs.declared.mesh.Mesh.{Mesh}
use Rattle.mesh_types.specs.declared.mesh.TileMesh.{TileMesh}
use Rattle.mesh_types.specs.declared.polygon.Polygon.{Polygon}
use Rattle.mesh_types.specs.declared.storeys.MeshPlace.{MeshPlace}
use Rattle.mesh_types.specs.Located.{Holds}
use Rattle.mesh_types.specs.Places.{Stands}
use Rattle.mesh_types.specs.Rays.{IsHeldAt}
use Rattle.random_place.specs.declared.draws.DrawPlace.{DrawPlace}
use Rattle.random_place.specs.declared.draws.DrawAnswer.{DrawAnswer}
use Rattle.random_place.specs.declared.draws.DrawAnswer.TheVariants.{Drawn, Cut, Nowhere}
use Rattle.random_place.specs.declared.spots.StoreyCell.{StoreyCell}
use Rattle.random_place.specs.Spots.{spots_of}

-- the spot that a draw, a number below 2^64, names: of n spots the one with the number draw * n / 2^64, rounded down
abbrev pub spot_drawn : Mesh → DrawPlace → Option StoreyCell
spot_drawn mesh asked =
    let spots = spots_of mesh asked.areas in
    slice_get spots (asked.draw * length spots / 2 ^ 64)

-- the middle of a spot's cell, in sixteenths
abbrev pub middle_of : StoreyCell → Point
middle_of spot = record { x = pos (16 * spot.x + 8); z = pos (16 * spot.z + 8) }

-- the place of the storey of the polygon that a reference names, among the storeys of its tile
abbrev pub home_at : Mesh → PolyRef → Option ℕ
home_at mesh at = option_and_then (λ (tile : TileMesh). slice_get tile.storeys.homes at.index) (slice_get mesh.tiles at.tile)

-- a polygon is over a spot: it is of the spot's tile and storey, and holds the middle of its cell
pub record IsOver (mesh : Mesh) (spot : StoreyCell) (at : PolyRef) : Type 0 where
  pub tile : at.tile ≡ spot.tile
  pub home : home_at mesh at ≡ Some spot.storey
  pub held : IsHeldAt mesh (middle_of spot) at

-- of the polygons over a spot the first in its tile; none where there is none
abbrev pub IsFirstOver : Mesh → StoreyCell → Option PolyRef → Type 0
IsFirstOver mesh spot None = (at : PolyRef) → IsOver mesh spot at → ⊥
IsFirstOver mesh spot (Some at) = IsOver mesh spot at × ((other : PolyRef) → IsOver mesh spot other → at.index ≤ other.index)

-- the place over a spot: in the first polygon over it, at the middle of its cell, on its floor
pub record IsPlaceOver (mesh : Mesh) (spot : StoreyCell) (place : MeshPlace) : Type 0 where
  pub first : IsFirstOver mesh spot (Some place.polygon)
  pub middle : place.point ≡ middle_of spot
  pub floor : place.y ≡ spot.floor

-- right answers: the place over the spot that is drawn; cut where no polygon is over it; nowhere where there is no spot
abbrev pub IsRightDraw : Mesh → DrawPlace → DrawAnswer → Type 0
IsRightDraw mesh asked (Drawn place) = (spot : StoreyCell) × (spot_drawn mesh asked ≡ Some spot) × IsPlaceOver mesh spot place
IsRightDraw mesh asked Cut = (spot : StoreyCell) × (spot_drawn mesh asked ≡ Some spot) × IsFirstOver mesh spot None
IsRightDraw mesh asked Nowhere = spots_of mesh asked.areas ≡ []

-- where a place is drawn it stands
abbrev pub TellsStanding : Mesh → DrawAnswer → Type 0
TellsStanding mesh (Drawn place) = Stands mesh place
TellsStanding mesh Cut = Unit {0}
TellsStanding mesh Nowhere = Unit {0}

-- the answer at the spot that is drawn
abbrev pub IsAnswerAt : Mesh → StoreyCell → DrawAnswer → Type 0
IsAnswerAt mesh spot (Drawn place) = IsPlaceOver mesh spot place
IsAnswerAt mesh spot Cut = IsFirstOver mesh spot None
IsAnswerAt mesh spot Nowhere = ⊥

-- a polygon of a tile is over a spot of the tile
pub record IsOverIn (tile : TileMesh) (index : ℕ) (spot : StoreyCell) : Type 0 where
  pub home : slice_get tile.storeys.homes index ≡ Some spot.storey
  pub polygon : Polygon
  pub there : slice_get tile.polys index ≡ Some polygon
  pub holds : Holds polygon (middle_of spot)
