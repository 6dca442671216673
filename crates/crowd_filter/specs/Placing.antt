-- Placing: in which polygon of a mesh an agent is placed anew, where the mesh may be another than before.
use Rattle.std.specs.Prelude.{◌≡◌, ℕ, ◌-◌, ◌*◌, ◌/◌, ◌%◌, ◌<◌, ◌≤◌, ◌⊎◌, max, true, false, Option, Some, None}
use Rattle.nav_base.specs.declared.point.Point.{Point}
use Rattle.nav_ground.specs.declared.setting.Setting.{Setting}
use Rattle.nav_ground.specs.Tiling.{tiles_in_row}
use Rattle.mesh_types.specs.declared.links.PolyRef.{PolyRef}
use Rattle.mesh_types.specs.declared.mesh.Mesh.{Mesh}
use Rattle.mesh_types.specs.declared.polygon.Polygon.{Polygon}
use Rattle.mesh_types.specs.Located.{IsNoLater}
use Rattle.mesh_types.specs.WholeMesh.{poly_at}
use Rattle.mesh_locate.specs.Places.{Reaches}
use Rattle.fine_walk.specs.FineRays.{FineHolds, low_at, high_at}
use Rattle.crowd_moves.specs.declared.agents.CrowdAgent.{CrowdAgent}
use Rattle.crowd_filter.specs.declared.placing.FittingPolygon.{FittingPolygon}
use Rattle.crowd_filter.specs.declared.tiles.TilesAlong.{TilesAlong}

-- how far the floors of a polygon are from those that an agent had
abbrev pub floors_gap : Polygon → CrowdAgent → ℕ
floors_gap polygon a = max (polygon.low - a.high) (a.low - polygon.high)

-- a polygon fits an agent: it holds its middle, and its floors are no farther than a climb from those that it had
pub record Fits (mesh : Mesh) (a : CrowdAgent) (at : PolyRef) : Type 0 where
  pub polygon : Polygon
  pub there : poly_at mesh at ≡ Some polygon
  pub holds : FineHolds polygon a.at
  pub near : floors_gap polygon a ≤ mesh.setting.agent.climb

-- the closed square of a tile reaches a fine point
pub record DoesTileReach (setting : Setting) (p : Point) (tile : ℕ) : Type 0 where
  pub across : Reaches (256 * setting.tile) (tile % tiles_in_row setting) p.x
  pub along : Reaches (256 * setting.tile) (tile / tiles_in_row setting) p.z

-- the polygon that fits an agent best, of those in the tiles that reach its middle: with the nearest floors, and of equally near ones the first
pub record IsBestFit (mesh : Mesh) (a : CrowdAgent) (at : PolyRef) : Type 0 where
  pub fits : Fits mesh a at
  pub first : (other : PolyRef) (fit : Fits mesh a other) → DoesTileReach mesh.setting a.at other.tile
      → IsNoLater (floors_gap fits.polygon a) at (floors_gap fit.polygon a) other

-- an agent in a polygon, with its floors
abbrev pub placed_in : Mesh → CrowdAgent → PolyRef → CrowdAgent
placed_in mesh a at = record a { polygon = at; low = low_at mesh at; high = high_at mesh at; stranded = false }

-- an agent placed anew: in its own polygon, if that fits it; else in the one that fits best; else it is stranded. All else is as it was
pub record IsKept (mesh : Mesh) (a b : CrowdAgent) : Type 0 where
  pub fits : Fits mesh a a.polygon
  pub placed : b ≡ placed_in mesh a a.polygon

pub record IsMovedOver (mesh : Mesh) (a b : CrowdAgent) : Type 0 where
  pub left : Fits mesh a a.polygon → ⊥
  pub at : PolyRef
  pub best : IsBestFit mesh a at
  pub placed : b ≡ placed_in mesh a at

pub record IsStranded (mesh : Mesh) (a b : CrowdAgent) : Type 0 where
  pub left : Fits mesh a a.polygon → ⊥
  pub none : (other : PolyRef) → Fits mesh a other → DoesTileReach mesh.setting a.at other.tile → ⊥
  pub placed : b ≡ record a { stranded = true }

abbrev pub IsPlacedAnew : Mesh → CrowdAgent → CrowdAgent → Type 0
IsPlacedAnew mesh a b = IsKept mesh a b ⊎ (IsMovedOver mesh a b ⊎ IsStranded mesh a b)

-- ---- what a search has found

-- a polygon that fits, with its gap
pub record IsFitting (mesh : Mesh) (a : CrowdAgent) (found : FittingPolygon) : Type 0 where
  pub fits : Fits mesh a found.at
  pub gap : found.gap ≡ floors_gap fits.polygon a

abbrev pub IsFoundFit : Mesh → CrowdAgent → Option FittingPolygon → Type 0
IsFoundFit mesh a None = Unit {0}
IsFoundFit mesh a (Some found) = IsFitting mesh a found

-- what was found is nothing later than a polygon with a gap
abbrev pub IsAsGood : Option FittingPolygon → ℕ → PolyRef → Type 0
IsAsGood None gap at = ⊥
IsAsGood (Some found) gap at = IsNoLater found.gap found.at gap at

-- a search went on among some polygons: what it found fits, and nothing that it had found or that is among them and fits is better
pub record IsSearchedAmong (mesh : Mesh) (a : CrowdAgent) (among : PolyRef → Type 0) (had found : Option FittingPolygon) : Type 0 where
  pub fitting : IsFoundFit mesh a found
  pub kept : (before : FittingPolygon) → had ≡ Some before → IsAsGood found before.gap before.at
  pub all : (other : PolyRef) (fit : Fits mesh a other) → among other → IsAsGood found (floors_gap fit.polygon a) other

-- a place is one of some successive ones
pub record IsAlong (places : TilesAlong) (place : ℕ) : Type 0 where
  pub first : places.first ≤ place
  pub end : place < places.end

-- a polygon of a tile before a place
pub record IsInTileBefore (tile end : ℕ) (at : PolyRef) : Type 0 where
  pub in_tile : at.tile ≡ tile
  pub before : at.index < end

-- a polygon in a row of tiles, in columns from one to before another
pub record IsInColumns (row_length row first end : ℕ) (at : PolyRef) : Type 0 where
  pub in_row : at.tile / row_length ≡ row
  pub from : first ≤ at.tile % row_length
  pub below : at.tile % row_length < end

-- a polygon in rows of tiles from one to before another, in some columns
pub record IsInRows (row_length first end column_first column_end : ℕ) (at : PolyRef) : Type 0 where
  pub from : first ≤ at.tile / row_length
  pub below : at.tile / row_length < end
  pub column_from : column_first ≤ at.tile % row_length
  pub column_below : at.tile % row_length < column_end
