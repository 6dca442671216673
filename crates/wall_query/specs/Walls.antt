-- Walls: those around a place, and the nearest.
use Rattle.std.specs.Prelude.{◌≡◌, ◌≢◌, ℕ, ◌*◌, ◌-◌, ◌<◌, ◌⊎◌, ◌↔◌, ◌<ℤ◌, List, Option, Some, None, Contains, get_or}
use Rattle.std.specs.List.Sorted.{IsSortedBy}
use Rattle.std.specs.Ordering.{is_lt}
use Rattle.nav_base.specs.declared.deviation.Deviation.{Deviation}
use Rattle.nav_base.specs.declared.point.Point.{Point}
use Rattle.nav_base.specs.Deviation.{IsLess, deviation_of}
use Rattle.nav_base.specs.Point.{HasCoordinates}
use Rattle.mesh_types.specs.declared.links.PolyRef.{PolyRef}
use Rattle.mesh_types.specs.declared.mesh.Mesh.{Mesh}
use Rattle.mesh_types.specs.declared.polygon.Polygon.{Polygon}
use Rattle.mesh_types.specs.LinkOrder.{poly_cmp}
use Rattle.mesh_types.specs.Places.{IsPlace}
use Rattle.mesh_types.specs.WholeMesh.{poly_at}
use Rattle.wall_slide.specs.Slides.{IsNoFarther, whole}
use Rattle.wall_query.specs.declared.around.Around.{Around}
use Rattle.wall_query.specs.declared.parts.PolygonEdge.{PolygonEdge}
use Rattle.wall_query.specs.declared.questions.Wall.{Wall}
use Rattle.wall_query.specs.declared.questions.WallAnswer.{WallAnswer}
use Rattle.wall_query.specs.declared.questions.WallAnswer.TheVariants.{Nearest, NoWall, NoStart}
use Rattle.wall_query.specs.declared.questions.WallQuery.{WallQuery}
use Rattle.wall_query.specs.Around.{IsAround}
use Rattle.wall_query.specs.Lists.{Adds, IsInOrder}
use Rattle.wall_query.specs.Parts.{IsWallPart, far_along, far_on}

-- what may be asked: a point with coordinates, and a reach below its limit
pub record CanAskWall (asked : WallQuery) : Type 0 where
  pub from : HasCoordinates asked.from.point
  pub reach : asked.reach < 262144

-- a wall, with how far it is from a point, no farther than a distance
pub record IsWallWithin (mesh : Mesh) (areas : ℕ) (p : Point) (most : Deviation) (wall : Wall) : Type 0 where
  pub part : IsWallPart mesh areas wall.polygon wall.edge wall.begin wall.end
  pub distance : wall.far ≡ deviation_of wall.begin wall.end p
  pub within : IsNoFarther wall.far most

-- a wall within the reach
abbrev pub IsInReach : Mesh → WallQuery → Wall → Type 0
IsInReach mesh asked wall = IsWallWithin mesh asked.areas asked.from.point (whole (asked.reach * asked.reach)) wall

-- a wall is reached: it is within the reach, and links lead to its polygon through portals that are no farther from the place than the wall is
pub record IsReached (mesh : Mesh) (asked : WallQuery) (wall : Wall) : Type 0 where
  pub wall_within : IsInReach mesh asked wall
  pub around : IsAround mesh asked.areas asked.from wall.far wall.polygon

-- the nearest wall: it is reached, and none that is reached is nearer
pub record IsNearestWall (mesh : Mesh) (asked : WallQuery) (wall : Wall) : Type 0 where
  pub start : IsPlace mesh asked.from
  pub reached : IsReached mesh asked wall
  pub nearest : (other : Wall) → IsReached mesh asked other → IsNoFarther wall.far other.far

-- right answers: the nearest wall; no wall where none is reached; and no start where the start is no place
abbrev pub IsRightWall : Mesh → WallQuery → WallAnswer → Type 0
IsRightWall mesh asked (Nearest wall) = IsNearestWall mesh asked wall
IsRightWall mesh asked NoWall = IsPlace mesh asked.from × ((wall : Wall) → IsReached mesh asked wall → ⊥)
IsRightWall mesh asked NoStart = IsPlace mesh asked.from → ⊥

-- a wall begins before another along its edge
abbrev pub IsEarlierOn : Mesh → Wall → Wall → Type 0
IsEarlierOn mesh a b = (polygon : Polygon) → poly_at mesh a.polygon ≡ Some polygon → far_along polygon a.edge a.begin <ℤ far_along polygon a.edge b.begin

-- a wall comes before another: by tile and polygon, by edge, and along the edge
abbrev pub ComesBefore : Mesh → Wall → Wall → Type 0
ComesBefore mesh a b =
    (a.polygon.tile < b.polygon.tile) ⊎ ((a.polygon.tile ≡ b.polygon.tile) × ((a.polygon.index < b.polygon.index)
    ⊎ ((a.polygon.index ≡ b.polygon.index) × ((a.edge < b.edge) ⊎ ((a.edge ≡ b.edge) × IsEarlierOn mesh a b)))))

-- a wall within the distance that is looked at
abbrev pub IsWallAround : Mesh → Around → Wall → Type 0
IsWallAround mesh around wall = IsWallWithin mesh around.areas around.from.point around.far wall

-- walls were appended, in order: those within the distance of a kind
abbrev pub AddsWalls : Mesh → Around → (Wall → Type 0) → List Wall → List Wall → Type 0
AddsWalls mesh around among old new = Adds (ComesBefore mesh) (λ wall. IsWallAround mesh around wall × among wall) old new

-- a wall is on an edge
abbrev pub IsOn : PolygonEdge → Wall → Type 0
IsOn edge wall = (wall.polygon ≡ edge.polygon) × (wall.edge ≡ edge.edge)

-- the wall on an edge from one point to another, if it has a length and is within the distance
pub record IsWallBetween (around : Around) (edge : PolygonEdge) (a b : Point) (wall : Wall) : Type 0 where
  pub is : wall ≡ record { polygon = edge.polygon; edge = edge.edge; begin = a; end = b; far = deviation_of a b around.from.point }
  pub forward : far_on edge a <ℤ far_on edge b
  pub within : IsNoFarther wall.far around.far

abbrev pub IsWallIfAny : Around → PolygonEdge → Point → Point → Option Wall → Type 0
IsWallIfAny around edge a b None = (wall : Wall) → IsWallBetween around edge a b wall → ⊥
IsWallIfAny around edge a b (Some wall) = IsWallBetween around edge a b wall

-- exactly the walls within the distance of the polygons of a list
abbrev pub HasWallsOf : Mesh → Around → List PolyRef → List Wall → Type 0
HasWallsOf mesh around list walls = (wall : Wall) → Contains walls wall ↔ (IsWallAround mesh around wall × Contains list wall.polygon)

-- polygons stand in order: none comes before an earlier one
abbrev pub ArePolygonsInOrder : List PolyRef → Type 0
ArePolygonsInOrder list = IsSortedBy (λ a b. is_lt (poly_cmp a b)) list

-- those walls, in order where the polygons stand in order
pub record AreWallsOf (mesh : Mesh) (around : Around) (list : List PolyRef) (walls : List Wall) : Type 0 where
  pub has : HasWallsOf mesh around list walls
  pub order : ArePolygonsInOrder list → IsInOrder (ComesBefore mesh) walls

-- the polygon at a place of a list is another one than that before it
abbrev pub IsFirstAt : List PolyRef → ℕ → Type 0
IsFirstAt list place = (place ≡ 0) ⊎ ((d : PolyRef) → get_or list (place - 1) d ≢ get_or list place d)

-- the nearest that is reached of some walls, if any is
pub record IsBest (mesh : Mesh) (asked : WallQuery) (among : Wall → Type 0) (best : Wall) : Type 0 where
  pub reached : IsReached mesh asked best
  pub nearest : (other : Wall) → among other → IsReached mesh asked other → IsNoFarther best.far other.far

abbrev pub IsBestOf : Mesh → WallQuery → (Wall → Type 0) → Option Wall → Type 0
IsBestOf mesh asked among None = (wall : Wall) → among wall → IsReached mesh asked wall → ⊥
IsBestOf mesh asked among (Some best) = IsBest mesh asked among best

-- a wall is nearer than the nearest so far, or the first
abbrev pub IsNearerThan : Wall → Option Wall → Type 0
IsNearerThan wall None = Unit {0}
IsNearerThan wall (Some best) = IsLess wall.far best.far

-- a nearest of the walls that are reached, or none where none is
abbrev pub IsNearestReached : Mesh → WallQuery → Option Wall → Type 0
IsNearestReached mesh asked None = (wall : Wall) → IsReached mesh asked wall → ⊥
IsNearestReached mesh asked (Some wall) = IsReached mesh asked wall × ((other : Wall) → IsReached mesh asked other → IsNoFarther wall.far other.far)

-- a nearest of the walls that are reached and within a distance, or none where none is
abbrev pub IsNearestWithin : Mesh → WallQuery → Deviation → Option Wall → Type 0
IsNearestWithin mesh asked far None = (wall : Wall) → IsReached mesh asked wall → IsNoFarther wall.far far → ⊥
IsNearestWithin mesh asked far (Some wall) =
    IsReached mesh asked wall × ((other : Wall) → IsReached mesh asked other → IsNoFarther other.far far → IsNoFarther wall.far other.far)
