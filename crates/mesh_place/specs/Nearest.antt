-- Nearest: the place nearest to a point and a height, of those that stand and are in reach.
use Rattle.std.specs.Prelude.{◌≡◌, ◌≢◌, ℕ, ◌+◌, ◌-◌, ◌*◌, ◌<◌, ◌≤◌, Bool, IsTrue, ◌==◌, Some}
use Rattle.std.specs.Int.{bit_at}
use Rattle.std.specs.Ordering.{ordering_then, nat_cmp}
use Rattle.std.specs.declared.cmp.Ordering.{Ordering}
use Rattle.std.specs.declared.cmp.Ordering.TheVariants.{Less}
use Rattle.nav_base.specs.Deviation.{square_of}
use Rattle.nav_base.specs.Point.{HasCoordinates, from_to}
use Rattle.mesh_types.specs.declared.mesh.Mesh.{Mesh}
use Rattle.mesh_types.specs.declared.polygon.Polygon.{Polygon}
use Rattle.mesh_types.specs.declared.storeys.MeshPlace.{MeshPlace}
use Rattle.mesh_types.specs.LinkOrder.{poly_cmp, point_cmp}
use Rattle.mesh_types.specs.Places.{IsPlace, Stands}
use Rattle.mesh_types.specs.WholeMesh.{poly_at}
use Rattle.mesh_place.specs.declared.near.Near.{Near}
use Rattle.mesh_place.specs.declared.near.NearAnswer.{NearAnswer}
use Rattle.mesh_place.specs.declared.near.NearAnswer.TheVariants.{Nearest, NoneInReach}
use Rattle.mesh_place.specs.Floors.{height_off}

-- what may be asked: a point with coordinates, and numbers below their limits
pub record CanAskNear (asked : Near) : Type 0 where
  pub point : HasCoordinates asked.point
  pub reach : asked.reach < 262144
  pub down : asked.down < 16384
  pub up : asked.up < 16384
  pub weight : asked.weight < 65536

-- an area is open where its bit is set
abbrev pub is_open : ℕ → ℕ → Bool
is_open areas area = bit_at areas area == 1

-- a place is in reach of what is asked: in the plane, in height, and by its area
pub record IsInReach (mesh : Mesh) (asked : Near) (place : MeshPlace) : Type 0 where
  pub flat : square_of (from_to asked.point place.point) ≤ asked.reach * asked.reach
  pub low : asked.y ≤ place.y + asked.down
  pub high : place.y ≤ asked.y + asked.up
  pub polygon : Polygon
  pub there : poly_at mesh place.polygon ≡ Some polygon
  pub area : IsTrue (is_open asked.areas polygon.area)

-- how far a floor is from the height asked for
abbrev pub off_by : Near → MeshPlace → ℕ
off_by asked place = height_off asked.y place.y

-- the measure: the square of the distance in the plane, and that of what the floor is further off than an agent climbs, times the weight
abbrev pub measure : ℕ → Near → MeshPlace → ℕ
measure climb asked place =
    let over = asked.weight * (off_by asked place - climb) in
    square_of (from_to asked.point place.point) + over * over

-- the order of places: by the measure, then by how far the floor is, then by polygon, point and floor
abbrev pub place_cmp : ℕ → Near → MeshPlace → MeshPlace → Ordering
place_cmp climb asked a b =
    ordering_then (nat_cmp (measure climb asked a) (measure climb asked b)) (ordering_then (nat_cmp (off_by asked a) (off_by asked b))
    (ordering_then (poly_cmp a.polygon b.polygon) (ordering_then (point_cmp a.point b.point) (nat_cmp a.y b.y))))

-- the nearest place: it stands, is in reach, and none that does comes before it
pub record IsNearest (mesh : Mesh) (asked : Near) (place : MeshPlace) : Type 0 where
  pub stands : Stands mesh place
  pub reach : IsInReach mesh asked place
  pub first : (other : MeshPlace) → Stands mesh other → IsInReach mesh asked other
      → place_cmp mesh.setting.agent.climb asked other place ≢ Less

-- right answers: the nearest place, and none where none is in reach
abbrev pub IsRightNear : Mesh → Near → NearAnswer → Type 0
IsRightNear mesh asked (Nearest place) = IsNearest mesh asked place
IsRightNear mesh asked NoneInReach = (place : MeshPlace) → Stands mesh place → IsInReach mesh asked place → ⊥

-- where a place is told it is one of the mesh
abbrev pub TellsPlace : Mesh → NearAnswer → Type 0
TellsPlace mesh (Nearest place) = IsPlace mesh place
TellsPlace mesh NoneInReach = Unit {0}
