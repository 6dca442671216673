-- Bounds: what the measures of places come to at least, by which tiles, storeys and polygons are passed over.
use Rattle.std.specs.Prelude.{ℕ, ◌+◌, ◌-◌, ◌*◌, ◌<◌, ◌≤◌, pos, ◌+ℤ◌, ◌-ℤ◌, min, Option, Some, None}
use Rattle.nav_base.specs.declared.point.Point.{Point}
use Rattle.nav_base.specs.Deviation.{square_of}
use Rattle.nav_base.specs.Point.{from_to}
use Rattle.mesh_types.specs.declared.extent.Extent.{Extent}
use Rattle.mesh_types.specs.declared.mesh.Mesh.{Mesh}
use Rattle.mesh_types.specs.declared.reaches.FloorReach.{FloorReach}
use Rattle.mesh_types.specs.declared.storeys.MeshPlace.{MeshPlace}
use Rattle.mesh_types.specs.BorderLinks.{scaled}
use Rattle.mesh_types.specs.Places.{Stands}
use Rattle.mesh_types.specs.Reaches.{IsBetween}
use Rattle.mesh_locate.specs.Nearest.{IsFrom}
use Rattle.mesh_place.specs.declared.bounds.ReachSquare.{ReachSquare}
use Rattle.mesh_place.specs.declared.near.Near.{Near}
use Rattle.mesh_place.specs.Floors.{height_off}
use Rattle.mesh_place.specs.Nearest.{IsInReach, measure, off_by}
use Rattle.mesh_place.specs.Searches.{IsHeightNear}

-- what the height of a floor that is so far off adds to the measure
abbrev pub height_part : ℕ → Near → ℕ → ℕ
height_part climb asked off =
    let over = asked.weight * (off - climb) in
    over * over

-- the height of each of some places that stand and are in reach adds at least so much to its measure
abbrev pub AddAtLeast : Mesh → Near → ℕ → (MeshPlace → Type 0) → Type 0
AddAtLeast mesh asked part among =
    (other : MeshPlace) → Stands mesh other → IsInReach mesh asked other → among other
    → part ≤ height_part mesh.setting.agent.climb asked (off_by asked other)

-- what a floor between two adds at least; none where no such floor is in reach in height
abbrev pub IsLeastPart : ℕ → Near → FloorReach → Option ℕ → Type 0
IsLeastPart climb asked floors None = (y : ℕ) → IsBetween floors y → IsHeightNear asked y → ⊥
IsLeastPart climb asked floors (Some part) = (y : ℕ) → IsBetween floors y → part ≤ height_part climb asked (height_off asked.y y)

-- a place so far from the point, whose height adds at least so much, is out of reach or has a greater measure than what was found
abbrev pub IsBeyond : ℕ → Near → ℕ → ℕ → Option MeshPlace → Type 0
IsBeyond climb asked gap part None = asked.reach * asked.reach < gap
IsBeyond climb asked gap part (Some best) = min (asked.reach * asked.reach + part) (measure climb asked best) < gap + part

-- no place farther from the point is looked for, if the heights add at least so much: the square of the reach, and what the measure of what was
-- found leaves, if that is less
abbrev pub limit_of : ℕ → Near → ℕ → Option MeshPlace → ℕ
limit_of climb asked part None = asked.reach * asked.reach
limit_of climb asked part (Some best) = min (asked.reach * asked.reach) (measure climb asked best - part)

-- a place no farther from the point than a reach
abbrev pub IsNearTo : Near → ℕ → MeshPlace → Type 0
IsNearTo asked reach place = square_of (from_to asked.point place.point) ≤ reach * reach

-- the square with a point in its middle
abbrev pub square_around : Point → ℕ → ReachSquare
square_around p reach = record {
  reach = reach;
  low = record { x = p.x -ℤ pos reach; z = p.z -ℤ pos reach };
  high = record { x = p.x +ℤ pos reach; z = p.z +ℤ pos reach };
}

-- a box of whole cells has a point in a square
pub record Meets (square : ReachSquare) (box : Extent) : Type 0 where
  pub begins : IsFrom (scaled box.low.x box.low.z) square.high
  pub ends : IsFrom square.low (scaled box.high.x box.high.z)
