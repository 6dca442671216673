-- Floors: the floor of a storey at a point that is nearest to a height.
use Rattle.std.specs.Prelude.{◌≡◌, ℕ, ◌+◌, ◌-◌, ◌<◌, ◌≤◌, ◌⊎◌, max, min, Bool, true}
use Rattle.std.specs.Prelude.{◌||◌, ◌&&◌, ◌==◌, nat_lt, if◌then◌else◌, Option, Some, None, length, get_or}
use Rattle.nav_base.specs.declared.point.Point.{Point}
use Rattle.mesh_types.specs.declared.storeys.FloorRow.{FloorRow}
use Rattle.mesh_types.specs.declared.storeys.Storey.{Storey}
use Rattle.mesh_types.specs.declared.links.PolyRef.{PolyRef}
use Rattle.mesh_types.specs.declared.mesh.Mesh.{Mesh}
use Rattle.mesh_types.specs.Rays.{IsHeldAt}
use Rattle.mesh_types.specs.Places.{column_gap, storey_at, IsPlace}
use Rattle.mesh_types.specs.Storeys.{HasFloor, IsStorey}
use Rattle.mesh_place.specs.declared.floors.Aim.{Aim}
use Rattle.mesh_place.specs.declared.floors.NearFloor.{NearFloor}
use Rattle.mesh_place.specs.Columns.{span_under}

-- how far two heights are apart
abbrev pub height_off : ℕ → ℕ → ℕ
height_off y floor = max (floor - y) (y - floor)

-- a floor is nearer to a point than what was found, or as near and nearer to a height
abbrev pub is_nearer : ℕ → NearFloor → Option NearFloor → Bool
is_nearer y floor None = true
is_nearer y floor (Some best) =
    nat_lt floor.aside best.aside || ((floor.aside == best.aside) && nat_lt (height_off y floor.y) (height_off y best.y))

-- what was found, or a floor that is nearer
abbrev pub nearer_floor : ℕ → Option NearFloor → NearFloor → Option NearFloor
nearer_floor y best floor = if is_nearer y floor best then Some floor else best

-- the column of a row that is nearest to a column
abbrev pub column_in : FloorRow → ℕ → ℕ
column_in row x = max (min x (row.x0 + length row.floors - 1)) row.x0

-- the floor of a row's column, with how far it is from a point
abbrev pub cell_floor : FloorRow → ℕ → ℕ → Point → NearFloor
cell_floor row x z p = record { y = get_or row.floors (x - row.x0) 0; aside = column_gap x z p }

-- what was found, or a nearer floor of the columns of a row that are nearest to the point
abbrev pub nearer_of_row : FloorRow → ℕ → Aim → Option NearFloor → Option NearFloor
nearer_of_row row z aim best =
    let under = span_under aim.p.x in
    let first = cell_floor row (column_in row under.first) z aim.p in
    let last = cell_floor row (column_in row under.last) z aim.p in
    nearer_floor aim.y (nearer_floor aim.y best first) last

-- a floor found is nearer to the point than a cell, or as near and no farther from the height
abbrev pub IsNoFarther : ℕ → NearFloor → ℕ → ℕ → Type 0
IsNoFarther y found aside floor = (found.aside < aside) ⊎ ((found.aside ≡ aside) × (height_off y found.y ≤ height_off y floor))

-- a floor of a storey such that no cell of the rows from one up to before another is nearer to the point, or as near with a floor nearer to
-- the height
pub record IsToward (storey : Storey) (aim : Aim) (first end : ℕ) (found : NearFloor) : Type 0 where
  pub x : ℕ
  pub z : ℕ
  pub has : HasFloor storey x z found.y
  pub gap : found.aside ≡ column_gap x z aim.p
  pub least : (x' z' floor : ℕ) → HasFloor storey x' z' floor → storey.z0 + first ≤ z' → z' < storey.z0 + end
      → IsNoFarther aim.y found (column_gap x' z' aim.p) floor

-- what was found in the rows of a storey from one up to before another; none where they have no cell
abbrev pub IsFloorToward : Storey → Aim → ℕ → ℕ → Option NearFloor → Type 0
IsFloorToward storey aim first end None =
    (x z floor : ℕ) → HasFloor storey x z floor → storey.z0 + first ≤ z → z < storey.z0 + end → ⊥
IsFloorToward storey aim first end (Some found) = IsToward storey aim first end found

-- the floor of a polygon's storey at a point that it holds; none where the polygon does not hold the point or has no floor
pub record IsFloorOf (mesh : Mesh) (at : PolyRef) (aim : Aim) (found : NearFloor) : Type 0 where
  pub held : IsHeldAt mesh aim.p at
  pub storey : Storey
  pub home : storey_at mesh at ≡ Some storey
  pub rules : IsStorey storey
  pub toward : IsToward storey aim 0 (length storey.rows) found

abbrev pub IsFloorIn : Mesh → PolyRef → Aim → Option NearFloor → Type 0
IsFloorIn mesh at aim None = (y : ℕ) → IsPlace mesh (record { polygon = at; point = aim.p; y = y }) → ⊥
IsFloorIn mesh at aim (Some found) = IsFloorOf mesh at aim found
