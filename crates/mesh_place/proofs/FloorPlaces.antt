-- Places of a mesh, by the floor that is found at their point.
use Rattle.std.proofs.Common.{◌≡◌, ℕ, ◌+◌, ◌-◌, ◌≤◌, ◌<◌, inl, inr, length, sym, subst, ◌∙◌, arith}
use Rattle.std.specs.Prelude.{Option, Some, None, max}
use Rattle.std.proofs.lemmas.Option.{same_Some, slice_get_within, get_or_from_slice_get}
use Rattle.mesh_types.specs.declared.links.PolyRef.{PolyRef}
use Rattle.mesh_types.specs.declared.mesh.Mesh.{Mesh}
use Rattle.mesh_types.specs.declared.storeys.Storey.{Storey}
use Rattle.mesh_types.specs.declared.storeys.MeshPlace.{MeshPlace}
use Rattle.mesh_types.specs.Rays.{IsHeldAt}
use Rattle.mesh_types.specs.Storeys.{HasFloor, IsFloorRow, IsStorey}
use Rattle.mesh_types.specs.Places.{column_gap, storey_at, IsFloorAt, IsHighestAt, IsPlace}
use Rattle.mesh_place.specs.declared.floors.Aim.{Aim}
use Rattle.mesh_place.specs.declared.floors.NearFloor.{NearFloor}
use Rattle.mesh_place.specs.Floors.{IsNoFarther, IsToward, IsFloorToward, IsFloorOf, IsFloorIn}

-- a cell of a storey stands in one of its rows, and has a low floor
below_top : (storey : Storey) (x z floor : ℕ) → HasFloor storey x z floor → z < storey.z0 + length storey.rows
below_top storey x z floor has =
    let above = has.above in
    omega (arith, above, slice_get_within storey.rows (z - storey.z0) has.row has.is_row)

low_floor : (storey : Storey) (x z floor : ℕ) → IsStorey storey → HasFloor storey x z floor → floor ≤ 8191
low_floor storey x z floor rules has =
    let there = slice_get_within storey.rows (z - storey.z0) has.row has.is_row in
    let row = get_or_from_slice_get storey.rows (z - storey.z0) has.row has.row has.is_row in
    let own : IsFloorRow has.row = subst IsFloorRow row (rules.rows (z - storey.z0) has.row there) in
    let within = slice_get_within has.row.floors (x - has.row.x0) floor has.is_cell in
    let value = get_or_from_slice_get has.row.floors (x - has.row.x0) floor floor has.is_cell in
    subst (λ (n : ℕ). n ≤ 8191) value (own.floors (x - has.row.x0) floor within)

-- a floor that is nearest toward a height is a floor at the point
at_point : (storey : Storey) (aim : Aim) (found : NearFloor) → IsToward storey aim 0 (length storey.rows) found → IsFloorAt storey aim.p found.y found.aside
at_point storey aim found is = record {
  x = is.x;
  z = is.z;
  has = is.has;
  gap = is.gap;
  nearest = λ x z floor has. close (column_gap x z aim.p) floor
      (let above = has.above in is.least x z floor has (omega (arith, above)) (below_top storey x z floor has));
}
  where
    close : (aside floor : ℕ) → IsNoFarther aim.y found aside floor → found.aside ≤ aside
    close aside floor (inl less) = omega (arith, less)
    close aside floor (inr same) = omega (arith, same.0)

-- another floor at the point is as near, and no nearer to the height
other_at : (storey : Storey) (aim : Aim) (found : NearFloor) (floor aside : ℕ) → IsToward storey aim 0 (length storey.rows) found
    → IsFloorAt storey aim.p floor aside → max (found.y - aim.y) (aim.y - found.y) ≤ max (floor - aim.y) (aim.y - floor)
other_at storey aim found floor aside is other =
    let has = other.has in
    let above = has.above in
    let nearest = other.nearest is.x is.z found.y is.has in
    close (omega (arith, nearest, is.gap, other.gap))
    (is.least other.x other.z floor has (omega (arith, above)) (below_top storey other.x other.z floor has))
  where
    close : column_gap other.x other.z aim.p ≤ found.aside → IsNoFarther aim.y found (column_gap other.x other.z aim.p) floor
        → max (found.y - aim.y) (aim.y - found.y) ≤ max (floor - aim.y) (aim.y - floor)
    close most (inl less) = absurd (omega (arith, most, less))
    close most (inr same) = same.1

-- with a height above all floors, it is the highest
pub highest_there : (storey : Storey) (aim : Aim) (found : NearFloor) → IsStorey storey → 8191 ≤ aim.y
    → IsToward storey aim 0 (length storey.rows) found → IsHighestAt storey aim.p found.y found.aside
highest_there storey aim found rules high is = record {
  is = at_point storey aim found is;
  highest = λ other at.
      let low = low_floor storey at.x at.z other rules at.has in
      let own = low_floor storey is.x is.z found.y rules is.has in
      omega (arith, high, low, own, other_at storey aim found other found.aside is at);
}

-- ---- of a polygon

pub floor_in : (mesh : Mesh) (at : PolyRef) (aim : Aim) (storey : Storey) (best : Option NearFloor) → IsHeldAt mesh aim.p at → storey_at mesh at ≡ Some storey
    → IsStorey storey → IsFloorToward storey aim 0 (length storey.rows) best → IsFloorIn mesh at aim best
floor_in mesh at aim storey None held home rules none = λ y place.
    let same : place.storey ≡ storey = same_Some place.storey storey (sym place.home ∙ home) in
    let floor = subst (λ (s : Storey). IsFloorAt s aim.p y place.aside) same place.floor in
    let has = floor.has in
    let above = has.above in
    none floor.x floor.z y has (omega (arith, above)) (below_top storey floor.x floor.z y has)
floor_in mesh at aim storey (Some found) held home rules is = record { held = held; storey = storey; home = home; rules = rules; toward = is }

-- a place is one of the mesh where the floor nearest to its height is at its height
pub place_there : (mesh : Mesh) (place : MeshPlace) (found : NearFloor)
    → IsFloorOf mesh place.polygon (record { p = place.point; y = place.y }) found → found.y ≡ place.y → IsPlace mesh place
place_there mesh place found is level = record {
  held = is.held;
  storey = is.storey;
  home = is.home;
  aside = found.aside;
  floor = subst (λ (n : ℕ). IsFloorAt is.storey place.point n found.aside) level (at_point is.storey (record { p = place.point; y = place.y }) found is.toward);
}

pub at_height : (mesh : Mesh) (place : MeshPlace) (found : NearFloor)
    → IsFloorOf mesh place.polygon (record { p = place.point; y = place.y }) found → IsPlace mesh place → found.y ≡ place.y
at_height mesh place found is one =
    let same : one.storey ≡ is.storey = same_Some one.storey is.storey (sym one.home ∙ is.home) in
    let floor = subst (λ (s : Storey). IsFloorAt s place.point place.y one.aside) same one.floor in
    omega (arith, other_at is.storey (record { p = place.point; y = place.y }) found place.y one.aside is.toward floor)
