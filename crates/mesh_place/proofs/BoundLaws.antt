-- What lies beyond a bound comes after what was found.
use Rattle.std.proofs.Common.{◌≡◌, ℕ, ◌+◌, ◌-◌, ◌*◌, ◌≤◌, ◌<◌, ℤ, pos, ◌-ℤ◌, ◌≤ℤ◌, ◌<ℤ◌, List, inl, inr, sym, ap, subst, ◌∙◌, arith}
use Rattle.std.specs.Prelude.{All, Some, None, max, slice_get, unsigned_abs, option_and_then}
use Rattle.std.proofs.lemmas.Bool.{cases_lt}
use Rattle.std.proofs.lemmas.Int.{ints}
use Rattle.std.proofs.lemmas.Nat.{mul-le}
use Rattle.std.proofs.lemmas.Option.{slice_get_within, get_or_from_slice_get, option_and_then_some}
use Rattle.nav_base.specs.declared.point.Point.{Point}
use Rattle.nav_base.specs.Deviation.{square_of}
use Rattle.nav_base.specs.Point.{dot_of, cross_of, from_to, orient_of}
use Rattle.nav_base.proofs.LengthLaws.{square_of-product}
use Rattle.nav_base.proofs.OrientLaws.{orient_of-apart}
use Rattle.mesh_types.specs.declared.extent.Extent.{Extent}
use Rattle.mesh_types.specs.declared.links.PolyRef.{PolyRef}
use Rattle.mesh_types.specs.declared.mesh.Mesh.{Mesh}
use Rattle.mesh_types.specs.declared.mesh.TileMesh.{TileMesh}
use Rattle.mesh_types.specs.declared.reaches.FloorReach.{FloorReach}
use Rattle.mesh_types.specs.declared.storeys.MeshPlace.{MeshPlace}
use Rattle.mesh_types.specs.declared.storeys.Storey.{Storey}
use Rattle.mesh_types.specs.Places.{Stands, storey_in}
use Rattle.mesh_types.specs.Reaches.{IsBetween, IsRowBetween, IsStoreyBetween}
use Rattle.mesh_types.specs.Storeys.{HasFloor}
use Rattle.mesh_locate.specs.Nearest.{IsInBox}
use Rattle.mesh_place.specs.declared.near.Near.{Near}
use Rattle.mesh_place.specs.Bounds.{AddAtLeast, IsLeastPart, Meets, height_part, square_around}
use Rattle.mesh_place.specs.Floors.{height_off}
use Rattle.mesh_place.specs.Nearest.{IsInReach}
use Rattle.mesh_place.proofs.Squares.{size_bounds, within}

-- ---- heights

-- a floor that is farther off adds no less
no_less_part : (climb weight a b : ℕ) → a ≤ b → (weight * (a - climb)) * (weight * (a - climb)) ≤ (weight * (b - climb)) * (weight * (b - climb))
no_less_part climb weight a b most =
    let over = mul-le weight (a - climb) weight (b - climb) (omega arith) (omega (arith, most)) in
    mul-le (weight * (a - climb)) (weight * (a - climb)) (weight * (b - climb)) (weight * (b - climb)) over over

pub is_least : (climb : ℕ) (asked : Near) (floors : FloorReach) (off part : ℕ) → off ≡ max (floors.least - asked.y) (asked.y - floors.greatest)
    → part ≡ height_part climb asked off → IsLeastPart climb asked floors (Some part)
is_least climb asked floors off part is adds y between =
    let least = between.least in
    let greatest = between.greatest in
    let more : off ≤ height_off asked.y y = omega (arith, is, least, greatest) in
    subst (λ (n : ℕ). n ≤ height_part climb asked (height_off asked.y y)) (sym adds) (no_less_part climb asked.weight off (height_off asked.y y) more)

pub all_above : (climb : ℕ) (asked : Near) (floors : FloorReach) → asked.up < floors.least - asked.y → IsLeastPart climb asked floors None
all_above climb asked floors far y between near =
    let least = between.least in
    let high = near.high in
    omega (arith, far, least, high)

pub all_below : (climb : ℕ) (asked : Near) (floors : FloorReach) → asked.down < asked.y - floors.greatest → IsLeastPart climb asked floors None
all_below climb asked floors far y between near =
    let greatest = between.greatest in
    let low = near.low in
    omega (arith, far, greatest, low)

-- what the floors of some places add
pub adds : (mesh : Mesh) (asked : Near) (floors : FloorReach) (part : ℕ) (among : MeshPlace → Type 0)
    → IsLeastPart mesh.setting.agent.climb asked floors (Some part) → ((other : MeshPlace) → Stands mesh other → among other → IsBetween floors other.y)
    → AddAtLeast mesh asked part among
adds mesh asked floors part among is between other stands near one = is other.y (between other stands one)

pub none_near : (mesh : Mesh) (asked : Near) (floors : FloorReach) (among : MeshPlace → Type 0) → IsLeastPart mesh.setting.agent.climb asked floors None
    → ((other : MeshPlace) → Stands mesh other → among other → IsBetween floors other.y) → (other : MeshPlace) → Stands mesh other
    → IsInReach mesh asked other → among other → ⊥
none_near mesh asked floors among is between other stands near one = is other.y (between other stands one) (record { low = near.low; high = near.high })

-- ---- the floors of storeys and tiles

at_place : {A : Type 0} (P : A → Type 0) (xs : List A) (k : ℕ) (x : A) → All P xs → slice_get xs k ≡ Some x → P x
at_place P xs k x all there = subst P (get_or_from_slice_get xs k x x there) (all k x (slice_get_within xs k x there))

floor_between : (floors : FloorReach) (storey : Storey) (x z y : ℕ) → IsStoreyBetween floors storey → HasFloor storey x z y → IsBetween floors y
floor_between floors storey x z y all has =
    at_place (IsBetween floors) has.row.floors (x - has.row.x0) y (at_place (IsRowBetween floors) storey.rows (z - storey.z0) has.row all has.is_row) has.is_cell

-- those of a polygon's storey
pub storey_floor : (mesh : Mesh) (tile : TileMesh) (floors : FloorReach) (other : MeshPlace) → slice_get mesh.tiles other.polygon.tile ≡ Some tile
    → ((storey : Storey) → storey_in tile.storeys other.polygon.index ≡ Some storey → IsStoreyBetween floors storey) → Stands mesh other
    → IsBetween floors other.y
storey_floor mesh tile floors other there are stands =
    let home = sym (ap (option_and_then (λ (d : TileMesh). storey_in d.storeys other.polygon.index)) there) ∙ stands.home in
    floor_between floors stands.storey stands.floor.x stands.floor.z other.y (are stands.storey home) stands.floor.has

pub floor_of : (mesh : Mesh) (at : PolyRef) (tile : TileMesh) (floors : FloorReach) → slice_get mesh.tiles at.tile ≡ Some tile
    → ((storey : Storey) → storey_in tile.storeys at.index ≡ Some storey → IsStoreyBetween floors storey) → (other : MeshPlace) → Stands mesh other
    → other.polygon ≡ at → IsBetween floors other.y
floor_of mesh at tile floors there are other stands one =
    storey_floor mesh tile floors other (ap (λ (p : PolyRef). slice_get mesh.tiles p.tile) one ∙ there)
    (λ storey is. are storey (sym (ap (λ (p : PolyRef). storey_in tile.storeys p.index) one) ∙ is)) stands

-- those of all storeys of a tile
pub listed_floors : (tile : TileMesh) (floors : FloorReach) (polygon : ℕ) (storey : Storey) → All (IsStoreyBetween floors) tile.storeys.list
    → storey_in tile.storeys polygon ≡ Some storey → IsStoreyBetween floors storey
listed_floors tile floors polygon storey all is =
    option_and_then_some (slice_get tile.storeys.list) (slice_get tile.storeys.homes polygon) storey is
    (λ home there listed. at_place (IsStoreyBetween floors) tile.storeys.list home storey all listed)

pub tile_floor : (mesh : Mesh) (t : ℕ) (tile : TileMesh) (floors : FloorReach) → slice_get mesh.tiles t ≡ Some tile
    → All (IsStoreyBetween floors) tile.storeys.list → (other : MeshPlace) → Stands mesh other → other.polygon.tile ≡ t → IsBetween floors other.y
tile_floor mesh t tile floors there all other stands at =
    storey_floor mesh tile floors other (ap (slice_get mesh.tiles) at ∙ there) (λ storey is. listed_floors tile floors other.polygon.index storey all is) stands

-- ---- squares

-- a box with a point within a reach meets the square
pub meets_square : (box : Extent) (p q : Point) (reach : ℕ) → IsInBox box q → square_of (from_to p q) ≤ reach * reach → Meets (square_around p reach) box
meets_square box p q reach is flat =
    let near = within p q reach flat in
    let across = size_bounds (q.x -ℤ p.x) reach near.across in
    let along = size_bounds (q.z -ℤ p.z) reach near.along in
    let low = is.low in
    let high = is.high in
    record {
      begins = record { across = omega (arith, ints, across.0, low.across); along = omega (arith, ints, along.0, low.along) };
      ends = record { across = omega (arith, ints, across.1, high.across); along = omega (arith, ints, along.1, high.along) };
    }

-- ---- lines

-- a point to the left of an edge is no nearer to one to its right than the edge's line
pub line_beyond : (s t p q : Point) (limit : ℕ) → orient_of s t p <ℤ pos 0
    → limit * square_of (from_to s t) < unsigned_abs (orient_of s t p) * unsigned_abs (orient_of s t p) → pos 0 ≤ℤ orient_of s t q
    → limit < square_of (from_to p q)
line_beyond s t p q limit right far left =
    elim (cases_lt limit (square_of (from_to p q))) [
      | inl less ↦ less
      | inr least ↦
          let a : ℕ = unsigned_abs (orient_of s t p) in
          let c : ℕ = unsigned_abs (cross_of (from_to s t) (from_to p q)) in
          let more : a ≤ c = turned (orient_of s t p) (orient_of s t q) (cross_of (from_to s t) (from_to p q)) (orient_of-apart s t p q) right left in
          absurd (never limit (square_of (from_to s t)) (square_of (from_to p q)) a c (unsigned_abs (dot_of (from_to s t) (from_to p q))) far
          (square_of-product (from_to s t) (from_to p q)) more least)
    ]
  where
    turned : (f g c : ℤ) → g -ℤ f ≡ c → f <ℤ pos 0 → pos 0 ≤ℤ g → unsigned_abs f ≤ unsigned_abs c
    turned f g c is right left = omega (arith, ints)

    never : (limit d q a c e : ℕ) → limit * d < a * a → d * q ≡ e * e + c * c → a ≤ c → q ≤ limit → ⊥
    never limit d q a c e far is more least = omega (arith, far, is, mul-le a a c c more more, mul-le d q d limit (omega arith) least)
