-- What holds of the places of a tile's cells holds of the places of its regions; so contours lie in the tile's square.
use Rattle.std.proofs.Common.{◌≡◌, ℕ, ◌+◌, ◌-◌, ◌<◌, ◌≤◌, ℤ, pos, ◌≤ℤ◌, ◌+ℤ◌, List, length, get_or, map, filter, subst, arith, Bool}
use Rattle.std.specs.Prelude.{All, Contains}
use Rattle.std.specs.List.{range_with_len}
use Rattle.std.proofs.lemmas.Int.{ints}
use Rattle.std.proofs.lemmas.List.Elements.{All-contains, All-contains_itself, All-filter, All-map}
use Rattle.std.proofs.lemmas.List.FromFn.{get_or-range_with_len, length-range_with_len}
use Rattle.nav_base.specs.declared.point.Point.{Point}
use Rattle.nav_base.specs.Point.{IsCellCorner}
use Rattle.nav_ground.specs.declared.cell.Cell.{Cell}
use Rattle.nav_ground.specs.declared.cell.CellRef.{CellRef}
use Rattle.nav_ground.specs.declared.cell.Window.{Window}
use Rattle.nav_ground.specs.Cells.{IsCells}
use Rattle.nav_ground.specs.Tiling.{IsInWindow}
use Rattle.mesh_types.specs.declared.region.Strip.{Strip}
use Rattle.mesh_types.specs.declared.region.Regions.{Regions}
use Rattle.mesh_types.specs.declared.region.UnitEdge.{UnitEdge}
use Rattle.mesh_types.specs.FitTiles.{IsInSquare}
use Rattle.mesh_types.specs.StripPolygons.{corner}
use Rattle.mesh_types.specs.Regions.{IsStrip, place_in, AreRegionsOf}
use Rattle.mesh_types.specs.Contours.{cell_in, columns, edge_of, is_rim, places_in, rim_edges_of, rim_of, strips_in, contour_of}
use Rattle.mesh_types.proofs.ContourLaws.{round_all}
use Rattle.mesh_types.proofs.Gathered.{all_of_each, all_four}
use Rattle.mesh_types.proofs.RegionLaws.{cell_there, stack, woven}

-- what holds of the places of all cells holds of the places of a region
pub places_all : (P : CellRef → Type 0) (cells : List Cell) (regions : Regions) → AreRegionsOf cells regions → (id : ℕ) → id < length regions.regions
    → All (λ (cell : Cell). P cell.at) cells → All P (places_in regions id)
places_all P cells regions are id there each =
    all_of_each P (λ (s : Strip). map (place_in s) (columns s)) (strips_in regions id)
    (λ k d inside. of_strip (get_or (strips_in regions id) k d) (All-contains_itself (strips_in regions id) k d inside)
    ((stack cells regions are id there).strips k d inside))
  where
    of_strip : (s : Strip) → Contains (strips_in regions id) s → IsStrip s → All P (map (place_in s) (columns s))
    of_strip s own strip =
        All-map P (place_in s) (columns s)
        (λ k d inside.
        let x : ℕ = get_or (columns s) k d in
        let count = length-range_with_len s.x0 (s.x1 + 1 - s.x0) in
        let value : x ≡ s.x0 + k = get_or-range_with_len s.x0 (s.x1 + 1 - s.x0) k d (omega (arith, inside, count)) in
        let found = cell_there cells (place_in s x) ((woven cells regions are id there).there s x own
        (omega (arith, value), omega (arith, value, inside, count, strip.some))) in
        subst P found.place (All-contains (λ (cell : Cell). P cell.at) cells (cell_in cells (place_in s x)) each found.own))

-- a corner of a cell of the tile
pub record IsTileCorner (window : Window) (p : Point) : Type 0 where
  pub of_cell : IsCellCorner p
  pub square : IsInSquare window p

-- a place in the tile and in the largest field
pub record IsTilePlace (window : Window) (at : CellRef) : Type 0 where
  pub x : at.x < 1024
  pub z : at.z < 1024
  pub inside : IsInWindow window at.x at.z

lower : (w : ℤ) (a b : ℕ) → w ≤ℤ pos a → a ≤ b → w ≤ℤ pos b
lower w a b h k = omega (arith, ints)

upper : (w : ℤ) (a b : ℕ) → pos a ≤ℤ w → b ≤ a + 1 → pos b ≤ℤ (w +ℤ pos 1)
upper w a b h k = omega (arith, ints)

not_negative : (a : ℕ) → pos 0 ≤ℤ pos a
not_negative a = omega (arith, ints)

at_most_1024 : (a : ℕ) → a ≤ 1024 → pos a ≤ℤ pos 1024
at_most_1024 a h = omega (arith, ints)

corner_of : (window : Window) (at : CellRef) (x z : ℕ) → IsTilePlace window at → at.x ≤ x → x ≤ at.x + 1 → at.z ≤ z → z ≤ at.z + 1 → IsTileCorner window (corner x z)
corner_of window at x z is left right bottom top = record {
  of_cell = record {
    left = not_negative x;
    right = at_most_1024 x (omega (arith, is.x, right));
    bottom = not_negative z;
    top = at_most_1024 z (omega (arith, is.z, top));
  };
  square = record {
    left = lower window.x0 at.x x is.inside.x_least left;
    right = upper window.x1 at.x x is.inside.x_most right;
    bottom = lower window.z0 at.z z is.inside.z_least bottom;
    top = upper window.z1 at.z z is.inside.z_most top;
  };
}

-- the edges of a place of the tile begin at its corners
edges_of : (window : Window) (cells : List Cell) (regions : Regions) (id : ℕ) (at : CellRef) → IsTilePlace window at
    → All (λ (edge : UnitEdge). IsTileCorner window edge.from) (rim_edges_of window cells regions id at)
edges_of window cells regions id at is =
    let test : ℕ → Bool = λ dir. is_rim cells regions id dir (cell_in cells at) in
    let P : UnitEdge → Type 0 = λ edge. IsTileCorner window edge.from in
    All-map P (λ dir. edge_of window cells regions dir at) (filter test (range_with_len 0 4))
    (All-filter test (λ dir. P (edge_of window cells regions dir at)) (range_with_len 0 4)
    (all_four (λ dir. P (edge_of window cells regions dir at))
    (corner_of window at at.x (at.z + 1) is (omega arith) (omega arith) (omega arith) (omega arith))
    (corner_of window at (at.x + 1) (at.z + 1) is (omega arith) (omega arith) (omega arith) (omega arith))
    (corner_of window at (at.x + 1) at.z is (omega arith) (omega arith) (omega arith) (omega arith))
    (corner_of window at at.x at.z is (omega arith) (omega arith) (omega arith) (omega arith))))

-- the contours of a tile's regions pass corners of its cells alone
pub contour_inside : (window : Window) (cells : List Cell) (regions : Regions) (id : ℕ) → IsCells cells → All (λ (cell : Cell). IsInWindow window cell.at.x cell.at.z) cells
    → AreRegionsOf cells regions → id < length regions.regions → All (λ (edge : UnitEdge). IsTileCorner window edge.from) (contour_of window cells regions id)
contour_inside window cells regions id rules' inside are there =
    let P : UnitEdge → Type 0 = λ edge. IsTileCorner window edge.from in
    let each : All (λ (cell : Cell). IsTilePlace window cell.at) cells = λ k d below.
    let cell = rules'.each k d below in record { x = cell.x; z = cell.z; inside = inside k d below } in
    round_all P (rim_of window cells regions id)
    (all_of_each P (rim_edges_of window cells regions id) (places_in regions id)
    (λ k d below. edges_of window cells regions id (get_or (places_in regions id) k d)
    (places_all (IsTilePlace window) cells regions are id there each k d below)))
