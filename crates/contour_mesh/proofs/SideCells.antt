-- The cells of a region beside a side of the tile, and the edges of its contour along that side.
use Rattle.std.proofs.Common.{◌≡◌, ℕ, zero, suc, ◌+◌, ◌<◌, Bool, true, false, ℤ, pos, ◌+ℤ◌, ◌≤ℤ◌, List, [], filter, length, get_or, Option, Some, None, ap, ◌∙◌, sym, refl, arith}
use Rattle.std.specs.Prelude.{All, Contains, option_and_then, ◌==◌, nat_lt, not, if◌then◌else◌}
use Rattle.std.specs.List.{count_by, list_any, range_with_len}
use Rattle.std.specs.Option.{option_map_or}
use Rattle.std.specs.Ordering.{int_eq}
use Rattle.std.proofs.lemmas.Bool.{and_parts, both_ways, false_from_ne_true}
use Rattle.std.proofs.lemmas.Bool.Decides.{Decides-int_eq}
use Rattle.std.proofs.lemmas.Int.{ints}
use Rattle.std.proofs.lemmas.List.{get_or_default}
use Rattle.std.proofs.lemmas.List.Elements.{All-contains, All-map}
use Rattle.std.proofs.lemmas.List.Folds.{list_any_at}
use Rattle.std.proofs.lemmas.List.FromFn.{get_or-range_with_len, length-range_with_len}
use Rattle.std.proofs.lemmas.List.Sorted.{All-permutation, Contains-permutation}
use Rattle.nav_ground.specs.declared.cell.Cell.{Cell}
use Rattle.nav_ground.specs.declared.cell.CellRef.{CellRef}
use Rattle.nav_ground.specs.declared.cell.Window.{Window}
use Rattle.nav_ground.specs.Cells.{IsCut, is_naming, is_toward}
use Rattle.nav_ground.specs.Tiling.{IsInWindow}
use Rattle.nav_ground.proofs.Found.{find_none}
use Rattle.mesh_types.specs.declared.region.Code.{Code}
use Rattle.mesh_types.specs.declared.region.Code.TheVariants.{Wall, Region, Side}
use Rattle.mesh_types.specs.declared.region.Region as regions_types
use Rattle.mesh_types.specs.declared.region.Regions.{Regions}
use Rattle.mesh_types.specs.declared.region.UnitEdge.{UnitEdge}
use Rattle.mesh_types.specs.declared.region.Strip.{Strip}
use Rattle.mesh_types.specs.Contours.{cell_in, code_beyond, edge_beginning, edge_ending, edge_of, is_rim, places_in, region_at, region_beyond, rim_edges_of, rim_of, contour_of}
use Rattle.mesh_types.specs.DoorRim.{is_on_line, point_position}
use Rattle.mesh_types.specs.Regions.{AreRegionsOf, is_holding, place_in, times_held}
use Rattle.mesh_types.specs.Crossings.{is_at_side, is_crossing, position_of}
use Rattle.mesh_types.proofs.Gathered.{all_of_each, Contains-filter, Contains-flat_map, Contains-map}
use Rattle.mesh_types.proofs.RegionLaws.{region_is}
use Rattle.mesh_types.proofs.SidePlaces.{at_most, squeezed}
use Rattle.contour_walk.proofs.ContourRings.{contour_ring}
use Rattle.contour_mesh.proofs.ContourRings.{one_in_row}
use Rattle.contour_mesh.proofs.CoveredPlaces.{IsStep, lower}
use Rattle.contour_mesh.proofs.DoorCounts.{some_passes, some_term}
use Rattle.contour_mesh.proofs.NeighbourRims.{IsPlaceOf, beyond_side, cell_is, held_by, place_listed, places_own}
use Rattle.contour_mesh.proofs.RingWalks.{edge_at, some_edge}

-- ---- lines and positions

same_value : (w : ℤ) (n : ℕ) → w ≤ℤ pos n → pos n ≤ℤ w → int_eq (pos n) w ≡ true
same_value w n least most = (Decides-int_eq (pos n) w).1 (omega (arith, ints))

next_value : (w : ℤ) (n : ℕ) → w ≤ℤ pos n → pos n ≤ℤ w → int_eq (pos (n + 1)) (w +ℤ pos 1) ≡ true
next_value w n least most = (Decides-int_eq (pos (n + 1)) (w +ℤ pos 1)).1 (omega (arith, ints))

-- the edge of a cell beside a side toward it lies on the side's line
pub beside_line : (side : ℕ) (window : Window) (at : CellRef) → side < 4 → IsInWindow window at.x at.z → is_at_side window side at ≡ true
    → (is_on_line window side (edge_beginning side at) ≡ true) × (is_on_line window side (edge_ending side at) ≡ true)
beside_line zero window at small inside beside =
    let on = same_value window.x0 at.x inside.x_least (at_most (pos at.x) window.x0 beside) in (on, on)
beside_line (suc zero) window at small inside beside =
    let on = next_value window.z1 at.z (at_most window.z1 (pos at.z) beside) inside.z_most in (on, on)
beside_line (suc (suc zero)) window at small inside beside =
    let on = next_value window.x1 at.x (at_most window.x1 (pos at.x) beside) inside.x_most in (on, on)
beside_line (suc (suc (suc zero))) window at small inside beside =
    let on = same_value window.z0 at.z inside.z_least (at_most (pos at.z) window.z0 beside) in (on, on)
beside_line (suc (suc (suc (suc side)))) window at small inside beside = absurd (omega (arith, small))

-- it is a step of one along the line, down on the sides 0 and 1 and up on the others, from or to the position of the cell
pub edge_step : (side : ℕ) (at : CellRef) → side < 4 → IsStep (nat_lt side 2) (point_position side (edge_beginning side at)) (point_position side (edge_ending side at))
edge_step zero at small = refl
edge_step (suc zero) at small = refl
edge_step (suc (suc zero)) at small = refl
edge_step (suc (suc (suc zero))) at small = refl
edge_step (suc (suc (suc (suc side)))) at small = absurd (omega (arith, small))

pub edge_position : (side : ℕ) (at : CellRef) → side < 4
    → point_position side (lower (nat_lt side 2) (edge_beginning side at) (edge_ending side at)) ≡ position_of side at
edge_position zero at small = refl
edge_position (suc zero) at small = refl
edge_position (suc (suc zero)) at small = refl
edge_position (suc (suc (suc zero))) at small = refl
edge_position (suc (suc (suc (suc side)))) at small = absurd (omega (arith, small))

-- two cells beside a side with one position stand in one column
pub same_column : (side : ℕ) (window : Window) (a b : CellRef) → side < 4 → IsInWindow window a.x a.z → IsInWindow window b.x b.z
    → is_at_side window side a ≡ true → is_at_side window side b ≡ true → position_of side a ≡ position_of side b → (a.x ≡ b.x) × (a.z ≡ b.z)
same_column zero window a b small in_a in_b at_a at_b same =
    let ab = squeezed window.x0 a.x b.x in_a.x_least (at_most _ _ at_b) in
    let ba = squeezed window.x0 b.x a.x in_b.x_least (at_most _ _ at_a) in
    (omega (arith, ab, ba), same)
same_column (suc zero) window a b small in_a in_b at_a at_b same =
    let ab = squeezed window.z1 a.z b.z (at_most _ _ at_a) in_b.z_most in
    let ba = squeezed window.z1 b.z a.z (at_most _ _ at_b) in_a.z_most in
    (same, omega (arith, ab, ba))
same_column (suc (suc zero)) window a b small in_a in_b at_a at_b same =
    let ab = squeezed window.x1 a.x b.x (at_most _ _ at_a) in_b.x_most in
    let ba = squeezed window.x1 b.x a.x (at_most _ _ at_b) in_a.x_most in
    (omega (arith, ab, ba), same)
same_column (suc (suc (suc zero))) window a b small in_a in_b at_a at_b same =
    let ab = squeezed window.z0 a.z b.z in_a.z_least (at_most _ _ at_b) in
    let ba = squeezed window.z0 b.z a.z in_b.z_least (at_most _ _ at_a) in
    (same, omega (arith, ab, ba))
same_column (suc (suc (suc (suc side)))) window a b small in_a in_b at_a at_b same = absurd (omega (arith, small))

-- edges toward one direction of two places in one column begin at one corner
pub same_beginning : (side : ℕ) (a b : CellRef) → a.x ≡ b.x → a.z ≡ b.z → edge_beginning side a ≡ edge_beginning side b
same_beginning side a b x z = λ i. edge_beginning side (record { x = x i; z = z i; level = 0 })

-- ---- the region of a cell

pub record IsOfRegion (regions : Regions) (at : CellRef) : Type 0 where
  pub id : ℕ
  pub there : id < length regions.regions
  pub is : region_at regions at ≡ Some id

pub region_of_cell : (cells : List Cell) (regions : Regions) → AreRegionsOf cells regions → (cell : Cell) → Contains cells cell → IsOfRegion regions cell.at
region_of_cell cells regions are cell own =
    let once : times_held cell.at regions ≡ 1 = All-contains (λ (c : Cell). times_held c.at regions ≡ 1) cells cell are.once own in
    let held = some_term (λ (region : regions_types.Region). count_by (is_holding cell.at) region.strips) regions.regions (omega (arith, once)) in
    let strip = some_passes (is_holding cell.at) held.0.strips held.2 in
    let e : regions_types.Region = record { strips = [] } in
    let same : get_or regions.regions held.1.0 e ≡ held.0 = get_or_default regions.regions held.1.0 e held.0 held.1.1 ∙ held.1.2 in
    record {
      id = held.1.0;
      there = held.1.1;
      is = region_is regions cell.at held.1.0 once held.1.1
          (ap (λ (region : regions_types.Region). list_any (is_holding cell.at) region.strips) same
          ∙ list_any_at (is_holding cell.at) held.0.strips strip.1.0 strip.0 strip.1.1 (ap (is_holding cell.at) strip.1.2 ∙ strip.2));
    }

-- ---- the edges of a contour along a side

-- a cell of a region that has a kept neighbour across a side of the tile
pub record IsCrossingIn (window : Window) (cells : List Cell) (regions : Regions) (r side : ℕ) (cell : Cell) : Type 0 where
  pub own : Contains cells cell
  pub region : region_at regions cell.at ≡ Some r
  pub crossing : is_crossing window side cell ≡ true

-- an edge is that of such a cell toward the side
pub record IsSideEdge (window : Window) (cells : List Cell) (regions : Regions) (r side : ℕ) (edge : UnitEdge) : Type 0 where
  pub cell : Cell
  pub is : IsCrossingIn window cells regions r side cell
  pub begins : edge.from ≡ edge_beginning side cell.at
  pub ends : edge.to ≡ edge_ending side cell.at

same_side : (dir side : ℕ) (a b : Code) → a ≡ b → a ≡ Side dir → b ≡ Side side → dir ≡ side
same_side dir side a b same is-a is-b = let e : Side dir ≡ Side side = sym is-a ∙ same ∙ is-b in cc

no_region : (o : Option ℕ) (side : ℕ) → option_map_or Region o Wall ≡ Side side → ⊥
no_region None side is = absurd cc
no_region (Some r) side is = absurd cc

-- an edge with the code of a side leads toward that side, where a neighbour across is kept
side_coded : (window : Window) (cells : List Cell) (regions : Regions) (dir side : ℕ) (cell : Cell) → code_beyond window cells regions dir cell ≡ Side side
    → (dir ≡ side) × (is_crossing window dir cell ≡ true)
side_coded window cells regions dir side cell is = by_case (is_crossing window dir cell) refl is
  where
    by_case : (b : Bool) → is_crossing window dir cell ≡ b → (if b then Side dir else option_map_or Region (region_beyond cells regions dir cell) Wall) ≡ Side side
        → (dir ≡ side) × (is_crossing window dir cell ≡ true)
    by_case true crossing same = (same_side dir side (Side dir) (Side side) same refl refl, crossing)
    by_case false crossing same = absurd (no_region (region_beyond cells regions dir cell) side same)

module _ (window : Window) (cells : List Cell) (regions : Regions) (cut : IsCut cells)
    (inside : All (λ (cell : Cell). IsInWindow window cell.at.x cell.at.z) cells) (are : AreRegionsOf cells regions) (r : ℕ)
    (there : r < length regions.regions) where
  abbrev HasSide : UnitEdge → Type 0
  HasSide edge = (side : ℕ) → edge.code ≡ Side side → IsSideEdge window cells regions r side edge

  rim_sides : All (λ (edge : UnitEdge). (side : ℕ) → edge.code ≡ Side side → IsSideEdge window cells regions r side edge) (rim_of window cells regions r)
  rim_sides =
      all_of_each HasSide (rim_edges_of window cells regions r) (places_in regions r)
      (λ k d inside'.
      let at : CellRef = get_or (places_in regions r) k d in
      let place : IsPlaceOf cells regions r at = places_own cells regions are r there k d inside' in
      let test : ℕ → Bool = λ dir. is_rim cells regions r dir (cell_in cells at) in
      All-map HasSide (λ dir. edge_of window cells regions dir at) (filter test (range_with_len 0 4))
      (λ j e there' side coded.
      let dir : ℕ = get_or (filter test (range_with_len 0 4)) j e in
      let cell : Cell = cell_in cells at in
      let is = side_coded window cells regions dir side cell coded in
      record {
        cell = cell;
        is = record {
          own = place.own;
          region = ap (region_at regions) place.place ∙ place.region;
          crossing = ap (λ d. is_crossing window d cell) (sym is.0) ∙ is.1;
        };
        begins = ap (λ d. edge_beginning d at) is.0 ∙ ap (edge_beginning side) (sym place.place);
        ends = ap (λ d. edge_ending d at) is.0 ∙ ap (edge_ending side) (sym place.place);
      }))

  -- so is each edge of the contour with the code of a side
  pub contour_sides : (k side : ℕ) → k < length (contour_of window cells regions r) → (edge_at (contour_of window cells regions r) k).code ≡ Side side
      → IsSideEdge window cells regions r side (edge_at (contour_of window cells regions r) k)
  contour_sides k side less coded =
      All-permutation HasSide (rim_of window cells regions r) (contour_of window cells regions r) (contour_ring window cells cut.rules regions are r there).rim rim_sides
      k some_edge less side coded

  -- and the edge of each such cell toward the side is one of them
  pub record HasSideEdge (side : ℕ) (cell : Cell) : Type 0 where
    pub place : ℕ
    pub within : place < length (contour_of window cells regions r)
    pub begins : (edge_at (contour_of window cells regions r) place).from ≡ edge_beginning side cell.at
    pub ends : (edge_at (contour_of window cells regions r) place).to ≡ edge_ending side cell.at
    pub coded : (edge_at (contour_of window cells regions r) place).code ≡ Side side

  -- a cell beside a side names no cell of the tile there
  none_beyond : (side : ℕ) (cell : Cell) → side < 4 → is_crossing window side cell ≡ true → region_beyond cells regions side cell ≡ None
  none_beyond side cell small crossing =
      let beside = (and_parts (is_at_side window side cell.at) _ crossing).0 in
      ap (λ o. option_and_then (λ (other : Cell). region_at regions other.at) o)
      (find_none (λ (other : Cell). is_naming side cell other.at) cells
      (λ k d less. false_from_ne_true (is_naming side cell (get_or cells k d).at)
      (λ h. both_ways (is_at_side window side cell.at)
      (beyond_side side window cell.at (get_or cells k d).at small (and_parts (is_toward side cell.at (get_or cells k d).at) _ h).0 (inside k d less)) beside)))

  pub crossing_edge : (side : ℕ) (cell : Cell) → side < 4 → IsCrossingIn window cells regions r side cell → HasSideEdge side cell
  crossing_edge side cell small is =
      let E : List UnitEdge = contour_of window cells regions r in
      let edge : UnitEdge = edge_of window cells regions side cell.at in
      let found = cell_is window cells regions cut inside are cell is.own in
      let test : ℕ → Bool = λ dir. is_rim cells regions r dir (cell_in cells cell.at) in
      let rim : test side ≡ true =
      ap (is_rim cells regions r side) found ∙ ap (λ (o : Option ℕ). not (option_map_or (λ n. n == r) o false)) (none_beyond side cell small is.crossing) in
      let dirs : Contains (range_with_len 0 4) side =
      (side, omega (arith, small, length-range_with_len 0 4), get_or-range_with_len 0 4 side side small ∙ omega arith) in
      let held : Contains (rim_of window cells regions r) edge =
      Contains-flat_map (rim_edges_of window cells regions r) (places_in regions r) cell.at edge (place_listed cells regions are r cell.at is.region)
      (Contains-map (λ dir. edge_of window cells regions dir cell.at) (filter test (range_with_len 0 4)) side (Contains-filter test (range_with_len 0 4) side dirs rim)) in
      let at = Contains-permutation (rim_of window cells regions r) E edge (contour_ring window cells cut.rules regions are r there).rim held in
      let same : edge_at E at.0 ≡ edge = get_or_default E at.0 some_edge edge at.1 ∙ at.2 in
      record {
        place = at.0;
        within = at.1;
        begins = ap (λ (e : UnitEdge). e.from) same;
        ends = ap (λ (e : UnitEdge). e.to) same;
        coded = ap (λ (e : UnitEdge). e.code) same ∙ ap (code_beyond window cells regions side) found
            ∙ ap (λ b. if b then Side side else option_map_or Region (region_beyond cells regions side cell) Wall) is.crossing;
      }

  -- such a cell is the one at its position
  pub one_crossing : (side : ℕ) (a b : Cell) → side < 4 → IsCrossingIn window cells regions r side a → IsCrossingIn window cells regions r side b
      → position_of side a.at ≡ position_of side b.at → a ≡ b
  one_crossing side a b small is-a is-b same =
      let P : Cell → Type 0 = λ (cell : Cell). IsInWindow window cell.at.x cell.at.z in
      let column = same_column side window a.at b.at small (All-contains P cells a inside is-a.own) (All-contains P cells b inside is-b.own)
      (and_parts (is_at_side window side a.at) _ is-a.crossing).0 (and_parts (is_at_side window side b.at) _ is-b.crossing).0 same in
      let held-a = held_by cells regions are r a.at is-a.region in
      let held-b = held_by cells regions are r b.at is-b.region in
      let s : Strip = held-a.strip in
      let strip : s ≡ held-b.strip =
      one_in_row window cells regions cut inside are r s held-b.strip there held-a.own held-b.own
      (ap (λ (at : CellRef). at.z) held-a.place ∙ column.1 ∙ sym (ap (λ (at : CellRef). at.z) held-b.place)) in
      let place : a.at ≡ b.at = sym held-a.place ∙ (λ i. place_in (strip i) (column.0 i)) ∙ held-b.place in
      sym (cell_is window cells regions cut inside are a is-a.own) ∙ ap (cell_in cells) place ∙ cell_is window cells regions cut inside are b is-b.own
