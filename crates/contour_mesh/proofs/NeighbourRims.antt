-- The rims of two regions run along each other where cells of the one are connected to cells of the other.
use Rattle.std.proofs.Common.{◌≡◌, ℕ, zero, suc, ◌+◌, ◌-◌, ◌<◌, ◌≤◌, Bool, true, false, ℤ, pos, ◌≤ℤ◌, List, [], map, filter, length, get_or, Option, Some, None, ap, ◌∙◌, sym, refl, subst, arith}
use Rattle.std.specs.Prelude.{All, Contains, option_and_then, ◌==◌, ◌&&◌, is_some, nat_le, not, slice_get, if◌then◌else◌}
use Rattle.std.specs.List.{find, list_any, range_with_len}
use Rattle.std.specs.Option.{option_map_or}
use Rattle.std.proofs.lemmas.Bool.{and_parts, both_ways, eq-eqb, eqb-false, eqb-true, leb-true, false_from_ne_true, ne_eqb}
use Rattle.std.proofs.lemmas.Int.{ints}
use Rattle.std.proofs.lemmas.List.{get_or_default}
use Rattle.std.proofs.lemmas.List.Elements.{All-contains, All-contains_itself, All-filter, All-map, filter_passes}
use Rattle.std.proofs.lemmas.List.Folds.{Any-from_list_any}
use Rattle.std.proofs.lemmas.List.FromFn.{get_or-range_with_len, length-range_with_len}
use Rattle.std.proofs.lemmas.List.Quantifiers.{position-Some}
use Rattle.std.proofs.lemmas.Option.{option_and_then_some, slice_get_within, get_or_from_slice_get}
use Rattle.nav_ground.specs.declared.cell.Cell.{Cell}
use Rattle.nav_ground.specs.declared.cell.CellRef.{CellRef}
use Rattle.nav_ground.specs.declared.cell.Window.{Window}
use Rattle.nav_ground.specs.Cells.{IsCut, is_naming, is_toward, next_level, opposite}
use Rattle.nav_ground.specs.Tiling.{IsInWindow}
use Rattle.nav_ground.proofs.Directions.{both_equal}
use Rattle.nav_ground.proofs.Found.{first_found, found_in}
use Rattle.nav_ground.proofs.FreeLayers.{names_one}
use Rattle.cell_table.proofs.Tables.{one_index}
use Rattle.mesh_types.specs.declared.region.Code.TheVariants.{Wall, Region, Side}
use Rattle.mesh_types.specs.declared.region.Region as regions_types
use Rattle.mesh_types.specs.declared.region.Regions.{Regions}
use Rattle.mesh_types.specs.declared.region.UnitEdge.{UnitEdge}
use Rattle.mesh_types.specs.declared.region.Strip.{Strip}
use Rattle.mesh_types.specs.Contours.{cell_in, code_beyond, columns, edge_of, edge_beginning, edge_ending, is_rim, places_in, region_at, region_beyond, rim_edges_of, rim_of, strips_in}
use Rattle.mesh_types.specs.Regions.{AreRegionsOf, IsIn, IsStrip, is_holding, place_in}
use Rattle.mesh_types.specs.StripPolygons.{corner}
use Rattle.mesh_types.specs.Crossings.{is_at_side, is_crossing}
use Rattle.mesh_types.proofs.Gathered.{all_of_each, Contains-filter, Contains-flat_map, Contains-map}
use Rattle.mesh_types.proofs.Opposites.{opposite_small}
use Rattle.mesh_types.proofs.RegionLaws.{cell_there, own_region, stack, woven}
use Rattle.mesh_types.proofs.SidePlaces.{at_most}
use Rattle.contour_mesh.proofs.RingWalks.{IsBack}

-- ---- what lies beyond an edge with the code of a region

pub record IsNamedBeyond (cells : List Cell) (regions : Regions) (q dir : ℕ) (cell : Cell) : Type 0 where
  pub other : Cell
  pub own : Contains cells other
  pub named : is_naming dir cell other.at ≡ true
  pub region : region_at regions other.at ≡ Some q

named_beyond : (cells : List Cell) (regions : Regions) (q dir : ℕ) (cell : Cell) → region_beyond cells regions dir cell ≡ Some q → IsNamedBeyond cells regions q dir cell
named_beyond cells regions q dir cell is =
    option_and_then_some (λ (other : Cell). region_at regions other.at) (find (λ (other : Cell). is_naming dir cell other.at) cells) q is
    (λ other found held.
    let at = found_in (λ (other : Cell). is_naming dir cell other.at) cells other found in
    record {
      other = other;
      own = (at.place, at.there, get_or_default cells at.place other other at.there ∙ at.at);
      named = at.passes;
      region = held;
    })

pub code_named : (window : Window) (cells : List Cell) (regions : Regions) (q dir : ℕ) (cell : Cell) → code_beyond window cells regions dir cell ≡ Region q
    → IsNamedBeyond cells regions q dir cell
code_named window cells regions q dir cell is = by_side (is_crossing window dir cell) is
  where
    by_region : (o : Option ℕ) → region_beyond cells regions dir cell ≡ o → option_map_or Region o Wall ≡ Region q → IsNamedBeyond cells regions q dir cell
    by_region None at h = absurd cc
    by_region (Some r) at h =
        let same : r ≡ q = cc in
        named_beyond cells regions q dir cell (at ∙ ap (λ (n : ℕ). Some n) same)

    by_side : (b : Bool) → (if b then Side dir else option_map_or Region (region_beyond cells regions dir cell) Wall) ≡ Region q → IsNamedBeyond cells regions q dir cell
    by_side true h = absurd cc
    by_side false h = by_region (region_beyond cells regions dir cell) refl h

-- ---- the places of regions

-- the strip of a region that holds a place
pub record IsHeldBy (regions : Regions) (q : ℕ) (at : CellRef) : Type 0 where
  pub there : q < length regions.regions
  pub strip : Strip
  pub own : Contains (strips_in regions q) strip
  pub inside : IsIn strip at.x
  pub place : place_in strip at.x ≡ at

pub held_by : (cells : List Cell) (regions : Regions) → AreRegionsOf cells regions → (q : ℕ) (at : CellRef) → region_at regions at ≡ Some q → IsHeldBy regions q at
held_by cells regions are q at is =
    let d : regions_types.Region = record { strips = [] } in
    let found = position-Some (λ (region : regions_types.Region). list_any (is_holding at) region.strips) regions.regions q d is in
    let any = Any-from_list_any (is_holding at) (strips_in regions q) found.1 in
    let s : Strip = any.1 in
    let own : Contains (strips_in regions q) s = (any.0, any.2, any.3) in
    let strip : IsStrip s = All-contains IsStrip (strips_in regions q) s (stack cells regions are q found.0).strips own in
    let outer = and_parts (s.z == at.z && nat_le s.x0 at.x) (option_map_or (λ level. level == at.level) (slice_get s.levels (at.x - s.x0)) false) any.4 in
    let inner = and_parts (s.z == at.z) (nat_le s.x0 at.x) outer.0 in
    let least : s.x0 ≤ at.x = leb-true s.x0 at.x inner.1 in
    let level = level_in s at (slice_get s.levels (at.x - s.x0)) refl outer.1 in
    let z : s.z ≡ at.z = eqb-true s.z at.z inner.0 in
    record {
      there = found.0;
      strip = s;
      own = own;
      inside = (least, omega (arith, level.0, least, strip.levels));
      place = λ i. record { x = at.x; z = z i; level = level.1 i };
    }
  where
    level_in : (s : Strip) (at : CellRef) (o : Option ℕ) → slice_get s.levels (at.x - s.x0) ≡ o → option_map_or (λ level. level == at.level) o false ≡ true
        → (at.x - s.x0 < length s.levels) × (get_or s.levels (at.x - s.x0) 0 ≡ at.level)
    level_in s at None there h = absurd cc
    level_in s at (Some level) there h =
        (slice_get_within s.levels (at.x - s.x0) level there, get_or_from_slice_get s.levels (at.x - s.x0) level 0 there ∙ eqb-true level at.level h)

-- so the place is one of the region's
pub place_listed : (cells : List Cell) (regions : Regions) → AreRegionsOf cells regions → (q : ℕ) (at : CellRef) → region_at regions at ≡ Some q → Contains (places_in regions q) at
place_listed cells regions are q at is =
    let held = held_by cells regions are q at is in
    let s : Strip = held.strip in
    let k : ℕ = at.x - s.x0 in
    let count : ℕ = s.x1 + 1 - s.x0 in
    let less : k < count = omega (arith, held.inside) in
    let column : Contains (columns s) at.x =
    (k, omega (arith, less, length-range_with_len s.x0 count), get_or-range_with_len s.x0 count k at.x less ∙ omega (arith, held.inside)) in
    let P : CellRef → Type 0 = Contains (places_in regions q) in
    subst P held.place
    (Contains-flat_map (λ (strip : Strip). map (place_in strip) (columns strip)) (strips_in regions q) s (place_in s at.x) held.own
    (Contains-map (place_in s) (columns s) at.x column))

-- a place of a region is that of one of its cells
pub record IsPlaceOf (cells : List Cell) (regions : Regions) (p : ℕ) (at : CellRef) : Type 0 where
  pub own : Contains cells (cell_in cells at)
  pub place : (cell_in cells at).at ≡ at
  pub region : region_at regions at ≡ Some p

pub places_own : (cells : List Cell) (regions : Regions) → AreRegionsOf cells regions → (p : ℕ) → p < length regions.regions
    → All (IsPlaceOf cells regions p) (places_in regions p)
places_own cells regions are p there =
    all_of_each (IsPlaceOf cells regions p) (λ (s : Strip). map (place_in s) (columns s)) (strips_in regions p)
    (λ k d inside. of_strip (get_or (strips_in regions p) k d) (All-contains_itself (strips_in regions p) k d inside)
    ((stack cells regions are p there).strips k d inside))
  where
    of_strip : (s : Strip) → Contains (strips_in regions p) s → IsStrip s → All (IsPlaceOf cells regions p) (map (place_in s) (columns s))
    of_strip s own strip =
        All-map (IsPlaceOf cells regions p) (place_in s) (columns s)
        (λ k d inside.
        let x : ℕ = get_or (columns s) k d in
        let count = length-range_with_len s.x0 (s.x1 + 1 - s.x0) in
        let value : x ≡ s.x0 + k = get_or-range_with_len s.x0 (s.x1 + 1 - s.x0) k d (omega (arith, inside, count)) in
        let in_strip : IsIn s x = (omega (arith, value), omega (arith, value, inside, count, strip.some)) in
        let found = cell_there cells (place_in s x) ((woven cells regions are p there).there s x own in_strip) in
        record { own = found.own; place = found.place; region = own_region cells regions are p there s x own in_strip })

-- ---- an edge, seen from the other side

low_side : (w : ℤ) (a b : ℕ) → w ≤ℤ pos a → pos b ≤ℤ w → a < b → ⊥
low_side w a b low high h = omega (arith, ints)

high_side : (w : ℤ) (a b : ℕ) → pos a ≤ℤ w → w ≤ℤ pos b → b < a → ⊥
high_side w a b low high h = omega (arith, ints)

-- a column toward which another lies in the tile is not at that side
pub beyond_side : (dir : ℕ) (window : Window) (from to : CellRef) → dir < 4 → is_toward dir from to ≡ true → IsInWindow window to.x to.z → is_at_side window dir from ≡ false
beyond_side zero window from to small toward inside =
    let at = both_equal (to.x + 1) from.x to.z from.z toward in
    false_from_ne_true (is_at_side window 0 from) (λ h. low_side window.x0 to.x from.x inside.x_least (at_most (pos from.x) window.x0 h) (omega (arith, at.0)))
beyond_side (suc zero) window from to small toward inside =
    let at = both_equal to.x from.x to.z (from.z + 1) toward in
    false_from_ne_true (is_at_side window 1 from) (λ h. high_side window.z1 to.z from.z inside.z_most (at_most window.z1 (pos from.z) h) (omega (arith, at.1)))
beyond_side (suc (suc zero)) window from to small toward inside =
    let at = both_equal to.x (from.x + 1) to.z from.z toward in
    false_from_ne_true (is_at_side window 2 from) (λ h. high_side window.x1 to.x from.x inside.x_most (at_most window.x1 (pos from.x) h) (omega (arith, at.0)))
beyond_side (suc (suc (suc zero))) window from to small toward inside =
    let at = both_equal to.x from.x (to.z + 1) from.z toward in
    false_from_ne_true (is_at_side window 3 from) (λ h. low_side window.z0 to.z from.z inside.z_least (at_most (pos from.z) window.z0 h) (omega (arith, at.1)))
beyond_side (suc (suc (suc (suc dir)))) window from to small toward inside = absurd (omega (arith, small))

same_corner : (x x' z z' : ℕ) → x ≡ x' → z ≡ z' → corner x z ≡ corner x' z'
same_corner x x' z z' ex ez = λ i. corner (ex i) (ez i)

-- the edge of the cell that is named, in the opposite direction, is the same, turned round
edges_meet : (dir : ℕ) (from to : CellRef) → dir < 4 → is_toward dir from to ≡ true
    → (edge_beginning (opposite dir) to ≡ edge_ending dir from) × (edge_ending (opposite dir) to ≡ edge_beginning dir from)
edges_meet zero from to small toward =
    let at = both_equal (to.x + 1) from.x to.z from.z toward in
    (same_corner _ _ _ _ at.0 at.1, same_corner _ _ _ _ at.0 (omega (arith, at.1)))
edges_meet (suc zero) from to small toward =
    let at = both_equal to.x from.x to.z (from.z + 1) toward in
    (same_corner _ _ _ _ at.0 at.1, same_corner _ _ _ _ (omega (arith, at.0)) at.1)
edges_meet (suc (suc zero)) from to small toward =
    let at = both_equal to.x (from.x + 1) to.z from.z toward in
    (same_corner _ _ _ _ at.0 (omega (arith, at.1)), same_corner _ _ _ _ at.0 at.1)
edges_meet (suc (suc (suc zero))) from to small toward =
    let at = both_equal to.x from.x (to.z + 1) from.z toward in
    (same_corner _ _ _ _ (omega (arith, at.0)) at.1, same_corner _ _ _ _ at.0 at.1)
edges_meet (suc (suc (suc (suc dir)))) from to small toward = absurd (omega (arith, small))

-- the edge on the other side
pub record HasOtherEdge (window : Window) (cells : List Cell) (regions : Regions) (p q : ℕ) (edge : UnitEdge) : Type 0 where
  pub other : UnitEdge
  pub listed : Contains (rim_of window cells regions q) other
  pub back : IsBack edge other (Region p)
  pub apart : p ≡ q → ⊥

module _ (window : Window) (cells : List Cell) (regions : Regions) (cut : IsCut cells)
    (inside : All (λ (cell : Cell). IsInWindow window cell.at.x cell.at.z) cells) (are : AreRegionsOf cells regions) where
  -- a cell is the one that is found at its place
  pub cell_is : (cell : Cell) → Contains cells cell → cell_in cells cell.at ≡ cell
  cell_is cell own =
      let found = cell_there cells cell.at (own.0, cell, own.1, own.2, refl) in
      let i : ℕ = found.own.0 in
      let same : i ≡ own.0 =
      one_index cells cut.rules i own.0 cell found.own.1 own.1
      (ap (λ (c : Cell). c.at) (get_or_default cells i cell (cell_in cells cell.at) found.own.1 ∙ found.own.2) ∙ found.place ∙ sym (ap (λ (c : Cell). c.at) own.2)) in
      sym found.own.2 ∙ get_or_default cells i (cell_in cells cell.at) cell found.own.1 ∙ ap (λ k. get_or cells k cell) same ∙ own.2

  -- the region of the cell that a cell names
  region_named : (dir p : ℕ) (cell other : Cell) → dir < 4 → Contains cells other → is_naming dir cell other.at ≡ true → region_at regions other.at ≡ Some p
      → region_beyond cells regions dir cell ≡ Some p
  region_named dir p cell other small own named held =
      let test : Cell → Bool = λ (c : Cell). is_naming dir cell c.at in
      let found = first_found test cells own.0 other own.1 (ap test own.2 ∙ named) in
      ap (λ (o : Option Cell). option_and_then (λ (c : Cell). region_at regions c.at) o) found.is
      ∙ ap (region_at regions) (names_one dir cell _ _ small found.passes named)
      ∙ held

  -- the edge of a place of the region p toward the region q
  turned_edge : (p q dir : ℕ) (at : CellRef) → dir < 4 → IsPlaceOf cells regions p at → is_rim cells regions p dir (cell_in cells at) ≡ true
      → (edge_of window cells regions dir at).code ≡ Region q → HasOtherEdge window cells regions p q (edge_of window cells regions dir at)
  turned_edge p q dir at small place rim coded =
      let cell : Cell = cell_in cells at in
      let beyond = code_named window cells regions q dir cell coded in
      let other : Cell = beyond.other in
      let toward : is_toward dir cell.at other.at ≡ true = (and_parts (is_toward dir cell.at other.at) _ beyond.named).0 in
      let P : CellRef → Type 0 = λ from. is_toward dir from other.at ≡ true in
      let meet = edges_meet dir at other.at small (subst P place.place toward) in
      let small' = opposite_small dir small in
      let back : is_naming (opposite dir) other cell.at ≡ true = cut.named_back dir cell other small place.own beyond.own beyond.named in
      let other_is = cell_is other beyond.own in
      let held : region_at regions cell.at ≡ Some p = ap (region_at regions) place.place ∙ place.region in
      let region : region_beyond cells regions (opposite dir) other ≡ Some p = region_named (opposite dir) p other cell small' place.own back held in
      let apart : (p == q) ≡ false = ne_eqb p q (λ same.
      both_ways (is_rim cells regions p dir cell)
      (ap (λ o. not (option_map_or (λ r. r == p) o false)) (region_named dir q cell other small beyond.own beyond.named beyond.region)
      ∙ ap not (eq-eqb q p (sym same))) rim) in
      let not_side : is_at_side window (opposite dir) other.at ≡ false =
      beyond_side (opposite dir) window other.at cell.at small' (and_parts (is_toward (opposite dir) other.at cell.at) _ back).0
      (All-contains (λ (c : Cell). IsInWindow window c.at.x c.at.z) cells cell inside place.own) in
      let code : code_beyond window cells regions (opposite dir) (cell_in cells other.at) ≡ Region p =
      ap (code_beyond window cells regions (opposite dir)) other_is
      ∙ ap (λ b. if (b && is_some (next_level other (opposite dir))) then Side (opposite dir) else option_map_or Region (region_beyond cells regions (opposite dir) other) Wall) not_side
      ∙ ap (λ o. option_map_or Region o Wall) region in
      let rim' : is_rim cells regions q (opposite dir) (cell_in cells other.at) ≡ true =
      ap (is_rim cells regions q (opposite dir)) other_is ∙ ap (λ o. not (option_map_or (λ r. r == q) o false)) region ∙ ap not apart in
      let dirs : Contains (range_with_len 0 4) (opposite dir) =
      (opposite dir, omega (arith, small', length-range_with_len 0 4), get_or-range_with_len 0 4 (opposite dir) (opposite dir) small' ∙ omega arith) in
      record {
        other = edge_of window cells regions (opposite dir) other.at;
        listed = Contains-flat_map (rim_edges_of window cells regions q) (places_in regions q) other.at (edge_of window cells regions (opposite dir) other.at)
            (place_listed cells regions are q other.at beyond.region)
            (Contains-map (λ dir. edge_of window cells regions dir other.at) (filter (λ dir. is_rim cells regions q dir (cell_in cells other.at)) (range_with_len 0 4)) (opposite dir)
            (Contains-filter (λ dir. is_rim cells regions q dir (cell_in cells other.at)) (range_with_len 0 4) (opposite dir) dirs rim'));
        back = record { begins = meet.0; ends = meet.1; coded = code };
        apart = eqb-false p q apart;
      }

  -- so each edge of a rim toward another region is an edge of that region's rim, turned round
  pub rims_meet : (p q : ℕ) → p < length regions.regions
      → All (λ (edge : UnitEdge). edge.code ≡ Region q → HasOtherEdge window cells regions p q edge) (rim_of window cells regions p)
  rims_meet p q there =
      let P : UnitEdge → Type 0 = λ edge. edge.code ≡ Region q → HasOtherEdge window cells regions p q edge in
      let own = places_own cells regions are p there in
      all_of_each P (rim_edges_of window cells regions p) (places_in regions p)
      (λ k d inside'.
      let at : CellRef = get_or (places_in regions p) k d in
      let test : ℕ → Bool = λ dir. is_rim cells regions p dir (cell_in cells at) in
      All-map P (λ dir. edge_of window cells regions dir at) (filter test (range_with_len 0 4))
      (λ j e there'.
      let dir : ℕ = get_or (filter test (range_with_len 0 4)) j e in
      let small : dir < 4 = All-filter test (λ x. x < 4) (range_with_len 0 4)
      (λ i f less. omega (arith, less, length-range_with_len 0 4, get_or-range_with_len 0 4 i f (omega (arith, less, length-range_with_len 0 4)))) j e there' in
      turned_edge p q dir at small (own k d inside') (filter_passes test (range_with_len 0 4) j e there')))
