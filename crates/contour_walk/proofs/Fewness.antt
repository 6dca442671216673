-- How many edges a contour has: at most four for each cell of its tile.
use Rattle.std.proofs.Common.{◌≡◌, ℕ, ◌+◌, ◌-◌, ◌*◌, ◌<◌, ◌≤◌, Bool, true, false, cond, length, List, [], ◌∷◌, get_or, map, ap, ◌∙◌, refl, arith}
use Rattle.std.specs.Prelude.{Contains, filter}
use Rattle.std.specs.List.{sum_by, count_by, range_with_len}
use Rattle.std.proofs.lemmas.Bool.{both_ways}
use Rattle.std.proofs.lemmas.List.{length-map}
use Rattle.std.proofs.lemmas.List.Concat.{length-flat_map}
use Rattle.std.proofs.lemmas.List.Elements.{Contains-get_or}
use Rattle.std.proofs.lemmas.List.FromFn.{length-range_with_len}
use Rattle.std.proofs.lemmas.List.Sorted.{length_permutation}
use Rattle.std.proofs.lemmas.List.Sums.{sum_by-cons, length-filter, count_by-le-length}
use Rattle.nav_ground.specs.declared.cell.Cell.{Cell}
use Rattle.nav_ground.specs.declared.cell.CellRef.{CellRef}
use Rattle.nav_ground.specs.declared.cell.Window.{Window}
use Rattle.mesh_types.specs.declared.region.Strip.{Strip}
use Rattle.mesh_types.specs.declared.region.Region.{Region}
use Rattle.mesh_types.specs.declared.region.Regions.{Regions}
use Rattle.mesh_types.specs.declared.region.UnitEdge.{UnitEdge}
use Rattle.mesh_types.specs.Regions.{is_holding, place_in, IsIn, IsStrip, IsStack, IsWoven, AreRegionsOf}
use Rattle.mesh_types.specs.Contours.{cell_in, columns, edge_of, is_at, is_rim, places_in, rim_edges_of, rim_of, strips_in, IsContour}
use Rattle.mesh_types.proofs.Totals.{once_in_range, sum_by-exchanged, sum_by-no_more, sum_by-one, sum_by-range_no_more, sum_by-zero}
use Rattle.mesh_types.proofs.Counted.{counted, some_counted}
use Rattle.mesh_types.proofs.RegionLaws.{is_at_place, place_is, holds_own}
use Rattle.contour_walk.proofs.Contoured.{term_most}

fours : {X : Type 0} (xs : List X) → sum_by (λ x. 4) xs ≡ 4 * length xs
fours [] = refl
fours (x ∷ xs) = omega (arith, sum_by-cons (λ y. 4) x xs, fours xs)

-- a strip holds a cell in one of its columns, or in none
module _ (s : Strip) (strip : IsStrip s) (cell : Cell) where
  same_column : (i j : ℕ) → i < j → is_at (place_in s i) cell ≡ true → is_at (place_in s j) cell ≡ true → ⊥
  same_column i j less here here' =
      let at = ap (λ (p : CellRef). p.x) (place_is cell.at (place_in s i) here) in
      let at' = ap (λ (p : CellRef). p.x) (place_is cell.at (place_in s j) here') in
      absurd (omega (arith, less, at, at'))

  nowhere : is_holding cell.at s ≡ false → (x : ℕ) → IsIn s x → (test : Bool) → is_at (place_in s x) cell ≡ test → cond test 1 0 ≤ 0
  nowhere none x inside true here =
      absurd (both_ways (is_holding cell.at s) none (ap (λ at. is_holding at s) (place_is cell.at (place_in s x) here) ∙ holds_own s x strip inside))
  nowhere none x inside false here = omega arith

  held_once : (test : Bool) → is_holding cell.at s ≡ test → sum_by (λ x. cond (is_at (place_in s x) cell) 1 0) (columns s) ≤ cond test 1 0
  held_once true holds = once_in_range (λ x. is_at (place_in s x) cell) 1 s.x0 (s.x1 + 1 - s.x0) (λ i j less there here here'. same_column i j less here here')
  held_once false holds =
      let none = sum_by-range_no_more (λ x. cond (is_at (place_in s x) cell) 1 0) (λ x. 0) s.x0 (s.x1 + 1 - s.x0)
      (λ x least most. nowhere holds x (least, omega (arith, least, most)) (is_at (place_in s x) cell) refl) in
      omega (arith, none, sum_by-zero (columns s))

module _ (window : Window) (cells : List Cell) (regions : Regions) (are : AreRegionsOf cells regions) (id : ℕ) (there : id < length regions.regions) where
  region : Region
  region = get_or regions.regions id (record { strips = [] })

  -- a strip has no more columns than it holds cells
  columns_held : (s : Strip) → Contains (strips_in regions id) s → IsStrip s → length (columns s) ≤ counted (λ (cell : Cell). is_holding cell.at s) cells
  columns_held s has strip =
      let woven : IsWoven cells (get_or regions.regions id (record { strips = [] })) = are.woven id (record { strips = [] }) there in
      let some = sum_by-range_no_more (λ x. 1) (λ x. counted (λ (cell : Cell). is_at (place_in s x) cell) cells) s.x0 (s.x1 + 1 - s.x0)
      (λ x least most.
      let any = woven.there s x has (least, omega (arith, least, most)) in
      some_counted (λ (cell : Cell). is_at (place_in s x) cell) cells any.0 any.1 any.2
      (is_at_place (get_or cells any.0 any.1).at (place_in s x) (ap (λ (c : Cell). c.at) any.3 ∙ any.4))) in
      let each = sum_by-no_more (λ (cell : Cell). sum_by (λ x. cond (is_at (place_in s x) cell) 1 0) (columns s)) (λ (cell : Cell). cond (is_holding cell.at s) 1 0) cells
      (λ k d _. held_once s strip (get_or cells k d) (is_holding (get_or cells k d).at s) refl) in
      omega (
        arith,
        sum_by-one (columns s),
        some,
        sum_by-exchanged (λ x (cell : Cell). cond (is_at (place_in s x) cell) 1 0) (columns s) cells,
        each,
      )

  -- so a region has no more places than there are cells
  few_places : length (places_in regions id) ≤ length cells
  few_places =
      let strips : List Strip = strips_in regions id in
      let stack : IsStack (get_or regions.regions id (record { strips = [] })) = are.stacks id (record { strips = [] }) there in
      let most = sum_by-no_more (λ (s : Strip). length (map (place_in s) (columns s))) (λ (s : Strip). counted (λ (cell : Cell). is_holding cell.at s) cells) strips
      (λ k d inside.
      omega (
        arith,
        length-map (columns (get_or strips k d)) (place_in (get_or strips k d)),
        columns_held (get_or strips k d) (Contains-get_or strips k d inside) (stack.strips k d inside),
      )) in
      let once = sum_by-no_more (λ (cell : Cell). sum_by (λ (s : Strip). cond (is_holding cell.at s) 1 0) strips) (λ (cell : Cell). 1) cells
      (λ k d inside.
      omega (
        arith,
        term_most (λ (r : Region). count_by (is_holding (get_or cells k d).at) r.strips) regions.regions id (record { strips = [] }) there,
        are.once k d inside,
      )) in
      omega (
        arith,
        length-flat_map (λ (s : Strip). map (place_in s) (columns s)) strips,
        most,
        sum_by-exchanged (λ (s : Strip) (cell : Cell). cond (is_holding cell.at s) 1 0) strips cells,
        once,
        sum_by-one cells,
      )

  four_a_place : (at : CellRef) → length (rim_edges_of window cells regions id at) ≤ 4
  four_a_place at =
      let p : ℕ → Bool = λ dir. is_rim cells regions id dir (cell_in cells at) in
      omega (
        arith,
        length-map (filter p (range_with_len 0 4)) (λ dir. edge_of window cells regions dir at),
        length-filter p (range_with_len 0 4),
        count_by-le-length p (range_with_len 0 4),
        length-range_with_len 0 4,
      )

  pub contour_few : (edges : List UnitEdge) → IsContour window cells regions id edges → length edges ≤ 4 * length cells
  contour_few edges contour =
      let places : List CellRef = places_in regions id in
      let most = sum_by-no_more (λ (at : CellRef). length (rim_edges_of window cells regions id at)) (λ (at : CellRef). 4) places (λ k d _. four_a_place (get_or places k d)) in
      omega (
        arith,
        length_permutation (rim_of window cells regions id) edges contour.rim,
        length-flat_map (rim_edges_of window cells regions id) places,
        most,
        fours places,
        few_places,
      )
