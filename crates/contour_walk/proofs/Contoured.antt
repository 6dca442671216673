-- What the code needs of the regions of a tile's cells, and what its walk gives.
use Rattle.std.proofs.Common.{◌≡◌, ℕ, ◌+◌, ◌-◌, ◌<◌, ◌≤◌, true, length, List, [], ◌∷◌, ◌++◌, get_or, ap, ◌∙◌, sym, refl, subst, arith, zero, suc}
use Rattle.std.specs.Prelude.{All, take, drop}
use Rattle.std.specs.List.{sum_by, count_by, range_with_len}
use Rattle.std.specs.List.Sorted.{IsPermutation}
use Rattle.std.proofs.lemmas.List.{drop_more, get_or_default, length-append, length-map}
use Rattle.std.proofs.lemmas.List.FromFn.{length-range_with_len}
use Rattle.std.proofs.lemmas.List.Elements.{All-append, All-drop, All-take, Contains-get_or}
use Rattle.std.proofs.lemmas.List.Sums.{sum_by-cons}
use Rattle.nav_ground.specs.declared.cell.Cell.{Cell}
use Rattle.nav_ground.specs.declared.cell.CellRef.{CellRef}
use Rattle.nav_ground.specs.declared.cell.Window.{Window}
use Rattle.nav_ground.specs.Cells.{IsCells}
use Rattle.mesh_types.specs.declared.region.Strip.{Strip}
use Rattle.mesh_types.specs.declared.region.Region.{Region}
use Rattle.mesh_types.specs.declared.region.Regions.{Regions}
use Rattle.mesh_types.specs.declared.region.UnitEdge.{UnitEdge}
use Rattle.mesh_types.specs.Regions.{is_holding, times_held, IsStrip, IsStack, IsIn, IsWoven, AreRegionsOf}
use Rattle.mesh_types.specs.Rings.{beginnings, endings, IsRing}
use Rattle.mesh_types.specs.Contours.{strips_in, rim_of, IsContour}
use Rattle.mesh_types.proofs.Totals.{sum_by-exchanged, sum_by-one, sum_by-no_more}
use Rattle.contour_walk.specs.Tables.{IsFit}
use Rattle.contour_walk.specs.Walk.{edge_at, bottoms, right_side, top_side, left_side, round, AreUpon}
use Rattle.contour_walk.proofs.Sums.{AreRows, first_ordered}
use Rattle.mesh_types.proofs.Counted.{some_counted}
use Rattle.contour_walk.proofs.RimSums.{rows_of}
use Rattle.mesh_types.proofs.RegionLaws.{holds_own}
use Rattle.contour_walk.proofs.Fabric.{fabric}
use Rattle.contour_walk.proofs.Turned.{turned_rim, turned_closed, turned_ring}
use Rattle.contour_walk.proofs.Earliest.{IsNoLater}

-- a term of a sum is no more than the sum
pub term_most : {X : Type 0} (f : X → ℕ) (xs : List X) (k : ℕ) (d : X) → k < length xs → f (get_or xs k d) ≤ sum_by f xs
term_most f [] k d there = absurd (omega (arith, there))
term_most f (x ∷ xs) zero d there = omega (arith, sum_by-cons f x xs)
term_most f (x ∷ xs) (suc k) d there = omega (arith, sum_by-cons f x xs, term_most f xs k d (omega (arith, there)))

-- the sum over equal terms of one
all_ones : {X : Type 0} (f : X → ℕ) (xs : List X) → All (λ x. f x ≡ 1) xs → sum_by f xs ≤ length xs
all_ones f xs each =
    let most = sum_by-no_more f (λ x. 1) xs (λ k d there. omega (arith, each k d there)) in
    omega (arith, most, sum_by-one xs)

module _ (cells : List Cell) (rules' : IsCells cells) (regions : Regions) (are : AreRegionsOf cells regions) where
  -- a region holds a cell
  some_held : (k : ℕ) (d : Region) → k < length regions.regions
      → 1 ≤ sum_by (λ (cell : Cell). count_by (is_holding cell.at) (get_or regions.regions k d).strips) cells
  some_held k d there =
      let r : Region = get_or regions.regions k d in
      let stack : IsStack r = are.stacks k d there in
      let woven : IsWoven cells r = are.woven k d there in
      let e : Strip = record { z = 0; x0 = 0; x1 = 0; levels = []; area = 0 } in
      let s : Strip = get_or r.strips 0 e in
      let strip : IsStrip s = stack.strips 0 e stack.some in
      let inside : IsIn s s.x0 = (omega arith, strip.some) in
      let any = woven.there s s.x0 (Contains-get_or r.strips 0 e stack.some) inside in
      let held : is_holding (get_or cells any.0 any.1).at s ≡ true =
      ap (λ (cell : Cell). is_holding cell.at s) any.3 ∙ ap (λ at. is_holding at s) any.4 ∙ holds_own s s.x0 strip inside in
      let one : 1 ≤ count_by (is_holding (get_or cells any.0 any.1).at) r.strips = some_counted (is_holding (get_or cells any.0 any.1).at) r.strips 0 e stack.some held in
      let most = term_most (λ (cell : Cell). count_by (is_holding cell.at) r.strips) cells any.0 any.1 any.2 in
      omega (arith, one, most)

  -- so there are no more regions than cells
  pub few_regions : length regions.regions ≤ length cells
  few_regions =
      let held : Region → Cell → ℕ = λ (r : Region) (cell : Cell). count_by (is_holding cell.at) r.strips in
      let ones = all_ones (λ (cell : Cell). times_held cell.at regions) cells are.once in
      let least = sum_by-no_more (λ (r : Region). 1) (λ (r : Region). sum_by (held r) cells) regions.regions (λ k d there. some_held k d there) in
      omega (arith, ones, least, sum_by-one regions.regions, sum_by-exchanged held regions.regions cells)

  -- and their strips lie in the field
  pub strips_fit : (k : ℕ) (d : Region) → k < length regions.regions → All IsFit (get_or regions.regions k d).strips
  strips_fit k d there i e there' =
      let r : Region = get_or regions.regions k d in
      let s : Strip = get_or r.strips i e in
      let strip : IsStrip s = (are.stacks k d there).strips i e there' in
      let any = (are.woven k d there).there s s.x1 (Contains-get_or r.strips i e there') (strip.some, omega arith) in
      let cell = rules'.each any.0 any.1 any.2 in
      let x = ap (λ (c : Cell). c.at.x) any.3 ∙ ap (λ (at : CellRef). at.x) any.4 in
      let z = ap (λ (c : Cell). c.at.z) any.3 ∙ ap (λ (at : CellRef). at.z) any.4 in
      record { columns = strip; x = omega (arith, cell.x, x); z = omega (arith, cell.z, z) }

  module _ (id : ℕ) (there : id < length regions.regions) where
    stack : IsStack (get_or regions.regions id (record { strips = [] }))
    stack = are.stacks id (record { strips = [] }) there

    -- the strips of a region, as the code reads them
    pub strips_read : (slice : List Region) (r : Region) (strips : List Strip) → slice ≡ regions.regions → strips ≡ (get_or slice id r).strips
        → strips ≡ strips_in regions id
    strips_read slice r strips is are' =
        are' ∙ ap (λ (q : Region). q.strips) (ap (λ rs. get_or rs id r) is ∙ get_or_default regions.regions id r (record { strips = [] }) there)

    pub region_some : 0 < length (strips_in regions id)
    region_some = stack.some

    pub region_fits : All IsFit (strips_in regions id)
    region_fits = strips_fit id (record { strips = [] }) there

    pub region_upon : AreUpon (strips_in regions id)
    region_upon = stack.upon

    -- the walk, begun at its least corner, is the contour and a ring
    module _ (window : Window) (walk edges : List UnitEdge) (m : ℕ) (walked : walk ≡ round (edge_at window cells regions) (strips_in regions id))
        (turned : edges ≡ drop m walk ++ take m walk) where
      pub walk_ring : IsRing edges
      walk_ring = by_case (strips_in regions id) refl
        where
          by_case : (strips : List Strip) → strips_in regions id ≡ strips → IsRing edges
          by_case [] is = absurd (omega (arith, region_some, ap length is))
          by_case (strip ∷ rest) is =
              let rows : AreRows (strip ∷ rest) = let P : List Strip → Type 0 = AreRows in subst P is (rows_of (strips_in regions id) stack.strips stack.upon) in
              turned_ring window cells regions id rules' (fabric cells rules' regions are id there) strip rest is rows m edges
              (turned ∙ ap (λ w. drop m w ++ take m w) (walked ∙ ap (round (edge_at window cells regions)) is))

      pub walk_contour : (0 < length walk → m < length walk)
          → ((k : ℕ) (d : UnitEdge) → k < length walk → IsNoLater (get_or walk m d).from (get_or walk k d).from)
          → IsContour window cells regions id edges
      walk_contour inside least =
          record { rim = rim_closed.0; closed = rim_closed.1; least = first }
        where
          by_case : (strips : List Strip) → strips_in regions id ≡ strips
              → IsPermutation (rim_of window cells regions id) edges × (endings edges ≡ drop 1 (beginnings edges) ++ take 1 (beginnings edges)) × (0 < length walk)
          by_case [] is = absurd (omega (arith, region_some, ap length is))
          by_case (strip ∷ rest) is =
              let rows : AreRows (strip ∷ rest) = let P : List Strip → Type 0 = AreRows in subst P is (rows_of (strips_in regions id) stack.strips stack.upon) in
              let walked' : walk ≡ round (edge_at window cells regions) (strip ∷ rest) = walked ∙ ap (round (edge_at window cells regions)) is in
              let turned' = turned ∙ ap (λ w. drop m w ++ take m w) walked' in (
                turned_rim window cells regions id rules' (fabric cells rules' regions are id there) strip rest is rows m edges turned',
                turned_closed window cells regions id rules' (fabric cells rules' regions are id there) strip rest is rows m edges turned',
                some_edges strip rest rows walked',
              )
            where
              some_edges : (strip : Strip) (rest : List Strip) → AreRows (strip ∷ rest) → walk ≡ round (edge_at window cells regions) (strip ∷ rest) → 0 < length walk
              some_edges strip rest rows walked' =
                  let under : List UnitEdge = bottoms (edge_at window cells regions) strip strip.x0 (strip.x1 + 1) in
                  omega (
                    arith,
                    ap length walked',
                    length-append under (right_side (edge_at window cells regions) (strip ∷ rest) ++ (top_side (edge_at window cells regions) (strip ∷ rest) ++ left_side (edge_at window cells regions) (strip ∷ rest))),
                    length-map (range_with_len strip.x0 (strip.x1 + 1 - strip.x0)) (edge_at window cells regions 3 strip),
                    length-range_with_len strip.x0 (strip.x1 + 1 - strip.x0),
                    first_ordered strip rest rows,
                  )

          rim_closed : IsPermutation (rim_of window cells regions id) edges × (endings edges ≡ drop 1 (beginnings edges) ++ take 1 (beginnings edges)) × (0 < length walk)
          rim_closed = by_case (strips_in regions id) refl

          first : (k : ℕ) (d : UnitEdge) → k < length edges → IsNoLater (get_or edges 0 d).from (get_or edges k d).from
          first k d below =
              let here : m < length walk = inside rim_closed.2 in
              let P : UnitEdge → Type 0 = λ e. IsNoLater (get_or walk m d).from e.from in
              let all : All P walk = λ j e there'.
              let Q : UnitEdge → Type 0 = P in
              subst Q (get_or_default walk j d e there') (least j d there') in
              let each : All P edges =
              let R : List UnitEdge → Type 0 = All P in
              subst R (sym turned) (All-append P (drop m walk) (take m walk) (All-drop P m walk all) (All-take P m walk all)) in
              let is : get_or edges 0 d ≡ get_or walk m d =
              ap (λ es. get_or es 0 d) (turned ∙ ap (λ es. es ++ take m walk) (drop_more walk m d here)) in
              let S : UnitEdge → Type 0 = λ e. IsNoLater e.from (get_or edges k d).from in
              subst S (sym is) (each k d below)
