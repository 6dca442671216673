-- The rim of a region, summed: strip by strip what lies at the rim of each between those below and above it.
use Rattle.std.proofs.Common.{◌≡◌, ℕ, ◌+◌, ◌-◌, ◌<◌, Bool, true, false, cond, List, [], ◌∷◌, length, get_or, map, ap, ◌∙◌, sym, refl, subst, arith, suc, Option, Some, None}
use Rattle.std.specs.Prelude.{not, ◌==◌, All, Contains}
use Rattle.std.specs.List.{filter, flat_map, range_with_len, sum_by}
use Rattle.std.proofs.lemmas.List.Elements.{All-head, All-tail, All-contains_itself}
use Rattle.std.proofs.lemmas.List.Sums.{sum_by-cons}
use Rattle.nav_ground.specs.declared.cell.Cell.{Cell}
use Rattle.nav_ground.specs.declared.cell.CellRef.{CellRef}
use Rattle.nav_ground.specs.declared.cell.Window.{Window}
use Rattle.mesh_types.specs.declared.region.Strip.{Strip}
use Rattle.mesh_types.specs.declared.region.Regions.{Regions}
use Rattle.mesh_types.specs.declared.region.UnitEdge.{UnitEdge}
use Rattle.mesh_types.specs.Regions.{IsStrip, IsUpon, IsIn, place_in}
use Rattle.mesh_types.specs.Contours.{cell_in, is_rim, columns, strips_in, places_in, rim_edges_of}
use Rattle.mesh_types.proofs.Totals.{sum_by-map, sum_by-flat_map, sum_by-filter, sum_by-plus}
use Rattle.contour_walk.specs.Walk.{edge_at, round}
use Rattle.contour_walk.proofs.Ranges.{over_same, over_first, over_last}
use Rattle.contour_walk.proofs.Sums.{AreRows, covers, head_of, across, rim_sum, rim_sums, first_ordered, round_is_rims}
use Rattle.contour_walk.proofs.Rims.{IsFabric, has_column, no_lower, StandsOn, stands_next, rim_left, rim_right, rim_top, rim_bottom}

-- a stack of strips is rows that overlap
pub rows_of : (strips : List Strip) → All IsStrip strips
    → ((k : ℕ) (d : Strip) → k + 1 < length strips → IsUpon (get_or strips k d) (get_or strips (k + 1) d)) → AreRows strips
rows_of [] each upon = tt
rows_of (strip ∷ []) each upon = (All-head IsStrip strip [] each).some
rows_of (strip ∷ next ∷ rest) each upon =
    let one = upon 0 strip (omega arith) in (
      (All-head IsStrip strip (next ∷ rest) each).some,
      one.row,
      one.left,
      one.right,
      rows_of (next ∷ rest) (All-tail IsStrip strip (next ∷ rest) each) (λ k d there.
          let one_on : suc k + 1 ≡ suc (k + 1) = omega arith in
          let P : ℕ → Type 0 = λ n. IsUpon (get_or (next ∷ rest) k d) (get_or (strip ∷ next ∷ rest) n d) in
          subst P one_on (upon (suc k) d (omega (arith, there)))),
    )

sum_four : (h : ℕ → ℕ) → sum_by h (range_with_len 0 4) ≡ h 0 + (h 1 + (h 2 + h 3))
sum_four h =
    omega (arith, sum_by-cons h 0 (1 ∷ 2 ∷ 3 ∷ []), sum_by-cons h 1 (2 ∷ 3 ∷ []), sum_by-cons h 2 (3 ∷ []), sum_by-cons h 3 [])

cond_not : (a b : Bool) (n : ℕ) → a ≡ not b → cond a n 0 ≡ cond b 0 n
cond_not a true n is = ap (λ c. cond c n 0) is
cond_not a false n is = ap (λ c. cond c n 0) is

module _ (window : Window) (cells : List Cell) (regions : Regions) (id : ℕ) (fabric : IsFabric cells regions id) (g : UnitEdge → ℕ) where
  abbrev pub edge : ℕ → Strip → ℕ → UnitEdge
  edge = edge_at window cells regions

  -- what lies at the rim of a cell
  at_rim : Option Strip → Strip → Option Strip → ℕ → ℕ
  at_rim below strip above x =
      cond (covers below x) 0 (g (edge 3 strip x)) + cond (covers above x) 0 (g (edge 1 strip x))
      + (cond (x == strip.x0) (g (edge 0 strip x)) 0 + cond (x == strip.x1) (g (edge 2 strip x)) 0)

  cell_sum : (below : Option Strip) (strip : Strip) (rest : List Strip) (x : ℕ) → StandsOn cells regions id fabric below strip rest → IsIn strip x
      → sum_by g (rim_edges_of window cells regions id (place_in strip x)) ≡ at_rim below strip (head_of rest) x
  unfolding at_rim
  cell_sum below strip rest x stands inside =
      let test : ℕ → Bool = λ dir. is_rim cells regions id dir (cell_in cells (place_in strip x)) in
      let weight : ℕ → ℕ = λ dir. g (edge dir strip x) in
      omega (
        arith,
        sum_by-map g (λ dir. edge dir strip x) (filter test (range_with_len 0 4)),
        sum_by-filter weight test (range_with_len 0 4),
        sum_four (λ dir. cond (test dir) (weight dir) 0),
        ap (λ b. cond b (weight 0) 0) (rim_left cells regions id fabric below strip rest x stands inside),
        cond_not (test 1) (covers (head_of rest) x) (weight 1) (rim_top cells regions id fabric below strip rest x stands inside),
        ap (λ b. cond b (weight 2) 0) (rim_right cells regions id fabric below strip rest x stands inside),
        cond_not (test 3) (covers below x) (weight 3) (rim_bottom cells regions id fabric below strip rest x stands inside),
      )

  strip_sum : (below : Option Strip) (strip : Strip) (rest : List Strip) → StandsOn cells regions id fabric below strip rest
      → across strip (λ x. sum_by g (rim_edges_of window cells regions id (place_in strip x))) ≡ rim_sum g edge below strip (head_of rest)
  unfolding at_rim
  strip_sum below strip rest stands =
      let ordered = first_ordered strip rest stands.rows in
      let xs : List ℕ = columns strip in
      let f3 : ℕ → ℕ = λ x. cond (covers below x) 0 (g (edge 3 strip x)) in
      let f1 : ℕ → ℕ = λ x. cond (covers (head_of rest) x) 0 (g (edge 1 strip x)) in
      let f0 : ℕ → ℕ = λ x. cond (x == strip.x0) (g (edge 0 strip x)) 0 in
      let f2 : ℕ → ℕ = λ x. cond (x == strip.x1) (g (edge 2 strip x)) 0 in
      omega (
        arith,
        over_same (λ x. sum_by g (rim_edges_of window cells regions id (place_in strip x))) (at_rim below strip (head_of rest)) strip.x0 (strip.x1 + 1 - strip.x0)
            (λ x least most. cell_sum below strip rest x stands (least, omega (arith, most, ordered))),
        sum_by-plus (λ x. f3 x + f1 x) (λ x. f0 x + f2 x) xs,
        sum_by-plus f3 f1 xs,
        sum_by-plus f0 f2 xs,
        over_first (λ x. g (edge 0 strip x)) strip.x0 strip.x1 ordered,
        over_last (λ x. g (edge 2 strip x)) strip.x0 strip.x1 ordered,
      )

  -- the rims of the cells of a strip
  abbrev pub strip_rim : Strip → ℕ
  strip_rim strip = sum_by (λ (at : CellRef). sum_by g (rim_edges_of window cells regions id at)) (map (place_in strip) (columns strip))

  strips_sum : (below : Option Strip) (strip : Strip) (rest : List Strip) → StandsOn cells regions id fabric below strip rest
      → sum_by strip_rim (strip ∷ rest) ≡ rim_sums g edge below (strip ∷ rest)
  strips_sum below strip [] stands =
      omega (
        arith,
        sum_by-cons strip_rim strip [],
        sum_by-map (λ (at : CellRef). sum_by g (rim_edges_of window cells regions id at)) (place_in strip) (columns strip),
        strip_sum below strip [] stands,
      )
  strips_sum below strip (next ∷ rest) stands =
      omega (
        arith,
        sum_by-cons strip_rim strip (next ∷ rest),
        sum_by-map (λ (at : CellRef). sum_by g (rim_edges_of window cells regions id at)) (place_in strip) (columns strip),
        strip_sum below strip (next ∷ rest) stands,
        strips_sum (Some strip) next rest (stands_next cells regions id fabric below strip next rest stands),
      )

  first_stands : (strip : Strip) (rest : List Strip) → strips_in regions id ≡ strip ∷ rest → AreRows (strip ∷ rest)
      → StandsOn cells regions id fabric None strip rest
  first_stands strip rest is rows =
      record {
        rows = rows;
        own = let P : List Strip → Type 0 = λ strips. All (Contains (strips_in regions id)) strips in subst P is (All-contains_itself (strips_in regions id));
        before = λ p none. absurd cc;
        under = λ z x row. ap (λ strips. has_column strips z x) is ∙ no_lower strip rest z x rows (omega (arith, row));
        from_here = λ z x past. ap (λ strips. has_column strips z x) is;
      }

  -- the walk round a region holds its rim
  pub rim_is_round : AreRows (strips_in regions id)
      → sum_by g (flat_map (rim_edges_of window cells regions id) (places_in regions id)) ≡ sum_by g (round edge (strips_in regions id))
  rim_is_round rows =
      sum_by-flat_map g (rim_edges_of window cells regions id) (places_in regions id)
      ∙ sum_by-flat_map (λ (at : CellRef). sum_by g (rim_edges_of window cells regions id at)) (λ (strip : Strip). map (place_in strip) (columns strip)) (strips_in regions id)
      ∙ by_case (strips_in regions id) refl rows
    where
      by_case : (strips : List Strip) → strips_in regions id ≡ strips → AreRows strips → sum_by strip_rim strips ≡ sum_by g (round edge strips)
      by_case [] is rows = refl
      by_case (strip ∷ rest) is rows =
          strips_sum None strip rest (first_stands strip rest is rows) ∙ sym (round_is_rims g edge (strip ∷ rest) rows)
