-- The walk round a region, begun at any of its corners, is a contour and a ring.
use Rattle.std.proofs.Common.{◌≡◌, ℕ, ◌+◌, ◌-◌, ◌<◌, ◌≤◌, Bool, List, ◌∷◌, ◌++◌, get_or, map, ap, ◌∙◌, sym, refl, subst, arith, Option, Some, None}
use Rattle.std.specs.Prelude.{unsigned_abs, All, Contains, take, drop, unwrap_or, ◌==◌, ◌&&◌}
use Rattle.std.specs.List.{filter, find, range_with_len, sum_by}
use Rattle.std.specs.List.Sorted.{IsPermutation}
use Rattle.std.proofs.lemmas.Bool.{and_from, eq-eqb}
use Rattle.std.proofs.lemmas.Int.{ints}
use Rattle.std.proofs.lemmas.List.{take-append-drop}
use Rattle.std.proofs.lemmas.List.Elements.{All-map, All-filter, All-contains_itself}
use Rattle.std.proofs.lemmas.List.FromFn.{get_or-range_with_len, length-range_with_len}
use Rattle.std.proofs.lemmas.List.Sums.{sum_by-append}
use Rattle.std.proofs.lemmas.List.Sorted.{All-permutation}
use Rattle.nav_base.specs.declared.point.Point.{Point}
use Rattle.nav_base.specs.Point.{IsCellCorner}
use Rattle.nav_ground.specs.declared.cell.Cell.{Cell}
use Rattle.nav_ground.specs.declared.cell.CellRef.{CellRef}
use Rattle.nav_ground.specs.declared.cell.Window.{Window}
use Rattle.nav_ground.specs.Cells.{IsCells}
use Rattle.nav_ground.proofs.Found.{found_in}
use Rattle.nav_ground.proofs.Kept.{AllPairs-map}
use Rattle.mesh_types.specs.declared.region.Strip.{Strip}
use Rattle.mesh_types.specs.declared.region.Regions.{Regions}
use Rattle.mesh_types.specs.declared.region.UnitEdge.{UnitEdge}
use Rattle.mesh_types.specs.StripPolygons.{corner, some_cell}
use Rattle.mesh_types.specs.Regions.{place_in}
use Rattle.mesh_types.specs.Contours.{is_at, cell_in, is_rim, edge_of, columns, strips_in, places_in, rim_edges_of, rim_of}
use Rattle.mesh_types.specs.Rings.{beginnings, endings, AreApart, IsRing}
use Rattle.contour_walk.specs.Walk.{edge_at, round}
use Rattle.contour_walk.proofs.Sums.{AreRows}
use Rattle.contour_walk.proofs.Corners.{spot, round_begun}
use Rattle.contour_walk.proofs.Paths.{IsPath, path_turned, path_closed, AreDrawn, round_path}
use Rattle.mesh_types.proofs.Gathered.{all_of_each, all_four}
use Rattle.mesh_types.proofs.Counted.{once_apart}
use Rattle.contour_walk.proofs.Permuted.{edges_permuted}
use Rattle.contour_walk.proofs.Rims.{IsFabric}
use Rattle.contour_walk.proofs.RimSums.{rim_is_round}

-- a cell lies in the field
small_cell : (cells : List Cell) → IsCells cells → (at : CellRef) → ((cell_in cells at).at.x < 1024) × ((cell_in cells at).at.z < 1024)
small_cell cells rules' at = by_case (find (is_at at) cells) refl
  where
    by_case : (o : Option Cell) → find (is_at at) cells ≡ o → ((unwrap_or o some_cell).at.x < 1024) × ((unwrap_or o some_cell).at.z < 1024)
    by_case None is = (omega arith, omega arith)
    by_case (Some cell) is =
        let found = found_in (is_at at) cells cell is in
        let r = rules'.each found.place cell found.there in
        let P : Cell → Type 0 = λ c. (c.at.x < 1024) × (c.at.z < 1024) in
        subst P found.at (r.x, r.z)

-- the edges of a place in the field begin at corners of cells, and lead elsewhere
abbrev pub IsFit : UnitEdge → Type 0
IsFit edge = IsCellCorner edge.from × AreApart edge.from edge.to

corner_fits : (x z : ℕ) → x ≤ 1024 → z ≤ 1024 → IsCellCorner (corner x z)
corner_fits x z small small' = record {
  left = omega (arith, ints);
  right = omega (arith, ints);
  bottom = omega (arith, ints);
  top = omega (arith, ints);
}

x_of : (x z x' z' : ℕ) → corner x z ≡ corner x' z' → x ≡ x'
x_of x z x' z' same = ap (λ (p : Point). unsigned_abs p.x) same

z_of : (x z x' z' : ℕ) → corner x z ≡ corner x' z' → z ≡ z'
z_of x z x' z' same = ap (λ (p : Point). unsigned_abs p.z) same

edge_fits : (window : Window) (cells : List Cell) (regions : Regions) (at : CellRef) → at.x < 1024 → at.z < 1024
    → All (λ dir. IsFit (edge_of window cells regions dir at)) (range_with_len 0 4)
edge_fits window cells regions at small small' =
    all_four (λ dir. IsFit (edge_of window cells regions dir at))
    (corner_fits at.x (at.z + 1) (omega (arith, small)) (omega (arith, small')), λ e. omega (arith, z_of at.x (at.z + 1) at.x at.z e))
    (corner_fits (at.x + 1) (at.z + 1) (omega (arith, small)) (omega (arith, small')), λ e. omega (arith, x_of (at.x + 1) (at.z + 1) at.x (at.z + 1) e))
    (corner_fits (at.x + 1) at.z (omega (arith, small)) (omega (arith, small')), λ e. omega (arith, z_of (at.x + 1) at.z (at.x + 1) (at.z + 1) e))
    (corner_fits at.x at.z (omega (arith, small)) (omega (arith, small')), λ e. omega (arith, x_of at.x at.z (at.x + 1) at.z e))

module _
    (window : Window) (cells : List Cell) (regions : Regions) (id : ℕ) (cells_rules : IsCells cells)
    (fabric : IsFabric cells regions id) (strip : Strip) (rest : List Strip) (is : strips_in regions id ≡ strip ∷ rest) (rows : AreRows (strip ∷ rest)) where
  abbrev pub edge : ℕ → Strip → ℕ → UnitEdge
  edge = edge_at window cells regions

  abbrev pub walk : List UnitEdge
  walk = round edge (strip ∷ rest)

  -- so are all edges of the rim
  rim_fits : All IsFit (rim_of window cells regions id)
  rim_fits =
      all_of_each IsFit (rim_edges_of window cells regions id) (places_in regions id)
      (all_of_each (λ (at : CellRef). All IsFit (rim_edges_of window cells regions id at))
      (λ (s : Strip). map (place_in s) (columns s)) (strips_in regions id)
      (λ k d there. each (get_or (strips_in regions id) k d) (All-contains_itself (strips_in regions id) k d there) (fabric.strips k d there).some))
    where
      one : (at : CellRef) → at.x < 1024 → at.z < 1024 → All IsFit (rim_edges_of window cells regions id at)
      one at small small' =
          let test : ℕ → Bool = λ dir. is_rim cells regions id dir (cell_in cells at) in
          All-map IsFit (λ dir. edge_of window cells regions dir at) (filter test (range_with_len 0 4))
          (All-filter test (λ dir. IsFit (edge_of window cells regions dir at)) (range_with_len 0 4)
          (edge_fits window cells regions at small small'))

      each : (s : Strip) → Contains (strips_in regions id) s → s.x0 ≤ s.x1
          → All (λ (at : CellRef). All IsFit (rim_edges_of window cells regions id at)) (map (place_in s) (columns s))
      each s own ordered =
          All-map (λ (at : CellRef). All IsFit (rim_edges_of window cells regions id at)) (place_in s) (columns s)
          (λ k d there.
          let x : ℕ = get_or (columns s) k d in
          let count = length-range_with_len s.x0 (s.x1 + 1 - s.x0) in
          let value : x ≡ s.x0 + k = get_or-range_with_len s.x0 (s.x1 + 1 - s.x0) k d (omega (arith, there, count)) in
          let small = small_cell cells cells_rules (place_in s x) in
          let at = fabric.there s x own (omega (arith, value), omega (arith, value, there, count, ordered)) in
          one (place_in s x) (omega (arith, small.0, ap (λ (r : CellRef). r.x) at)) (omega (arith, small.1, ap (λ (r : CellRef). r.z) at)))

  drawn : AreDrawn (λ (e : UnitEdge). e.from) (λ (e : UnitEdge). e.to) corner edge
  drawn = record {
    left_from = λ s x. refl;
    left_to = λ s x. refl;
    top_from = λ s x. refl;
    top_to = λ s x. refl;
    right_from = λ s x. refl;
    right_to = λ s x. refl;
    bottom_from = λ s x. refl;
    bottom_to = λ s x. refl;
  }

  -- the walk, begun at another of its corners
  module _ (m : ℕ) (edges : List UnitEdge) (turned : edges ≡ drop m walk ++ take m walk) where
    turned_sum : (g : UnitEdge → ℕ) → sum_by g edges ≡ sum_by g walk
    turned_sum g =
        omega (
          arith,
          ap (sum_by g) turned,
          sum_by-append g (drop m walk) (take m walk),
          sum_by-append g (take m walk) (drop m walk),
          ap (sum_by g) (take-append-drop m walk),
        )

    pub turned_rim : IsPermutation (rim_of window cells regions id) edges
    turned_rim =
        edges_permuted (rim_of window cells regions id) edges (λ g.
        rim_is_round window cells regions id fabric g (let P : List Strip → Type 0 = AreRows in subst P (sym is) rows)
        ∙ ap (λ strips. sum_by g (round edge strips)) is
        ∙ sym (turned_sum g))

    pub turned_closed : endings edges ≡ drop 1 (beginnings edges) ++ take 1 (beginnings edges)
    turned_closed =
        let Q : List UnitEdge → Type 0 = λ es. IsPath (λ (e : UnitEdge). e.from) (λ (e : UnitEdge). e.to) (corner strip.x0 strip.z) es (corner strip.x0 strip.z) in
        let path = subst Q (sym (take-append-drop m walk))
        (round_path (λ (e : UnitEdge). e.from) (λ (e : UnitEdge). e.to) corner edge drawn strip rest rows) in
        let again = path_turned (λ (e : UnitEdge). e.from) (λ (e : UnitEdge). e.to) (corner strip.x0 strip.z) (take m walk) (drop m walk) path in
        let R : List UnitEdge → Type 0 = λ es. endings es ≡ drop 1 (beginnings es) ++ take 1 (beginnings es) in
        subst R (sym turned) (path_closed (λ (e : UnitEdge). e.from) (λ (e : UnitEdge). e.to) again.0 (drop m walk ++ take m walk) again.1)

    begun_once : (vx vz : ℕ) → sum_by (λ (e : UnitEdge). spot vx vz (unsigned_abs e.from.x) (unsigned_abs e.from.z)) edges ≤ 1
    begun_once vx vz =
        let g : UnitEdge → ℕ = λ (e : UnitEdge). spot vx vz (unsigned_abs e.from.x) (unsigned_abs e.from.z) in
        omega (
          arith,
          turned_sum g,
          round_begun edge g vx vz (λ s x. refl) (λ s x. refl) (λ s x. refl) (λ s x. refl) (strip ∷ rest) rows,
        )

    pub turned_ring : IsRing edges
    turned_ring =
        let fits : All IsFit edges = All-permutation IsFit (rim_of window cells regions id) edges turned_rim rim_fits in
        record {
          closed = turned_closed;
          apart = AllPairs-map AreApart (λ (e : UnitEdge). e.from) edges (λ i j d less there same.
              let v : Point = (get_or edges i d).from in
              let x : unsigned_abs (get_or edges j d).from.x ≡ unsigned_abs v.x = ap (λ (p : Point). unsigned_abs p.x) (sym same) in
              let z : unsigned_abs (get_or edges j d).from.z ≡ unsigned_abs v.z = ap (λ (p : Point). unsigned_abs p.z) (sym same) in
              once_apart (λ (e : UnitEdge). unsigned_abs e.from.x == unsigned_abs v.x && unsigned_abs e.from.z == unsigned_abs v.z) edges i j d
              (begun_once (unsigned_abs v.x) (unsigned_abs v.z)) less there
              (and_from _ _ (eq-eqb (unsigned_abs v.x) (unsigned_abs v.x) refl) (eq-eqb (unsigned_abs v.z) (unsigned_abs v.z) refl))
              (and_from _ _ (eq-eqb (unsigned_abs (get_or edges j d).from.x) (unsigned_abs v.x) x) (eq-eqb (unsigned_abs (get_or edges j d).from.z) (unsigned_abs v.z) z)));
          moving = λ k d there. (fits k d there).1;
          inside = All-map IsCellCorner (λ (e : UnitEdge). e.from) edges (λ k d there. (fits k d there).0);
        }
