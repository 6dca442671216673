-- The contour of a region is a ring of unit steps.
use Rattle.std.proofs.Common.{◌≡◌, ℕ, ◌+◌, ◌-◌, ◌<◌, ◌≤◌, pos, ◌-ℤ◌, List, [], ◌∷◌, ◌++◌, length, get_or, refl, sym, ap, ◌∙◌, arith}
use Rattle.std.specs.Prelude.{All, Contains, filter, unsigned_abs}
use Rattle.std.specs.List.{range_with_len}
use Rattle.std.proofs.lemmas.Int.{ints}
use Rattle.std.proofs.lemmas.List.Elements.{All-filter, All-map, Contains-append_left, Contains-append_right, Contains-push}
use Rattle.std.proofs.lemmas.List.{get_or_default}
use Rattle.std.proofs.lemmas.List.FromFn.{get_or-range_with_len, length-range_with_len}
use Rattle.std.proofs.lemmas.List.Sorted.{All-permutation}
use Rattle.nav_base.specs.declared.point.Point.{Point}
use Rattle.nav_base.specs.Point.{from_to}
use Rattle.nav_base.specs.Deviation.{square_of}
use Rattle.nav_ground.specs.declared.cell.Cell.{Cell}
use Rattle.nav_ground.specs.declared.cell.CellRef.{CellRef}
use Rattle.nav_ground.specs.declared.cell.Window.{Window}
use Rattle.mesh_types.specs.declared.region.Regions.{Regions}
use Rattle.mesh_types.specs.declared.region.Strip.{Strip}
use Rattle.mesh_types.specs.declared.region.UnitEdge.{UnitEdge}
use Rattle.mesh_types.specs.Contours.{contour_of, edge_of, is_rim, cell_in, places_in, rim_edges_of, rim_of, strips_in}
use Rattle.mesh_types.specs.Regions.{IsStack, IsStrip}
use Rattle.mesh_types.specs.Rings.{AreApart}
use Rattle.mesh_types.specs.StripPolygons.{corner}
use Rattle.mesh_types.proofs.Gathered.{Contains-map, all_four, all_of_each}
use Rattle.contour_walk.specs.Walk.{bottoms, edge_at, left_side, right_side, round, to_left_end, top_side}
use Rattle.contour_walk.proofs.ContourRings.{IsContourRing, contour_ring}
use Rattle.outline_laws.specs.UnitRings.{ContoursAreUnitRings, IsUnitStep, RegionsAreNotFlat}
use Rattle.outline_laws.proofs.HalfCells.{square_is}
use Rattle.outline_laws.proofs.KeptCorners.{three_below}
use Rattle.outline_laws.proofs.UnitRings.{not_flat}

-- from one corner of a cell to the next
step_along : (x x' z z' : ℕ) → unsigned_abs (pos x' -ℤ pos x) ≡ 1 → unsigned_abs (pos z' -ℤ pos z) ≡ 0 → square_of (from_to (corner x z) (corner x' z')) ≡ 1
step_along x x' z z' one none = square_is (from_to (corner x z) (corner x' z')) ∙ rw (one, none) refl

step_across : (x x' z z' : ℕ) → unsigned_abs (pos x' -ℤ pos x) ≡ 0 → unsigned_abs (pos z' -ℤ pos z) ≡ 1 → square_of (from_to (corner x z) (corner x' z')) ≡ 1
step_across x x' z z' none one = square_is (from_to (corner x z) (corner x' z')) ∙ rw (none, one) refl

still : (n : ℕ) → unsigned_abs (pos n -ℤ pos n) ≡ 0
still n = omega (arith, ints)

up : (n : ℕ) → unsigned_abs (pos (n + 1) -ℤ pos n) ≡ 1
up n = omega (arith, ints)

down : (n : ℕ) → unsigned_abs (pos n -ℤ pos (n + 1)) ≡ 1
down n = omega (arith, ints)

module _ (window : Window) (cells : List Cell) (regions : Regions) where
  -- the four edges of a cell
  abbrev GoesOne : CellRef → ℕ → Type 0
  GoesOne at dir = IsUnitStep (edge_of window cells regions dir at)

  cell_steps : (at : CellRef) → All (GoesOne at) (range_with_len 0 4)
  cell_steps at =
      let x : ℕ = at.x in
      let z : ℕ = at.z in
      all_four (GoesOne at)
      (record { one = step_across x x (z + 1) z (still x) (down z) })
      (record { one = step_along (x + 1) x (z + 1) (z + 1) (down x) (still (z + 1)) })
      (record { one = step_across (x + 1) (x + 1) z (z + 1) (still (x + 1)) (up z) })
      (record { one = step_along x (x + 1) z z (up x) (still z) })

  -- and all edges of a rim
  rim_steps : (id : ℕ) → All IsUnitStep (rim_of window cells regions id)
  rim_steps id =
      all_of_each IsUnitStep (rim_edges_of window cells regions id) (places_in regions id)
      (λ k d there.
      let at : CellRef = get_or (places_in regions id) k d in
      let p = λ (dir : ℕ). is_rim cells regions id dir (cell_in cells at) in
      All-map IsUnitStep (λ dir. edge_of window cells regions dir at) (filter p (range_with_len 0 4))
      (All-filter p (GoesOne at) (range_with_len 0 4) (cell_steps at)))

  -- ---- the walk round a region has three edges or more

  right_holds : (first : Strip) (rest : List Strip) → Contains (right_side (edge_at window cells regions) (first ∷ rest)) (edge_at window cells regions 2 first first.x1)
  right_holds first [] = (0, omega arith, refl)
  right_holds first (next ∷ rest) = (0, omega arith, refl)

  left_holds : (first : Strip) (rest : List Strip) → Contains (left_side (edge_at window cells regions) (first ∷ rest)) (edge_at window cells regions 0 first first.x0)
  left_holds first [] = (0, omega arith, refl)
  left_holds first (next ∷ rest) =
      let edge = edge_at window cells regions in
      let e : UnitEdge = edge 0 first first.x0 in
      Contains-append_right (left_side edge (next ∷ rest)) (to_left_end edge first next ++ e ∷ []) e (Contains-push (to_left_end edge first next) e)

  bottom_holds : (first : Strip) → first.x0 ≤ first.x1 → Contains (bottoms (edge_at window cells regions) first first.x0 (first.x1 + 1)) (edge_at window cells regions 3 first first.x0)
  bottom_holds first some =
      let count : ℕ = first.x1 + 1 - first.x0 in
      Contains-map (edge_at window cells regions 3 first) (range_with_len first.x0 count) first.x0
      (0, omega (arith, some, length-range_with_len first.x0 count), get_or-range_with_len first.x0 count 0 first.x0 (omega (arith, some)) ∙ omega arith)

  -- the bottom, the right and the left edge of the first strip's ends
  record HasThree (edges : List UnitEdge) : Type 0 where
    first : UnitEdge
    second : UnitEdge
    third : UnitEdge
    first_in : Contains edges first
    second_in : Contains edges second
    third_in : Contains edges third
    apart : AreApart first.from second.from
    apart' : AreApart third.from first.from
    apart'' : AreApart third.from second.from

  round_three : (strips : List Strip) → 0 < length strips → All IsStrip strips → HasThree (round (edge_at window cells regions) strips)
  round_three [] some are = absurd (omega (arith, some))
  round_three (first ∷ rest) some are =
      let edge = edge_at window cells regions in
      let wide : first.x0 ≤ first.x1 = (are 0 first (omega arith)).some in
      let bottom : List UnitEdge = bottoms edge first first.x0 (first.x1 + 1) in
      let right : List UnitEdge = right_side edge (first ∷ rest) in
      let top : List UnitEdge = top_side edge (first ∷ rest) in
      let left : List UnitEdge = left_side edge (first ∷ rest) in
      let e : UnitEdge = edge 3 first first.x0 in
      let f : UnitEdge = edge 2 first first.x1 in
      let g : UnitEdge = edge 0 first first.x0 in
      record {
        first = e;
        second = f;
        third = g;
        first_in = Contains-append_left bottom (right ++ (top ++ left)) e (bottom_holds first wide);
        second_in = Contains-append_right bottom (right ++ (top ++ left)) f (Contains-append_left right (top ++ left) f (right_holds first rest));
        third_in = Contains-append_right bottom (right ++ (top ++ left)) g
            (Contains-append_right right (top ++ left) g (Contains-append_right top left g (left_holds first rest)));
        apart = λ same. beyond first.x0 first.x1 wide (ap (λ (p : Point). p.x) same);
        apart' = λ same. over first.z (ap (λ (p : Point). p.z) same);
        apart'' = λ same. over first.z (ap (λ (p : Point). p.z) same);
      }
    where
      beyond : (m n : ℕ) → m ≤ n → pos m ≡ pos (n + 1) → ⊥
      beyond m n less same = omega (arith, ints)

      over : (n : ℕ) → pos (n + 1) ≡ pos n → ⊥
      over n same = omega (arith, ints)

  -- edges that begin at three different corners
  many : (edges : List UnitEdge) (e f g : UnitEdge) → Contains edges e → Contains edges f → Contains edges g
      → AreApart e.from f.from → AreApart g.from e.from → AreApart g.from f.from → 3 ≤ length edges
  many edges e f g e-in f-in g-in ef ge gf =
      three_below (length edges) e-in.0 f-in.0 g-in.0 e-in.1 f-in.1 g-in.1 (apart e f e-in f-in ef) (apart g e g-in e-in ge) (apart g f g-in f-in gf)
    where
      apart : (a b : UnitEdge) → (a-in : Contains edges a) → (b-in : Contains edges b) → AreApart a.from b.from → a-in.0 ≡ b-in.0 → ⊥
      apart a b a-in b-in differ same =
          differ (ap (λ (e : UnitEdge). e.from)
          (sym a-in.2 ∙ get_or_default edges a-in.0 a b a-in.1 ∙ ap (λ k. get_or edges k b) same ∙ b-in.2))

pub contour_is_unit_ring : ContoursAreUnitRings
contour_is_unit_ring window cells regions id rules' are there =
    let is : IsContourRing window cells rules' regions are id there = contour_ring window cells rules' regions are id there in
    let edges : List UnitEdge = contour_of window cells regions id in
    let stack : IsStack (get_or regions.regions id (record { strips = [] })) = are.stacks id (record { strips = [] }) there in
    let three = round_three window cells regions (strips_in regions id) stack.some stack.strips in
    record {
      ring = is.ring;
      steps = All-permutation IsUnitStep (rim_of window cells regions id) edges is.rim (rim_steps window cells regions id);
      enough = many window cells regions edges three.first three.second three.third
          (is.walked three.first three.first_in) (is.walked three.second three.second_in) (is.walked three.third three.third_in)
          three.apart three.apart' three.apart'';
    }

pub region_not_flat : RegionsAreNotFlat
region_not_flat error window cells regions id fine rules' are there =
    not_flat error (contour_of window cells regions id) fine (contour_is_unit_ring window cells regions id rules' are there)
