-- The floors of storeys at points: those of cells under them, and those of the nearest cells.
use Rattle.std.proofs.Common.{◌≡◌, ℕ, suc, ◌+◌, ◌-◌, ◌*◌, ◌≤◌, ℤ, pos, ◌≤ℤ◌, List, [], ◌∷◌, get_or, ap, ◌∙◌, sym, refl, subst, arith, inl, inr}
use Rattle.std.specs.Prelude.{All, Contains, slice_get, option_and_then}
use Rattle.std.proofs.lemmas.Bool.{cases_lt}
use Rattle.std.proofs.lemmas.Int.{ints, clamps}
use Rattle.std.proofs.lemmas.List.Elements.{All-cons, All-contains, All-nil, All-weaker, Contains-get_or}
use Rattle.std.proofs.lemmas.Option.{get_or_from_slice_get, option_and_then_some, slice_get_within}
use Rattle.nav_base.specs.declared.point.Point.{Point}
use Rattle.nav_ground.specs.declared.cell.Cell.{Cell}
use Rattle.mesh_types.specs.declared.mesh.Mesh.{Mesh}
use Rattle.mesh_types.specs.declared.mesh.TileMesh.{TileMesh}
use Rattle.mesh_types.specs.declared.storeys.Storey.{Storey}
use Rattle.mesh_types.specs.BorderLinks.{scaled}
use Rattle.mesh_types.specs.Places.{column_gap, outside, storey_in, IsFloorAt, IsHighestAt}
use Rattle.mesh_types.specs.Standing.{CornersStand}
use Rattle.mesh_types.specs.StripCover.{IsInColumn}
use Rattle.mesh_types.specs.Storeys.{HasFloor}
use Rattle.storey_laws.specs.FreeCells.{HasFreeCell}
use Rattle.storey_laws.specs.HeldPlaces.{HeldPointsArePlaces}
use Rattle.storey_laws.proofs.StoreyCells.{IsStoreyOf, IsOverOne, HasOwnCells, in_storey}

-- ---- the cell under a point

none_outside : (low high n : ℤ) → low ≤ℤ n → n ≤ℤ high → outside low high n ≡ 0
none_outside low high n begins ends = omega (arith, ints, clamps, begins, ends)

no_gap : (x z : ℕ) (p : Point) → IsInColumn x z p → 0 ≡ column_gap x z p
no_gap x z p is =
    let dx = none_outside (pos (16 * x)) (pos (16 * (x + 1))) p.x is.left is.right in
    let dz = none_outside (pos (16 * z)) (pos (16 * (z + 1))) p.z is.bottom is.top in
    let d : ℕ = outside (pos (16 * z)) (pos (16 * (z + 1))) p.z in
    sym (ap (λ n. n * n + d * d) dx ∙ ap (λ n. 0 * 0 + n * n) dz)

pub floor_under : (own : List Cell) (storey : Storey) (p : Point) → IsStoreyOf own storey → IsOverOne own p → (y : ℕ) × IsFloorAt storey p y 0
floor_under own storey p of over =
    let cell : Cell = over.1 in
    let has = All-contains (HasFreeCell storey) own cell of.has (over.0, over.2, over.3) in
    (cell.floor, record { x = cell.at.x; z = cell.at.z; has = has.floor; gap = no_gap cell.at.x cell.at.z p over.4; nearest = λ x z y other. omega arith })

pub corners_stand : (tile : TileMesh) → HasOwnCells tile → CornersStand tile
corners_stand tile is index polygon at k d there =
    let inner = in_storey tile is index polygon at in
    let corner : Point = get_or polygon.corners k d in
    let found = floor_under (is.own inner.home.s) inner.storey (scaled corner.x corner.z) inner.of (inner.home.corners k d there) in
    record { storey = inner.storey; home = inner.named; y = found.0; floor = found.1 }

-- ---- the nearest cells

-- an element of a list with the least measure
record IsLeast {X : Type 0} (f : X → ℕ) (xs : List X) (best : X) : Type 0 where
  own : Contains xs best
  least : All (λ x. f best ≤ f x) xs

least_of : {X : Type 0} (f : X → ℕ) (x : X) (xs : List X) → (best : X) × IsLeast f (x ∷ xs) best
least_of f x [] = (x, record { own = (0, omega arith, refl); least = All-cons (λ y. f x ≤ f y) x [] (omega arith) (All-nil (λ y. f x ≤ f y)) })
least_of {X = X} f x (y ∷ xs) = by_rest (least_of f y xs)
  where
    by_rest : (best : X) × IsLeast f (y ∷ xs) best → (best : X) × IsLeast f (x ∷ y ∷ xs) best
    by_rest rest = elim (cases_lt (f x) (f rest.0)) [
      | inl less ↦ (
        x,
        record {
          own = (0, omega arith, refl);
          least = All-cons (λ z. f x ≤ f z) x (y ∷ xs) (omega arith)
              (All-weaker (λ z. f rest.0 ≤ f z) (λ z. f x ≤ f z) (λ z more. omega (arith, less, more)) (y ∷ xs) rest.1.least);
        },
      )
      | inr more ↦ (
        rest.0,
        record {
          own = (suc rest.1.own.0, omega (arith, rest.1.own.1), rest.1.own.2);
          least = All-cons (λ z. f rest.0 ≤ f z) x (y ∷ xs) more rest.1.least;
        },
      )
    ]

-- by how far a cell is first, then by how high it stands
closer : (g f g' f' : ℕ) → g * 8192 + (8191 - f) ≤ g' * 8192 + (8191 - f') → g ≤ g'
closer g f g' f' h = omega (arith, h)

higher : (g f g' f' : ℕ) → g * 8192 + (8191 - f) ≤ g' * 8192 + (8191 - f') → g ≡ g' → f' ≤ 8191 → f' ≤ f
higher g f g' f' h same small = omega (arith, h, same, small)

module _ (storey : Storey) (p : Point) where
  abbrev gap_of : Cell → ℕ
  gap_of cell = column_gap cell.at.x cell.at.z p

  abbrev measure_of : Cell → ℕ
  measure_of cell = gap_of cell * 8192 + (8191 - cell.floor)

  -- a cell of the storey with this floor in this column
  record IsCellOf (own : List Cell) (x z y : ℕ) : Type 0 where
    cell : Cell
    has : Contains own cell
    gap : gap_of cell ≡ column_gap x z p
    floor : cell.floor ≡ y

  cell_of : (own : List Cell) (x z y : ℕ) → IsStoreyOf own storey → HasFloor storey x z y → IsCellOf own x z y
  cell_of own x z y of has =
      let any = of.only x z y has in
      record {
        cell = any.1;
        has = (any.0, any.2, any.3);
        gap = ap (λ n. column_gap n any.1.at.z p) any.4.0 ∙ ap (λ n. column_gap x n p) any.4.1;
        floor = any.4.2;
      }

  told : (own : List Cell) → IsStoreyOf own storey → All (λ (cell : Cell). cell.floor ≤ 8191) own → (y : ℕ) × ((aside : ℕ) × IsHighestAt storey p y aside)
  told [] of small = absurd (omega (arith, of.some))
  told (first ∷ rest) of small = by_best (least_of measure_of first rest)
    where
      by_best : (best : Cell) × IsLeast measure_of (first ∷ rest) best → (y : ℕ) × ((aside : ℕ) × IsHighestAt storey p y aside)
      by_best (best, is) = (
        best.floor,
        (
          gap_of best,
          record {
            is = record {
              x = best.at.x;
              z = best.at.z;
              has = (All-contains (HasFreeCell storey) (first ∷ rest) best of.has is.own).floor;
              gap = refl;
              nearest = λ x z y has.
                  let other = cell_of (first ∷ rest) x z y of has in
                  let more = All-contains (λ (cell : Cell). measure_of best ≤ measure_of cell) (first ∷ rest) other.cell is.least other.has in
                  omega (arith, closer (gap_of best) best.floor (gap_of other.cell) other.cell.floor more, other.gap);
            };
            highest = λ y floor.
                let other = cell_of (first ∷ rest) floor.x floor.z y of floor.has in
                let more = All-contains (λ (cell : Cell). measure_of best ≤ measure_of cell) (first ∷ rest) other.cell is.least other.has in
                let low = All-contains (λ (cell : Cell). cell.floor ≤ 8191) (first ∷ rest) other.cell small other.has in
                let same : gap_of best ≡ gap_of other.cell = floor.gap ∙ sym other.gap in
                omega (arith, higher (gap_of best) best.floor (gap_of other.cell) other.cell.floor more same low, other.floor);
          },
        ),
      )

-- ---- the points that the polygons of a mesh hold

-- the storeys of a tile share its free cells, whose floors are those of cells
pub record HasOwnFloors (tile : TileMesh) : Type 0 where
  pub cells : HasOwnCells tile
  pub small : All (λ (cell : Cell). cell.floor ≤ 8191) tile.free.cells

pub held_are_places : (mesh : Mesh) → All HasOwnFloors mesh.tiles → HeldPointsArePlaces mesh
held_are_places mesh each at p held =
    option_and_then_some (λ (tile : TileMesh). slice_get tile.polys at.index) (slice_get mesh.tiles at.tile) held.polygon held.there
    (λ tile found there.
    let less = slice_get_within mesh.tiles at.tile tile found in
    let is : HasOwnFloors tile = subst HasOwnFloors (get_or_from_slice_get mesh.tiles at.tile tile tile found) (each at.tile tile less) in
    let inner = in_storey tile is.cells at.index held.polygon there in
    let own : List Cell = is.cells.own inner.home.s in
    let small : All (λ (cell : Cell). cell.floor ≤ 8191) own = λ k d inside.
    All-contains (λ (cell : Cell). cell.floor ≤ 8191) tile.free.cells (get_or own k d) is.small
    (is.cells.storeys.within inner.home.s (get_or own k d) inner.home.there (Contains-get_or own k d inside)) in
    let floor = told inner.storey p own inner.of small in
    let home = ap (option_and_then (λ (one : TileMesh). storey_in one.storeys at.index)) found ∙ inner.named in
    record {
      storey = inner.storey;
      home = home;
      y = floor.0;
      aside = floor.1.0;
      told = floor.1.1;
      place = record { held = held; storey = inner.storey; home = home; aside = floor.1.0; floor = floor.1.1.is };
    })
