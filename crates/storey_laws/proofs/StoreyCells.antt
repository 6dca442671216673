-- Storeys by the cells that they have.
use Rattle.std.proofs.Common.{◌≡◌, ℕ, suc, ◌+◌, ◌<◌, ◌≤◌, true, List, [], ◌∷◌, length, get_or, min, max, Some, ap, ◌∙◌, sym, refl, subst, arith, inl, inr}
use Rattle.std.specs.Prelude.{All, AllPairs, Any, Contains, ◌==◌, ◌⊎◌, fold, slice_get, option_and_then}
use Rattle.std.proofs.lemmas.Bool.{and_from, cases_lt, cases_order, eq-eqb}
use Rattle.std.proofs.lemmas.List.{get_or_default}
use Rattle.std.proofs.lemmas.List.Elements.{All-cons, All-contains, All-nil, Contains-get_or}
use Rattle.std.proofs.lemmas.Option.{slice_get-get_or, slice_get_within}
use Rattle.nav_base.specs.declared.point.Point.{Point}
use Rattle.nav_ground.specs.declared.cell.Cell.{Cell}
use Rattle.nav_ground.specs.declared.cell.CellRef.{CellRef}
use Rattle.nav_ground.specs.Cells.{is_naming, is_toward}
use Rattle.nav_ground.specs.Filters.{is_near}
use Rattle.mesh_types.specs.declared.mesh.TileMesh.{TileMesh}
use Rattle.mesh_types.specs.declared.polygon.Polygon.{Polygon}
use Rattle.mesh_types.specs.declared.storeys.Storey.{Storey}
use Rattle.mesh_types.specs.BorderLinks.{scaled}
use Rattle.mesh_types.specs.Places.{storey_in}
use Rattle.mesh_types.specs.StripCover.{IsInColumn}
use Rattle.mesh_types.specs.StripPolygons.{some_cell, first_of, low_of, high_of}
use Rattle.mesh_types.specs.Storeys.{HasFloor, TileStoreys}
use Rattle.storey_laws.specs.FreeCells.{HasFreeCell, SharesFreeCells, IsNextColumn, KeepsClimb, IsSomeFloor, AreOverStoreys}
use Rattle.storey_laws.proofs.FreeFloors.{IsLower, AreSteps}

-- a storey has the cells of a list, of which there is one at least, and no others
pub record IsStoreyOf (own : List Cell) (storey : Storey) : Type 0 where
  pub some : 0 < length own
  pub has : All (HasFreeCell storey) own
  pub only : (x z y : ℕ) → HasFloor storey x z y → Any (λ (cell : Cell). (cell.at.x ≡ x) × (cell.at.z ≡ z) × (cell.floor ≡ y)) own

-- a cell is one of the cells of a storey of a list
pub record IsAtHome (list : List Storey) (own : ℕ → List Cell) (cell : Cell) : Type 0 where
  pub s : ℕ
  pub there : s < length list
  pub has : Contains (own s) cell

-- the storeys of a list share some cells, each has its own, and these are connected wherever their columns are neighbours
pub record AreStoreysOf (cells : List Cell) (list : List Storey) (own : ℕ → List Cell) : Type 0 where
  pub each : (s : ℕ) → s < length list → (storey : Storey) → slice_get list s ≡ Some storey → IsStoreyOf (own s) storey
  pub within : (s : ℕ) (cell : Cell) → s < length list → Contains (own s) cell → Contains cells cell
  pub home : All (IsAtHome list own) cells
  pub once : (s t : ℕ) (cell : Cell) → s < length list → t < length list → Contains (own s) cell → Contains (own t) cell → s ≡ t
  pub joined : (s dir : ℕ) (a b : Cell) → s < length list → dir < 4 → Contains (own s) a → Contains (own s) b
      → is_toward dir a.at b.at ≡ true → is_naming dir a b.at ≡ true

-- a point lies in the column of one of some cells
abbrev pub IsOverOne : List Cell → Point → Type 0
IsOverOne own p = Any (λ (cell : Cell). IsInColumn cell.at.x cell.at.z p) own

-- a polygon is at home in a storey: it has the area and the floors of the storey's cells, and its corners lie over them
pub record IsHomeOf (storeys : TileStoreys) (own : ℕ → List Cell) (index : ℕ) (polygon : Polygon) : Type 0 where
  pub s : ℕ
  pub there : s < length storeys.list
  pub home : slice_get storeys.homes index ≡ Some s
  pub area : polygon.area ≡ (first_of (own s)).area
  pub low : polygon.low ≡ low_of (own s)
  pub high : polygon.high ≡ high_of (own s)
  pub corners : All (λ (corner : Point). IsOverOne (own s) (scaled corner.x corner.z)) polygon.corners

-- the storeys of a tile share its free cells, and each polygon is at home in one
pub record HasOwnCells (tile : TileMesh) : Type 0 where
  pub own : ℕ → List Cell
  pub storeys : AreStoreysOf tile.free.cells tile.storeys.list own
  pub polygons : (index : ℕ) (polygon : Polygon) → slice_get tile.polys index ≡ Some polygon → IsHomeOf tile.storeys own index polygon

-- ---- one storey for each cell

-- floors tell the cells of a column apart
one_floor : (cells : List Cell) (a b : Cell) → AllPairs IsLower cells → Contains cells a → Contains cells b → a.at.x ≡ b.at.x → a.at.z ≡ b.at.z
    → a.floor ≡ b.floor → a ≡ b
one_floor cells a b rise has_a has_b x z floor =
    let i : ℕ = has_a.0 in
    let j : ℕ = has_b.0 in
    let at_b : get_or cells j a ≡ b = get_or_default cells j a b has_b.1 ∙ has_b.2 in
    elim (cases_order i j) [
      | inl same ↦ sym has_a.2 ∙ ap (λ n. get_or cells n a) same ∙ at_b
      | inr (inl less) ↦ absurd (apart (get_or cells i a) (get_or cells j a) (rise i j a less has_b.1)
          (ap (λ (c : Cell). c.at.x) has_a.2 ∙ x ∙ sym (ap (λ (c : Cell). c.at.x) at_b))
          (ap (λ (c : Cell). c.at.z) has_a.2 ∙ z ∙ sym (ap (λ (c : Cell). c.at.z) at_b))
          (ap (λ (c : Cell). c.floor) has_a.2 ∙ floor ∙ sym (ap (λ (c : Cell). c.floor) at_b)))
      | inr (inr more) ↦ absurd (apart (get_or cells j a) (get_or cells i a) (rise j i a more has_a.1)
          (sym (ap (λ (c : Cell). c.at.x) has_a.2 ∙ x ∙ sym (ap (λ (c : Cell). c.at.x) at_b)))
          (sym (ap (λ (c : Cell). c.at.z) has_a.2 ∙ z ∙ sym (ap (λ (c : Cell). c.at.z) at_b)))
          (sym (ap (λ (c : Cell). c.floor) has_a.2 ∙ floor ∙ sym (ap (λ (c : Cell). c.floor) at_b))))
    ]
  where
    apart : (p q : Cell) → IsLower p q → p.at.x ≡ q.at.x → p.at.z ≡ q.at.z → p.floor ≡ q.floor → ⊥
    apart p q lower x z floor = omega (arith, lower x z, floor)

-- the storey with a number
some_storey : (list : List Storey) (s : ℕ) → s < length list → (storey : Storey) × (slice_get list s ≡ Some storey)
some_storey [] s there = absurd (omega (arith, there))
some_storey (d ∷ list) s there = (get_or (d ∷ list) s d, slice_get-get_or (d ∷ list) s d there)

pub shares : (tile : TileMesh) (climb : ℕ) → HasOwnCells tile → AreSteps climb tile.free.cells → SharesFreeCells tile
shares tile climb is steps =
    let cells : List Cell = tile.free.cells in
    let list : List Storey = tile.storeys.list in
    let own : ℕ → List Cell = is.own in
    record {
      once = λ k d there.
          let cell : Cell = get_or cells k d in
          let held : Contains cells cell = Contains-get_or cells k d there in
          let home = is.storeys.home k d there in
          let found = some_storey list home.s home.there in
          record {
            place = home.s;
            storey = found.0;
            there = found.1;
            has = All-contains (HasFreeCell found.0) (own home.s) cell (is.storeys.each home.s home.there found.0 found.1).has home.has;
            only = λ other storey' there' floor.
                let less : other < length list = slice_get_within list other storey' there' in
                let any = (is.storeys.each other less storey' there').only cell.at.x cell.at.z cell.floor floor in
                let one : Cell = any.1 in
                let has' : Contains (own other) one = (any.0, any.2, any.3) in
                let same : one ≡ cell = one_floor cells one cell steps.rise (is.storeys.within other one less has') held any.4.0 any.4.1 any.4.2 in
                is.storeys.once other home.s cell less home.there (subst (Contains (own other)) same has') home.has;
          };
      only = λ s d there x z y floor.
          let storey : Storey = get_or list s d in
          let of = is.storeys.each s there storey (slice_get-get_or list s d there) in
          let any = of.only x z y floor in
          let has' : Contains (own s) any.1 = (any.0, any.2, any.3) in
          let held = is.storeys.within s any.1 there has' in
          (held.0, any.1, held.1, held.2, (All-contains (HasFreeCell storey) (own s) any.1 of.has has', any.4.0, any.4.1, any.4.2));
    }

-- ---- neighbouring columns

-- a next column lies to the right of a cell, or above it
toward_next : (a b : CellRef) → IsNextColumn a.x a.z b.x b.z → (dir : ℕ) × (dir < 4) × (is_toward dir a b ≡ true)
toward_next a b (inl right) = (2, omega arith, and_from (b.x == a.x + 1) (b.z == a.z) (eq-eqb b.x (a.x + 1) right.0) (eq-eqb b.z a.z right.1))
toward_next a b (inr above) = (1, omega arith, and_from (b.x == a.x) (b.z == a.z + 1) (eq-eqb b.x a.x above.0) (eq-eqb b.z (a.z + 1) above.1))

next_of : (a b : CellRef) (x z x' z' : ℕ) → a.x ≡ x → a.z ≡ z → b.x ≡ x' → b.z ≡ z' → IsNextColumn x z x' z' → IsNextColumn a.x a.z b.x b.z
next_of a b x z x' z' ax az bx bz (inl right) = inl (omega (arith, ax, bx, right.0), omega (arith, az, bz, right.1))
next_of a b x z x' z' ax az bx bz (inr above) = inr (omega (arith, ax, bx, above.0), omega (arith, az, bz, above.1))

pub keeps_climb : (tile : TileMesh) (climb : ℕ) → HasOwnCells tile → AreSteps climb tile.free.cells → All (KeepsClimb climb) tile.storeys.list
keeps_climb tile climb is steps s d there x z y x' z' y' next has has' =
    let list : List Storey = tile.storeys.list in
    let of = is.storeys.each s there (get_or list s d) (slice_get-get_or list s d there) in
    let from = of.only x z y has in
    let to = of.only x' z' y' has' in
    let a : Cell = from.1 in
    let b : Cell = to.1 in
    let own_a : Contains (is.own s) a = (from.0, from.2, from.3) in
    let own_b : Contains (is.own s) b = (to.0, to.2, to.3) in
    let next' = next_of a.at b.at x z x' z' from.4.0 from.4.1 to.4.0 to.4.1 next in
    toward_near a b (toward_next a.at b.at next') own_a own_b from.4.2 to.4.2
  where
    toward_near : (a b : Cell) → (dir : ℕ) × (dir < 4) × (is_toward dir a.at b.at ≡ true) → Contains (is.own s) a → Contains (is.own s) b
        → a.floor ≡ y → b.floor ≡ y' → is_near climb y y' ≡ true
    toward_near a b toward own_a own_b floor floor' =
        let named = is.storeys.joined s toward.0 a b there toward.1 own_a own_b toward.2 in
        ap (λ n. is_near climb n y') (sym floor)
        ∙ ap (is_near climb a.floor) (sym floor')
        ∙ steps.near toward.0 a b toward.1 (is.storeys.within s a there own_a) (is.storeys.within s b there own_b) named

-- ---- the least and the greatest floor

low_below : (low : ℕ) (own : List Cell) → fold (λ low (cell : Cell). min low cell.floor) low own ≤ low
low_below low [] = omega arith
low_below low (cell ∷ own) = omega (arith, low_below (min low cell.floor) own)

low_each : (low : ℕ) (own : List Cell) → All (λ (cell : Cell). fold (λ low (c : Cell). min low c.floor) low own ≤ cell.floor) own
low_each low [] = All-nil (λ (cell : Cell). low ≤ cell.floor)
low_each low (cell ∷ own) =
    All-cons (λ (c : Cell). fold (λ low (e : Cell). min low e.floor) (min low cell.floor) own ≤ c.floor) cell own
    (omega (arith, low_below (min low cell.floor) own)) (low_each (min low cell.floor) own)

low_is : (low : ℕ) (own : List Cell) → (fold (λ low (cell : Cell). min low cell.floor) low own ≡ low)
    ⊎ Any (λ (cell : Cell). cell.floor ≡ fold (λ low (c : Cell). min low c.floor) low own) own
low_is low [] = inl refl
low_is low (cell ∷ own) = elim (low_is (min low cell.floor) own) [
  | inl same ↦ elim (cases_lt cell.floor low) [
    | inl less ↦ inr (0, cell, omega arith, refl, omega (arith, same, less))
    | inr more ↦ inl (omega (arith, same, more))
  ]
  | inr any ↦ inr (suc any.0, any.1, omega (arith, any.2), any.3, any.4)
]

high_above : (high : ℕ) (own : List Cell) → high ≤ fold (λ high (cell : Cell). max high cell.floor) high own
high_above high [] = omega arith
high_above high (cell ∷ own) = omega (arith, high_above (max high cell.floor) own)

high_each : (high : ℕ) (own : List Cell) → All (λ (cell : Cell). cell.floor ≤ fold (λ high (c : Cell). max high c.floor) high own) own
high_each high [] = All-nil (λ (cell : Cell). cell.floor ≤ high)
high_each high (cell ∷ own) =
    All-cons (λ (c : Cell). c.floor ≤ fold (λ high (e : Cell). max high e.floor) (max high cell.floor) own) cell own
    (omega (arith, high_above (max high cell.floor) own)) (high_each (max high cell.floor) own)

high_is : (high : ℕ) (own : List Cell) → (fold (λ high (cell : Cell). max high cell.floor) high own ≡ high)
    ⊎ Any (λ (cell : Cell). cell.floor ≡ fold (λ high (c : Cell). max high c.floor) high own) own
high_is high [] = inl refl
high_is high (cell ∷ own) = elim (high_is (max high cell.floor) own) [
  | inl same ↦ elim (cases_lt high cell.floor) [
    | inl less ↦ inr (0, cell, omega arith, refl, omega (arith, same, less))
    | inr more ↦ inl (omega (arith, same, more))
  ]
  | inr any ↦ inr (suc any.0, any.1, omega (arith, any.2), any.3, any.4)
]

-- a floor of one of a storey's cells is one of the storey's
some_floor : (own : List Cell) (storey : Storey) (n : ℕ) → IsStoreyOf own storey → (n ≡ (first_of own).floor) ⊎ Any (λ (cell : Cell). cell.floor ≡ n) own
    → IsSomeFloor storey n
some_floor own storey n of (inl first) =
    let cell : Cell = first_of own in
    let P : ℕ → Type 0 = HasFloor storey cell.at.x cell.at.z in
    (cell.at.x, cell.at.z, subst P (sym first) (of.has 0 some_cell of.some).floor)
some_floor own storey n of (inr any) =
    let cell : Cell = any.1 in
    let P : ℕ → Type 0 = HasFloor storey cell.at.x cell.at.z in
    (cell.at.x, cell.at.z, subst P any.4 (All-contains (HasFreeCell storey) own cell of.has (any.0, any.2, any.3)).floor)

low_some : (own : List Cell) (storey : Storey) → IsStoreyOf own storey → IsSomeFloor storey (low_of own)
low_some own storey of = some_floor own storey (low_of own) of (low_is (first_of own).floor own)

high_some : (own : List Cell) (storey : Storey) → IsStoreyOf own storey → IsSomeFloor storey (high_of own)
high_some own storey of = some_floor own storey (high_of own) of (high_is (first_of own).floor own)

floors_between : (own : List Cell) (storey : Storey) (y : ℕ) → IsStoreyOf own storey → IsSomeFloor storey y → (low_of own ≤ y) × (y ≤ high_of own)
floors_between own storey y of floor =
    let any = of.only floor.0 floor.1 y floor.2 in
    let has : Contains own any.1 = (any.0, any.2, any.3) in
    let low = All-contains (λ (cell : Cell). low_of own ≤ cell.floor) own any.1 (low_each (first_of own).floor own) has in
    let high = All-contains (λ (cell : Cell). cell.floor ≤ high_of own) own any.1 (high_each (first_of own).floor own) has in
    (omega (arith, low, any.4.2), omega (arith, high, any.4.2))

-- the storey of a polygon, with its cells
pub record IsInStorey (tile : TileMesh) (is : HasOwnCells tile) (index : ℕ) (polygon : Polygon) : Type 0 where
  pub home : IsHomeOf tile.storeys is.own index polygon
  pub storey : Storey
  pub named : storey_in tile.storeys index ≡ Some storey
  pub of : IsStoreyOf (is.own home.s) storey

pub in_storey : (tile : TileMesh) (is : HasOwnCells tile) (index : ℕ) (polygon : Polygon) → slice_get tile.polys index ≡ Some polygon → IsInStorey tile is index polygon
in_storey tile is index polygon at =
    let home = is.polygons index polygon at in
    let found = some_storey tile.storeys.list home.s home.there in
    record {
      home = home;
      storey = found.0;
      named = ap (option_and_then (slice_get tile.storeys.list)) home.home ∙ found.1;
      of = is.storeys.each home.s home.there found.0 found.1;
    }

pub over_storeys : (tile : TileMesh) → HasOwnCells tile → AreOverStoreys tile
over_storeys tile is index polygon at =
    let inner = in_storey tile is index polygon at in
    let own : List Cell = is.own inner.home.s in
    let P : ℕ → Type 0 = IsSomeFloor inner.storey in
    record {
      storey = inner.storey;
      home = inner.named;
      area = inner.home.area ∙ sym (inner.of.has 0 some_cell inner.of.some).area;
      low = subst P (sym inner.home.low) (low_some own inner.storey inner.of);
      high = subst P (sym inner.home.high) (high_some own inner.storey inner.of);
      between = λ y floor.
          let range = floors_between own inner.storey y inner.of floor in
          (omega (arith, range.0, inner.home.low), omega (arith, range.1, inner.home.high));
    }
