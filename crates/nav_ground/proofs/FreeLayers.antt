-- The free cells of a layer keep the rules of cells.
use Rattle.std.proofs.Common.{◌≡◌, ℕ, ◌+◌, ◌<◌, Bool, true, false, length, List, [], ◌∷◌, map, get_or, ap, ◌∙◌, sym, refl, subst, Option, Some, None, unwrap_or, arith, zero, suc, inl, inr, ◌≤◌}
use Rattle.std.specs.Prelude.{All, Contains, IsTrue, ◌&&◌, ◌==◌, not, if◌then◌else◌}
use Rattle.std.specs.List.{filter, filter_map, last_or, cons_option}
use Rattle.std.specs.Option.{option_map_or}
use Rattle.std.proofs.lemmas.Bool.{and_parts, and_left, and_right, not-true, both_ways, eqb-true, cases_lt}
use Rattle.std.proofs.lemmas.List.{get_or_default}
use Rattle.std.proofs.lemmas.List.Elements.{All-head, All-tail, All-contains}
use Rattle.std.proofs.lemmas.List.Folds.{list_any_none}
use Rattle.std.proofs.lemmas.List.Kept.{AllPairs-filter}
use Rattle.nav_ground.specs.declared.cell.Cell.{Cell}
use Rattle.nav_ground.specs.declared.cell.CellRef.{CellRef}
use Rattle.nav_ground.specs.declared.cell.Layer.{Layer}
use Rattle.nav_ground.specs.declared.shape.Shape.{Shape}
use Rattle.nav_ground.specs.declared.shape.Shape.TheVariants.{Block, Cylinder, AreaBlock, AreaCylinder, Prism, Disc}
use Rattle.nav_ground.specs.Limits.{IsArea, IsShape}
use Rattle.nav_ground.specs.Cells.{IsCellBefore, IsCell, IsCells, IsCut, is_toward, is_naming, next_level, opposite}
use Rattle.nav_ground.specs.Shapes.{area_set_by, painted}
use Rattle.nav_ground.specs.FreeCells.{is_over, is_taken, area_given, area_under, free_next, free_cell_of, free_layer_of}
use Rattle.nav_ground.proofs.Words.{is_lost, is_free}
use Rattle.nav_ground.proofs.Kept.{few_kept, AllPairs-map, All-kept}
use Rattle.nav_ground.proofs.Directions.{both_equal}

painted_area : (given area : ℕ) → given ≤ 63 → painted given ≡ Some area → IsArea area
painted_area zero area small is = absurd cc
painted_area (suc n) area small is = let same : suc n ≡ area = cc in record { least = omega (arith, same); most = omega (arith, same, small) }

-- an area that a shape sets can be walked on
set_area : (shape : Shape) (area : ℕ) → IsShape shape → area_set_by shape ≡ Some area → IsArea area
set_area (Block x0 x1 y0 y1 z0 z1) area rules' is = absurd cc
set_area (Cylinder cx cz r y0 y1) area rules' is = absurd cc
set_area (AreaBlock other x0 x1 y0 y1 z0 z1) area (rules', box) is = let same : other ≡ area = cc in subst IsArea same rules'
set_area (AreaCylinder other cx cz r y0 y1) area (rules', round) is = let same : other ≡ area = cc in subst IsArea same rules'
set_area (Prism base given y0 y1) area rules' is = painted_area given area rules'.area_most is
set_area (Disc cx cz r given y0 y1) area rules' is = painted_area given area rules'.area_most is

given_area : (shape : Shape) (area : ℕ) (over : Bool) → IsShape shape → (if over then area_set_by shape else None) ≡ Some area → IsArea area
given_area shape area true rules' is = set_area shape area rules' is
given_area shape area false rules' is = absurd cc

-- so the last of the areas that shapes give to a cell can be walked on
last_area : (cell : Cell) (before : Option ℕ) (shapes : List Shape) → IsArea (unwrap_or before cell.area) → All IsShape shapes
    → IsArea (unwrap_or (last_or before (filter_map (area_given cell) shapes)) cell.area)
last_area cell before [] here each = here
last_area cell before (shape ∷ shapes) here each =
    by_given (area_given cell shape) refl (last_area cell before shapes here (All-tail IsShape shape shapes each))
    (λ area walkable. last_area cell (Some area) shapes walkable (All-tail IsShape shape shapes each))
  where
    by_given : (given : Option ℕ) → given ≡ area_given cell shape
        → IsArea (unwrap_or (last_or before (filter_map (area_given cell) shapes)) cell.area)
        → ((area : ℕ) → IsArea area → IsArea (unwrap_or (last_or (Some area) (filter_map (area_given cell) shapes)) cell.area))
        → IsArea (unwrap_or (last_or before (cons_option given (filter_map (area_given cell) shapes))) cell.area)
    by_given None is without with = without
    by_given (Some area) is without with =
        with area (given_area shape area (is_over cell shape) (All-head IsShape shape shapes each) (sym is))

area_walkable : (cell : Cell) (shapes : List Shape) → IsArea cell.area → All IsShape shapes → IsArea (area_under shapes cell)
area_walkable cell shapes here each = last_area cell None shapes here each

-- no place comes before itself
not_before_itself : (a b : CellRef) → a ≡ b → IsCellBefore a b → ⊥
not_before_itself a b same (inl below) = omega (arith, below, ap (λ (c : CellRef). c.z) same)
not_before_itself a b same (inr (row, inl left)) = omega (arith, left, ap (λ (c : CellRef). c.x) same)
not_before_itself a b same (inr (row, inr (column, under))) = omega (arith, under, ap (λ (c : CellRef). c.level) same)

-- a place of cells in order is that of one cell
pub one_at_place : (cells : List Cell) → IsCells cells → (i j : ℕ) (d : Cell) → i < length cells → j < length cells
    → (get_or cells i d).at ≡ (get_or cells j d).at → get_or cells i d ≡ get_or cells j d
one_at_place cells rules' i j d here there same =
    elim (cases_lt i j) [
      | inl before ↦ absurd (not_before_itself _ _ same (rules'.order i j d before there))
      | inr rest ↦ elim (cases_lt j i) [
        | inl after ↦ absurd (not_before_itself _ _ (sym same) (rules'.order j i d after here))
        | inr rest' ↦ let is : i ≡ j = omega arith in ap (λ k. get_or cells k d) is
      ]
    ]

pub same_at_place : (cells : List Cell) (a b : Cell) → IsCells cells → Contains cells a → Contains cells b → a.at ≡ b.at → a ≡ b
same_at_place cells a b rules' has_a has_b same =
    let moved = get_or_default cells has_b.0 a b has_b.1 in
    sym has_a.2
    ∙ one_at_place cells rules' has_a.0 has_b.0 a has_a.1 has_b.1
    (ap (λ (c : Cell). c.at) has_a.2 ∙ same ∙ ap (λ (c : Cell). c.at) (sym (moved ∙ has_b.2)))
    ∙ moved ∙ has_b.2

-- a cell names one place in a direction
level_named : (next : Option ℕ) (a b : ℕ) → option_map_or (λ level. level == a) next false ≡ true
    → option_map_or (λ level. level == b) next false ≡ true → a ≡ b
level_named None a b ha hb = absurd cc
level_named (Some level) a b ha hb = sym (eqb-true level a ha) ∙ eqb-true level b hb

pub same_place : (a b : CellRef) → a.x ≡ b.x → a.z ≡ b.z → a.level ≡ b.level → a ≡ b
same_place a b x z level =
    ap (λ (n : ℕ). record a { x = n }) x ∙ ap (λ (n : ℕ). record a { x = b.x; z = n }) z
    ∙ ap (λ (n : ℕ). record { x = b.x; z = b.z; level = n }) level

same_column : (dir : ℕ) (from a b : CellRef) → dir < 4 → is_toward dir from a ≡ true → is_toward dir from b ≡ true → (a.x ≡ b.x) × (a.z ≡ b.z)
same_column zero from a b small ha hb =
    let e = both_equal (a.x + 1) from.x a.z from.z ha in let f = both_equal (b.x + 1) from.x b.z from.z hb in
    (omega (arith, e.0, f.0), omega (arith, e.1, f.1))
same_column (suc zero) from a b small ha hb =
    let e = both_equal a.x from.x a.z (from.z + 1) ha in let f = both_equal b.x from.x b.z (from.z + 1) hb in
    (omega (arith, e.0, f.0), omega (arith, e.1, f.1))
same_column (suc (suc zero)) from a b small ha hb =
    let e = both_equal a.x (from.x + 1) a.z from.z ha in let f = both_equal b.x (from.x + 1) b.z from.z hb in
    (omega (arith, e.0, f.0), omega (arith, e.1, f.1))
same_column (suc (suc (suc zero))) from a b small ha hb =
    let e = both_equal a.x from.x (a.z + 1) from.z ha in let f = both_equal b.x from.x (b.z + 1) from.z hb in
    (omega (arith, e.0, f.0), omega (arith, e.1, f.1))
same_column (suc (suc (suc (suc n)))) from a b small ha hb = absurd (omega arith)

pub names_one : (dir : ℕ) (cell : Cell) (a b : CellRef) → dir < 4 → is_naming dir cell a ≡ true → is_naming dir cell b ≡ true → a ≡ b
names_one dir cell a b small ha hb =
    let pa = and_parts (is_toward dir cell.at a) _ ha in
    let pb = and_parts (is_toward dir cell.at b) _ hb in
    let columns = same_column dir cell.at a b small pa.0 pb.0 in
    same_place a b columns.0 columns.1 (level_named (next_level cell dir) a.level b.level pa.1 pb.1)

-- where a free cell names a place, the cell names it, and that neighbour is not lost; and the other way round
level_of_free : (dir : ℕ) (taken : Cell → Bool) (cells : List Cell) (shapes : List Shape) (cell : Cell) → dir < 4
    → next_level (free_cell_of taken cells shapes cell) dir ≡ free_next taken cells cell dir
level_of_free zero taken cells shapes cell small = refl
level_of_free (suc zero) taken cells shapes cell small = refl
level_of_free (suc (suc zero)) taken cells shapes cell small = refl
level_of_free (suc (suc (suc zero))) taken cells shapes cell small = refl
level_of_free (suc (suc (suc (suc n)))) taken cells shapes cell small = absurd (omega arith)

named_unlost : (toward lost : Bool) (f : ℕ → Bool) (next : Option ℕ)
    → (toward && option_map_or f (if lost then None else next) false) ≡ true → (lost ≡ false) × ((toward && option_map_or f next false) ≡ true)
named_unlost toward true f next h = absurd (both_ways false refl (and_parts toward false h).1)
named_unlost toward false f next h = (refl, h)

free_names : (dir : ℕ) (taken : Cell → Bool) (cells : List Cell) (shapes : List Shape) (cell : Cell) (to : CellRef) → dir < 4
    → is_naming dir (free_cell_of taken cells shapes cell) to ≡ true → (is_lost taken cells cell dir ≡ false) × (is_naming dir cell to ≡ true)
free_names dir taken cells shapes cell to small h =
    named_unlost (is_toward dir cell.at to) (is_lost taken cells cell dir) (λ level. level == to.level) (next_level cell dir)
    (ap (λ next. is_toward dir cell.at to && option_map_or (λ level. level == to.level) next false) (sym (level_of_free dir taken cells shapes cell small)) ∙ h)

names_free : (dir : ℕ) (taken : Cell → Bool) (cells : List Cell) (shapes : List Shape) (cell : Cell) (to : CellRef) → dir < 4
    → is_lost taken cells cell dir ≡ false → is_naming dir cell to ≡ true → is_naming dir (free_cell_of taken cells shapes cell) to ≡ true
names_free dir taken cells shapes cell to small kept h =
    ap (λ next. is_toward dir cell.at to && option_map_or (λ level. level == to.level) next false)
    (level_of_free dir taken cells shapes cell small ∙ ap (λ lost. if lost then None else next_level cell dir) kept)
    ∙ h

-- a neighbour that is free is not lost
not_lost : (dir : ℕ) (taken : Cell → Bool) (cells : List Cell) (cell : Cell) (i : ℕ) (d : Cell) → IsCells cells → dir < 4 → i < length cells
    → is_naming dir cell (get_or cells i d).at ≡ true → taken (get_or cells i d) ≡ false → is_lost taken cells cell dir ≡ false
not_lost dir taken cells cell i d rules' small there named open' =
    list_any_none (λ (other : Cell). is_naming dir cell other.at && taken other) cells
    (λ k e there'. by_naming k e there' (is_naming dir cell (get_or cells k e).at) refl)
  where
    by_naming : (k : ℕ) (e : Cell) → k < length cells → (b : Bool) → b ≡ is_naming dir cell (get_or cells k e).at
        → (is_naming dir cell (get_or cells k e).at && taken (get_or cells k e)) ≡ false
    by_naming k e there' false is = and_left (is_naming dir cell (get_or cells k e).at) _ (sym is)
    by_naming k e there' true is =
        let moved = get_or_default cells i d e there in
        let named' : is_naming dir cell (get_or cells i e).at ≡ true = sym (ap (λ (c : Cell). is_naming dir cell c.at) moved) ∙ named in
        let same = one_at_place cells rules' k i e there' there
        (names_one dir cell (get_or cells k e).at (get_or cells i e).at small (sym is) named') in
        and_right (is_naming dir cell (get_or cells k e).at) _ (ap (taken) (same ∙ sym moved) ∙ open')

-- a free cell is made from a cell of the list that is free
pub record IsFromFree (taken : Cell → Bool) (cells : List Cell) (shapes : List Shape) (cell : Cell) : Type 0 where
  pub origin : Cell
  pub place : ℕ
  pub there : place < length cells
  pub at : get_or cells place origin ≡ origin
  pub free : not (taken origin) ≡ true
  pub is : cell ≡ free_cell_of taken cells shapes origin

from_free : (taken : Cell → Bool) (cells : List Cell) (shapes : List Shape) → All (IsFromFree taken cells shapes) (map (free_cell_of taken cells shapes) (filter (λ (cell : Cell). not (taken cell)) cells))
from_free taken cells shapes =
    All-kept (IsFromFree taken cells shapes) (free_cell_of taken cells shapes) (λ (cell : Cell). not (taken cell)) cells
    (λ k d there passes. record {
      origin = get_or cells k d;
      place = k;
      there = there;
      at = get_or_default cells k (get_or cells k d) d there;
      free = passes;
      is = refl;
    })

names_back : (taken : Cell → Bool) (cells : List Cell) (shapes : List Shape) (dir : ℕ) (a b : Cell) → IsCut cells → dir < 4
    → IsFromFree taken cells shapes a → IsFromFree taken cells shapes b → IsTrue (is_naming dir a b.at) → IsTrue (is_naming (opposite dir) b a.at)
names_back taken cells shapes dir a b cut small free_a free_b named =
    let oa = free_a.origin in
    let ob = free_b.origin in
    let small' : opposite dir < 4 = omega arith in
    let P : Cell → Type 0 = λ (c : Cell). is_naming dir c b.at ≡ true in
    let Q : Cell → Type 0 = λ (c : Cell). is_naming dir (free_cell_of taken cells shapes oa) c.at ≡ true in
    let parts = free_names dir taken cells shapes oa ob.at small (subst Q free_b.is (subst P free_a.is named)) in
    let back = cut.named_back dir oa ob small (free_a.place, free_a.there, free_a.at) (free_b.place, free_b.there, free_b.at) parts.1 in
    let kept = not_lost (opposite dir) taken cells ob free_a.place oa cut.rules small' free_a.there
    (ap (λ (c : Cell). is_naming (opposite dir) ob c.at) free_a.at ∙ back)
    (ap (taken) free_a.at ∙ not-true (taken oa) free_a.free) in
    let R : Cell → Type 0 = λ (c : Cell). is_naming (opposite dir) c oa.at ≡ true in
    let S : Cell → Type 0 = λ (c : Cell). is_naming (opposite dir) b c.at ≡ true in
    subst S (sym free_a.is) (subst R (sym free_b.is) (names_free (opposite dir) taken cells shapes ob oa.at small' kept back))

free_is_cell : (taken : Cell → Bool) (cells : List Cell) (shapes : List Shape) → All IsShape shapes → (cell : Cell) → IsCell cell → IsCell (free_cell_of taken cells shapes cell)
free_is_cell taken cells shapes limits cell rules' = record {
  x = rules'.x;
  z = rules'.z;
  area = area_walkable cell shapes rules'.area limits;
  floor = rules'.floor;
  ceiling = rules'.ceiling;
  sides = refl;
}

-- the free cells of a layer keep the rules of cells
pub free_layer_cut : (layer : Layer) (shapes : List Shape) → IsCut layer.cells → All IsShape shapes → IsCut (free_layer_of layer shapes).cells
free_layer_cut layer shapes cut limits =
    let from = from_free (is_taken layer shapes) layer.cells shapes in
    record {
      rules = record {
        few = omega (arith, few_kept (free_cell_of (is_taken layer shapes) layer.cells shapes) (is_free layer shapes) layer.cells, cut.rules.few);
        order = AllPairs-map (λ (a b : Cell). IsCellBefore a.at b.at) (free_cell_of (is_taken layer shapes) layer.cells shapes) (filter (is_free layer shapes) layer.cells)
            (AllPairs-filter (λ (a b : Cell). IsCellBefore a.at b.at) (is_free layer shapes) layer.cells cut.rules.order);
        each = All-kept IsCell (free_cell_of (is_taken layer shapes) layer.cells shapes) (is_free layer shapes) layer.cells
            (λ k d there free. free_is_cell (is_taken layer shapes) layer.cells shapes limits (get_or layer.cells k d) (cut.rules.each k d there));
      };
      named_back = λ dir a b small has_a has_b. names_back (is_taken layer shapes) layer.cells shapes dir a b cut small
          (All-contains (IsFromFree (is_taken layer shapes) layer.cells shapes) (free_layer_of layer shapes).cells a from has_a)
          (All-contains (IsFromFree (is_taken layer shapes) layer.cells shapes) (free_layer_of layer shapes).cells b from has_b);
    }
