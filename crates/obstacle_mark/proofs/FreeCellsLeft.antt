-- The free cells of a layer, cell by cell.
use Rattle.std.proofs.Common.{◌≡◌, ℕ, ◌+◌, ◌<◌, ◌≤◌, ◌++◌, Bool, true, false, cond, length, List, [], ◌∷◌, take, map, get_or, ap, ◌∙◌, sym, subst, refl, Option, None, Some, arith, inl, inr}
use Rattle.std.specs.Prelude.{◌&&◌, ◌||◌, not, AllPairs, if◌then◌else◌}
use Rattle.std.specs.List.{list_any, filter}
use Rattle.std.proofs.Math.Bool.{and-true, and-false}
use Rattle.std.proofs.lemmas.List.{map-append, append-nil, get_or_default}
use Rattle.std.proofs.lemmas.List.Elements.{filter_more}
use Rattle.std.proofs.lemmas.List.Kept.{AllPairs-filter}
use Rattle.nav_ground.specs.declared.cell.Cell.{Cell}
use Rattle.nav_ground.specs.declared.cell.CellRef.{CellRef}
use Rattle.nav_ground.specs.declared.shape.Shape.{Shape}
use Rattle.nav_ground.specs.Cells.{IsCell, IsCells, IsCellBefore, is_naming, next_level}
use Rattle.nav_ground.specs.FreeCells.{area_under, free_next, free_cell_of}
use Rattle.nav_ground.proofs.Words.{is_lost}
use Rattle.nav_ground.proofs.Kept.{AllPairs-map, All-kept}
use Rattle.cell_table.specs.Columns.{IsPlace, column_of}
use Rattle.obstacle_mark.specs.declared.places.PassedPlaces.{PassedPlaces}
use Rattle.obstacle_mark.specs.AreasLeft.{area_left}
use Rattle.obstacle_mark.specs.Columns.{ArePlaces, IsPassed}
use Rattle.obstacle_mark.specs.Places.{places_taken, level_kept, next_kept, ArePassed}
use Rattle.obstacle_mark.proofs.Rows.{IsNonDecreasingBy-from_pairs}

-- a test of an element's image and of the element itself, over a list and over the images of those that pass the second
any_kept : {X Y : Type 0} (f : X → Y) (p : Y → Bool) (q : X → Bool) (xs : List X)
    → list_any (λ x. p (f x) && q x) xs ≡ list_any p (map f (filter q xs))
any_kept f p q [] = refl
any_kept {X = X} {Y = Y} f p q (x ∷ xs) =
    ap (λ b. p (f x) && q x || b) (any_kept f p q xs) ∙ by_test (q x) (filter q xs)
  where
    by_test : (b : Bool) (ys : List X) → (p (f x) && b || list_any p (map f ys)) ≡ list_any p (map f (cond b (x ∷ ys) ys))
    by_test true ys = ap (λ c. c || list_any p (map f ys)) (and-true (p (f x)))
    by_test false ys = ap (λ c. c || list_any p (map f ys)) (and-false (p (f x)))

-- a neighbour is lost exactly where it is one of the places of blocked cells
lost_among : (taken : Cell → Bool) (cells : List Cell) (shapes : List Shape) (cell : Cell) (dir : ℕ)
    → is_lost taken cells cell dir ≡ list_any (λ (at : CellRef). is_naming dir cell at) (places_taken taken cells)
lost_among taken cells shapes cell dir = any_kept (λ (other : Cell). other.at) (λ (at : CellRef). is_naming dir cell at) (taken) cells

kept_next : (taken : Cell → Bool) (cells : List Cell) (shapes : List Shape) (cell : Cell) (dir : ℕ)
    → level_kept (places_taken taken cells) cell dir ≡ free_next taken cells cell dir
kept_next taken cells shapes cell dir = ap (λ b. if b then None else next_level cell dir) (sym (lost_among taken cells shapes cell dir))

four : (f g : ℕ → Option ℕ) → ((dir : ℕ) → f dir ≡ g dir) → f 0 ∷ f 1 ∷ f 2 ∷ f 3 ∷ [] ≡ g 0 ∷ g 1 ∷ g 2 ∷ g 3 ∷ []
four f g same = cc (same 0, same 1, same 2, same 3)

-- the neighbours that a cell keeps beside the blocked places are those that it keeps as a free cell
next_free : (taken : Cell → Bool) (cells : List Cell) (shapes : List Shape) (cell : Cell)
    → next_kept (places_taken taken cells) cell ≡ (free_cell_of taken cells shapes cell).next
next_free taken cells shapes cell =
    four (level_kept (places_taken taken cells) cell) (free_next taken cells cell) (kept_next taken cells shapes cell)

pub area_of_left : (blocked : Bool) (under area : ℕ) → (if blocked then None else Some under) ≡ Some area → (blocked ≡ false) × (under ≡ area)
area_of_left true under area left = absurd cc
area_of_left false under area left = (refl, cc)

no_area_left : (blocked : Bool) (under : ℕ) → (if blocked then None else Some under) ≡ None → blocked ≡ true
no_area_left true under left = refl
no_area_left false under left = absurd cc

-- a cell that is left with an area is free, and this is its free cell
pub free_cell_left : (taken : Cell → Bool) (cells : List Cell) (shapes : List Shape) (cell : Cell) (area : ℕ) (next : List (Option ℕ))
    → area_left taken shapes cell ≡ Some area → next ≡ next_kept (places_taken taken cells) cell
    → record cell { area = area; next = next } ≡ free_cell_of taken cells shapes cell
free_cell_left taken cells shapes cell area next left is =
    let under = (area_of_left (taken cell) (area_under shapes cell) area left).1 in
    let same = is ∙ next_free taken cells shapes cell in
    ap (λ (a : ℕ). record cell { area = a; next = next }) (sym under)
    ∙ ap (λ (n : List (Option ℕ)). record cell { area = area_under shapes cell; next = n }) same

kept_more : {X Y : Type 0} (f : X → Y) (p : X → Bool) (xs : List X) (i : ℕ) (d : X) (b : Bool) → i < length xs → p (get_or xs i d) ≡ b
    → map f (filter p (take (i + 1) xs)) ≡ map f (filter p (take i xs)) ++ map f (cond b (get_or xs i d ∷ []) [])
kept_more f p xs i d b there is =
    ap (map f) (filter_more p xs i d there)
    ∙ map-append f (filter p (take i xs)) (cond (p (get_or xs i d)) (get_or xs i d ∷ []) [])
    ∙ ap (λ c. map f (filter p (take i xs)) ++ map f (cond c (get_or xs i d ∷ []) [])) is

-- one more cell that is left with an area
pub one_more_free : (taken : Cell → Bool) (cells : List Cell) (shapes : List Shape) (i : ℕ) (d : Cell) (area : ℕ) (free : List Cell) (cell : Cell)
    → i < length cells → area_left taken shapes (get_or cells i d) ≡ Some area → cell ≡ free_cell_of taken cells shapes (get_or cells i d)
    → free ≡ map (free_cell_of taken cells shapes) (filter (λ (c : Cell). not (taken c)) (take i cells))
    → free ++ cell ∷ [] ≡ map (free_cell_of taken cells shapes) (filter (λ (c : Cell). not (taken c)) (take (i + 1) cells))
one_more_free taken cells shapes i d area free cell there left is before =
    let open' = (area_of_left (taken (get_or cells i d)) (area_under shapes (get_or cells i d)) area left).0 in
    ap (λ (xs : List Cell). xs ++ cell ∷ []) before
    ∙ ap (λ (c : Cell). map (free_cell_of taken cells shapes) (filter (λ (c : Cell). not (taken c)) (take i cells)) ++ c ∷ []) is
    ∙ sym (kept_more (free_cell_of taken cells shapes) (λ (c : Cell). not (taken c)) cells i d true there (ap not open'))

-- one more cell that is left without an area
pub one_more_blocked_cell : (taken : Cell → Bool) (cells : List Cell) (shapes : List Shape) (i : ℕ) (d : Cell) (free : List Cell)
    → i < length cells → area_left taken shapes (get_or cells i d) ≡ None
    → free ≡ map (free_cell_of taken cells shapes) (filter (λ (c : Cell). not (taken c)) (take i cells))
    → free ≡ map (free_cell_of taken cells shapes) (filter (λ (c : Cell). not (taken c)) (take (i + 1) cells))
one_more_blocked_cell taken cells shapes i d free there left before =
    let closed = no_area_left (taken (get_or cells i d)) (area_under shapes (get_or cells i d)) left in
    before ∙ sym (append-nil (map (free_cell_of taken cells shapes) (filter (λ (c : Cell). not (taken c)) (take i cells))))
    ∙ sym (kept_more (free_cell_of taken cells shapes) (λ (c : Cell). not (taken c)) cells i d false there (ap not closed))

-- the places of the blocked cells are places in order of columns
column_rises : (a b : CellRef) → IsPlace a → IsPlace b → IsCellBefore a b → column_of a ≤ column_of b
column_rises a b pa pb (inl below) = omega (arith, below, pa.x, pb.x)
column_rises a b pa pb (inr (same, inl left)) = omega (arith, same, left)
column_rises a b pa pb (inr (same, inr (same', under))) = omega (arith, same, same')

pub place_of_cell : (cell : Cell) → IsCell cell → IsPlace cell.at
place_of_cell cell rules' = record { x = rules'.x; z = rules'.z }

pub columns_rise : (cells : List Cell) → IsCells cells → AllPairs (λ (a b : Cell). column_of a.at ≤ column_of b.at) cells
columns_rise cells rules' i j d before there =
    column_rises (get_or cells i d).at (get_or cells j d).at
    (place_of_cell _ (rules'.each i d (omega arith))) (place_of_cell _ (rules'.each j d there)) (rules'.order i j d before there)

pub blocked_are_places : (taken : Cell → Bool) (cells : List Cell) → IsCells cells → ArePlaces (places_taken taken cells)
blocked_are_places taken cells rules' = record {
  each = All-kept IsPlace (λ (cell : Cell). cell.at) (taken) cells (λ k d there blocked. place_of_cell _ (rules'.each k d there));
  order = IsNonDecreasingBy-from_pairs column_of (places_taken taken cells)
      (AllPairs-map (λ a b. column_of a ≤ column_of b) (λ (cell : Cell). cell.at) (filter (taken) cells)
      (AllPairs-filter (λ (a b : Cell). column_of a.at ≤ column_of b.at) (taken) cells (columns_rise cells rules')));
}

-- what is passed before a column is passed before a later one
pub passed_later : (places : List CellRef) (n column column' : ℕ) → column ≤ column' → IsPassed places n column → IsPassed places n column'
passed_later places n column column' later passed = record {
  most = passed.most;
  before = λ k d below. let h = passed.before k d below in omega (arith, h, later);
}

-- what is passed before one cell's neighbours is passed before those of a cell of a later column
pub passed_on : (places : List CellRef) (passed : PassedPlaces) (a b : CellRef) → column_of a ≤ column_of b → ArePassed places passed a → ArePassed places passed b
passed_on places passed a b later before = record {
  left = passed_later places passed.left _ _ (omega (arith, later)) before.left;
  above = passed_later places passed.above _ _ (omega (arith, later)) before.above;
  right = passed_later places passed.right _ _ (omega (arith, later)) before.right;
  below = passed_later places passed.below _ _ (omega (arith, later)) before.below;
  clear = λ column from. before.clear column (omega (arith, later, from));
}

-- at first nothing is passed
pub none_passed_yet : (places : List CellRef) (column : ℕ) → IsPassed places 0 column
none_passed_yet places column = record { most = omega arith; before = λ k d below. absurd (omega arith) }

pub all_unpassed : (places : List CellRef) (passed : PassedPlaces) (at : CellRef)
    → passed ≡ record { left = 0; above = 0; right = 0; below = 0; clear_before = 0 } → ArePassed places passed at
all_unpassed places passed at is =
    let P : PassedPlaces → Type 0 = λ (p : PassedPlaces). ArePassed places p at in
    subst P (sym is) (record {
      left = none_passed_yet places _;
      above = none_passed_yet places _;
      right = none_passed_yet places _;
      below = none_passed_yet places _;
      clear = λ column from small. absurd (omega (arith, small));
    })

-- once the neighbours of one cell are looked up, what is passed is passed before those of each later cell
pub passed_after : (cells : List Cell) (places : List CellRef) (passed : PassedPlaces) (i : ℕ) (e : Cell) → IsCells cells → i < length cells
    → ArePassed places passed (get_or cells i e).at
    → (j : ℕ) (d : Cell) → i + 1 ≤ j → j < length cells → ArePassed places passed (get_or cells j d).at
passed_after cells places passed i e rules' here before j d later there =
    let rises = columns_rise cells rules' i j d (omega (arith, later)) there in
    let P : Cell → Type 0 = λ (cell : Cell). ArePassed places passed cell.at in
    passed_on places passed (get_or cells i d).at (get_or cells j d).at rises (subst P (get_or_default cells i e d here) before)
