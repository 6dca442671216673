-- Columns by number: neighbours, and places that are sought among others.
use Rattle.std.proofs.Common.{◌≡◌, ℕ, ◌+◌, ◌<◌, Bool, true, false, length, List, [], ◌∷◌, take, drop, get_or, ap, ◌∙◌, sym, refl, Some, None, arith}
use Rattle.std.specs.Prelude.{◌==◌, ◌||◌, All, if◌then◌else◌}
use Rattle.std.specs.List.{list_any}
use Rattle.std.proofs.lemmas.Bool.{and_left, and_right, ne_eqb}
use Rattle.std.proofs.lemmas.List.{get_or-take, get_or-drop, take-append-drop, length-take-le, length-drop}
use Rattle.std.proofs.lemmas.List.Elements.{All-head, All-tail, All-weaker}
use Rattle.std.proofs.lemmas.List.Folds.{list_any_none, list_any_more, list_any-append}
use Rattle.nav_ground.specs.declared.cell.Cell.{Cell}
use Rattle.nav_ground.specs.declared.cell.CellRef.{CellRef}
use Rattle.nav_ground.specs.Cells.{is_naming, next_level}
use Rattle.cell_table.specs.Columns.{IsPlace, column_of, column_toward, is_at}
use Rattle.cell_table.proofs.Places.{naming_number}
use Rattle.obstacle_mark.specs.Columns.{ArePlaces, IsPassed}
use Rattle.obstacle_mark.specs.Places.{is_there, level_kept}

-- two tests that agree at each element of a list agree on whether one passes
pub list_any_same : {A : Type 0} (p q : A → Bool) (xs : List A) → All (λ x. p x ≡ q x) xs → list_any p xs ≡ list_any q xs
list_any_same p q [] each = refl
list_any_same p q (x ∷ xs) each =
    ap (λ b. b || list_any p xs) (All-head (λ y. p y ≡ q y) x xs each)
    ∙ ap (λ b. q x || b) (list_any_same p q xs (All-tail (λ y. p y ≡ q y) x xs each))

-- a cell that names a level has a neighbour among the places exactly where one of them has that level and the column of that direction
pub named_there : (dir level : ℕ) (cell : Cell) (places : List CellRef) → dir < 4 → IsPlace cell.at → All IsPlace places
    → next_level cell dir ≡ Some level
    → list_any (λ (at : CellRef). is_naming dir cell at) places ≡ is_there (column_toward dir cell.at) level places
named_there dir level cell places small f each named =
    list_any_same (λ (at : CellRef). is_naming dir cell at) (is_at (column_toward dir cell.at) level) places
    (All-weaker IsPlace (λ (at : CellRef). is_naming dir cell at ≡ is_at (column_toward dir cell.at) level at)
    (λ at t. naming_number dir level cell at small f t named) places each)

or_from : (a b : Bool) → a ≡ false → b ≡ false → (a || b) ≡ false
or_from a b none none' = ap (λ x. x || b) none ∙ none'

-- places of which none has the column
pub none_there : (column level : ℕ) (places : List CellRef) → ((k : ℕ) (d : CellRef) → k < length places → column_of (get_or places k d) ≡ column → ⊥)
    → is_there column level places ≡ false
none_there column level places apart =
    list_any_none (is_at column level) places
    (λ k d there. and_left (column_of (get_or places k d) == column) _ (ne_eqb _ _ (apart k d there)))

-- places that are passed are not in the column
pub none_passed : (column level n : ℕ) (places : List CellRef) → IsPassed places n column → is_there column level (take n places) ≡ false
none_passed column level n places passed =
    let fewer = length-take-le n places passed.most in
    none_there column level (take n places) (λ k d there same.
    let at = get_or-take n places k d (omega (arith, fewer, there)) in
    let before = passed.before k d (omega (arith, fewer, there)) in
    let same' : column_of (get_or places k d) ≡ column = ap column_of (sym at) ∙ same in
    omega (arith, before, same'))

-- one more place that does not have the column and the level
pub none_more : (column level i : ℕ) (places : List CellRef) (d : CellRef) → i < length places
    → is_there column level (take i places) ≡ false → (level ≡ (get_or places i d).level → ⊥) → is_there column level (take (i + 1) places) ≡ false
none_more column level i places d there before apart =
    list_any_more (is_at column level) places i d there
    ∙ or_from (is_there column level (take i places)) _ before
    (and_right (column_of (get_or places i d) == column) (level == (get_or places i d).level) (ne_eqb _ _ apart))

-- past a place of a later column there is none of the column
pub none_after : (column level i : ℕ) (places : List CellRef) → ArePlaces places
    → ((d : CellRef) → i < length places → column < column_of (get_or places i d))
    → is_there column level (take i places) ≡ false → is_there column level places ≡ false
none_after column level i places rules' later before =
    ap (is_there column level) (sym (take-append-drop i places))
    ∙ list_any-append (is_at column level) (take i places) (drop i places)
    ∙ or_from (is_there column level (take i places)) (is_there column level (drop i places)) before
    (none_there column level (drop i places) (λ k d there same.
    let there' : i + k < length places = omega (arith, there, length-drop i places) in
    let at = get_or-drop i places k d in
    let first = later d (omega arith) in
    let rises = rules'.order i (i + k) d (omega arith) there' in
    let same' : column_of (get_or places (i + k) d) ≡ column = ap column_of (sym at) ∙ same in
    omega (arith, first, rises, same')))

-- the level that a cell keeps is none where that place is blocked, and the one that it names where it is not
kept_where : (dir level : ℕ) (cell : Cell) (blocked : List CellRef) (there : Bool) → dir < 4 → IsPlace cell.at → All IsPlace blocked
    → next_level cell dir ≡ Some level → there ≡ is_there (column_toward dir cell.at) level blocked
    → (if there then None else Some level) ≡ level_kept blocked cell dir
kept_where dir level cell blocked there small f each named found =
    ap (λ b. if b then None else Some level) (found ∙ sym (named_there dir level cell blocked small f each named))
    ∙ ap (λ o. if list_any (λ (to : CellRef). is_naming dir cell to) blocked then None else o) (sym named)

pub kept_none : (dir level : ℕ) (cell : Cell) (blocked : List CellRef) → dir < 4 → IsPlace cell.at → All IsPlace blocked
    → next_level cell dir ≡ Some level → is_there (column_toward dir cell.at) level blocked ≡ true → None ≡ level_kept blocked cell dir
kept_none dir level cell blocked small f each named found = kept_where dir level cell blocked true small f each named (sym found)

pub kept_level : (dir level : ℕ) (cell : Cell) (blocked : List CellRef) → dir < 4 → IsPlace cell.at → All IsPlace blocked
    → next_level cell dir ≡ Some level → is_there (column_toward dir cell.at) level blocked ≡ false → Some level ≡ level_kept blocked cell dir
kept_level dir level cell blocked small f each named found = kept_where dir level cell blocked false small f each named (sym found)
