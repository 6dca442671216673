-- The neighbours that kept cells name.
use Rattle.std.proofs.Common.{◌≡◌, ℕ, ◌<◌, Bool, true, false, cond, List, [], ◌∷◌, length, map, filter, get_or, ap, ◌∙◌, sym, refl, arith, Option, Some, None, inl, inr}
use Rattle.std.specs.Prelude.{Contains, ◌&&◌, ◌||◌, ◌==◌, if◌then◌else◌}
use Rattle.std.specs.List.{list_any}
use Rattle.std.specs.Option.{option_map_or}
use Rattle.std.proofs.lemmas.Bool.{and_parts, and_from, and_left, and_right, eq-eqb, cases_lt}
use Rattle.std.proofs.lemmas.List.{length-map, get_or-map, get_or_default}
use Rattle.std.proofs.lemmas.List.Elements.{All-contains}
use Rattle.std.proofs.lemmas.List.Folds.{list_any_at, list_any_none}
use Rattle.nav_ground.specs.declared.cell.Cell.{Cell}
use Rattle.nav_ground.specs.declared.cell.CellRef.{CellRef}
use Rattle.nav_ground.specs.Cells.{IsCell, IsCells, IsCellBefore, IsCompact, is_toward, is_naming, next_level}
use Rattle.nav_ground.specs.Clearance.{has_neighbour}
use Rattle.nav_ground.specs.Layers.{kept_level}
use Rattle.nav_ground.proofs.FreeLayers.{names_one}
use Rattle.layer_cut.specs.Neighbours.{HasColumnToward, IsPlaceOf}
use Rattle.layer_cut.proofs.PlacesFound.{IsIndexOf}

-- a cell that is not connected in a direction names no kept level there
pub none_kept : (kept : List Cell) (cell : Cell) (dir : ℕ) (level : Option ℕ) → level ≡ None → next_level cell dir ≡ None
    → level ≡ kept_level kept cell dir
none_kept kept cell dir level is none =
    elim (has_neighbour kept cell dir) as (λ b. level ≡ (if b then next_level cell dir else None))
    [ true ↦ is ∙ sym none | false ↦ is ]

-- a cell that names a level has a column in that direction
pub column_toward : (cells : List Cell) (cell : Cell) (dir level : ℕ) → IsCompact cells → Contains cells cell → dir < 4
    → next_level cell dir ≡ Some level → HasColumnToward dir cell.at
column_toward cells cell dir level compact has small named =
    let is_cell = All-contains IsCell cells cell compact.rules.each has in
    let other = compact.complete dir level cell small has named in
    record {
      x = is_cell.x;
      z = is_cell.z;
      to = other.0.at;
      toward = (and_parts (is_toward dir cell.at other.0.at) _ other.2).0;
    }

-- a cell that names a level names the place of that level in that direction
pub names_place : (cell : Cell) (dir level : ℕ) (place : CellRef) → next_level cell dir ≡ Some level → is_toward dir cell.at place ≡ true
    → place.level ≡ level → is_naming dir cell place ≡ true
names_place cell dir level place named toward same =
    and_from (is_toward dir cell.at place) _ toward
    (ap (λ next. option_map_or (λ l. l == place.level) next false) named ∙ eq-eqb level place.level (sym same))

-- and that is the place of a cell of the list
pub place_there : (cells : List Cell) (cell : Cell) (dir level : ℕ) (place : CellRef) → IsCompact cells → Contains cells cell → dir < 4
    → next_level cell dir ≡ Some level → is_toward dir cell.at place ≡ true → place.level ≡ level → IsPlaceOf cells place
place_there cells cell dir level place compact has small named toward same =
    let other = compact.complete dir level cell small has named in
    let is = names_one dir cell other.0.at place small other.2 (names_place cell dir level place named toward same) in
    let k = other.1.0 in
    let there : k < length cells = other.1.1 in (
      k,
      omega (arith, there, length-map cells (λ (c : Cell). c.at)),
      get_or-map (λ (c : Cell). c.at) cells k other.0 place there ∙ ap (λ (c : Cell). c.at) other.1.2 ∙ is,
    )

-- a test of those that pass another
any_filter : {X : Type 0} (q p : X → Bool) (xs : List X) → list_any q (filter p xs) ≡ list_any (λ x. p x && q x) xs
any_filter q p [] = refl
any_filter q p (x ∷ xs) =
    let rest = any_filter q p xs in
    elim (p x) as (λ b. list_any q (cond b (x ∷ filter p xs) (filter p xs)) ≡ (b && q x || list_any (λ y. p y && q y) xs))
    [ true ↦ ap (λ b. q x || b) rest | false ↦ rest ]

not_before_itself : (a b : CellRef) → a ≡ b → IsCellBefore a b → ⊥
not_before_itself a b same (inl below) = omega (arith, below, ap (λ (c : CellRef). c.z) same)
not_before_itself a b same (inr (row, inl left)) = omega (arith, left, ap (λ (c : CellRef). c.x) same)
not_before_itself a b same (inr (row, inr (column, under))) = omega (arith, under, ap (λ (c : CellRef). c.level) same)

-- a place is that of one index
one_index : (cells : List Cell) → IsCells cells → (i j : ℕ) (d : Cell) → i < length cells → j < length cells
    → (get_or cells i d).at ≡ (get_or cells j d).at → i ≡ j
one_index cells rules' i j d here there same =
    elim (cases_lt i j) [
      | inl before ↦ absurd (not_before_itself _ _ same (rules'.order i j d before there))
      | inr rest ↦ elim (cases_lt j i) [
        | inl after ↦ absurd (not_before_itself _ _ (sym same) (rules'.order j i d after here))
        | inr rest' ↦ omega arith
      ]
    ]

-- a cell has a neighbour among the kept cells exactly where the cell at the place that it names is kept
near_is : (cells : List Cell) (p : Cell → Bool) (cell : Cell) (dir index : ℕ) (place : CellRef) (d : Cell) → IsCells cells → dir < 4
    → IsIndexOf cells place index → is_naming dir cell place ≡ true
    → has_neighbour (filter p cells) cell dir ≡ p (get_or cells index d)
near_is cells p cell dir index place d rules' small is named =
    any_filter (λ (o : Cell). is_naming dir cell o.at) p cells ∙ by_kept (p (get_or cells index d)) refl
  where
    by_kept : (b : Bool) → b ≡ p (get_or cells index d) → list_any (λ (o : Cell). p o && is_naming dir cell o.at) cells ≡ b
    by_kept true kept =
        list_any_at (λ (o : Cell). p o && is_naming dir cell o.at) cells index d is.within
        (and_from (p (get_or cells index d)) _ (sym kept) (ap (is_naming dir cell) (is.at d) ∙ named))
    by_kept false gone =
        list_any_none (λ (o : Cell). p o && is_naming dir cell o.at) cells
        (λ k e there. by_naming k e there (is_naming dir cell (get_or cells k e).at) refl)
      where
        by_naming : (k : ℕ) (e : Cell) → k < length cells → (b : Bool) → b ≡ is_naming dir cell (get_or cells k e).at
            → (p (get_or cells k e) && is_naming dir cell (get_or cells k e).at) ≡ false
        by_naming k e there false un = and_right (p (get_or cells k e)) _ (sym un)
        by_naming k e there true names =
            let at = names_one dir cell (get_or cells k e).at place small (sym names) named in
            let same = one_index cells rules' k index e there is.within (at ∙ sym (is.at e)) in
            and_left (p (get_or cells k e)) _ (ap p (ap (λ i. get_or cells i e) same ∙ sym (get_or_default cells index d e is.within)) ∙ sym gone)

-- so the mark of that cell says whether the level is kept
pub level_marked : (cells : List Cell) (marks : List Bool) (p : Cell → Bool) (cell : Cell) (dir level index : ℕ) (place : CellRef) (b e : Bool)
    → IsCompact cells → dir < 4 → marks ≡ map p cells → IsIndexOf cells place index → next_level cell dir ≡ Some level
    → is_toward dir cell.at place ≡ true → place.level ≡ level → get_or marks index e ≡ b
    → (if b then Some level else None) ≡ kept_level (filter p cells) cell dir
level_marked cells marks p cell dir level index place b e compact small marked is named toward same mark =
    let near = near_is cells p cell dir index place cell compact.rules small is (names_place cell dir level place named toward same) in
    let p_is : p (get_or cells index cell) ≡ b = sym (get_or-map p cells index cell e is.within) ∙ ap (λ (xs : List Bool). get_or xs index e) (sym marked) ∙ mark in
    ap (λ next. if b then next else None) (sym named) ∙ ap (λ c. if c then next_level cell dir else None) (sym (near ∙ p_is))
