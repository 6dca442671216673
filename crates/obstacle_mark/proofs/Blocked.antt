-- The places of taken cells, cell by cell.
use Rattle.std.proofs.Common.{◌≡◌, ℕ, ◌+◌, ◌<◌, ◌++◌, Bool, true, false, cond, length, List, [], ◌∷◌, take, map, get_or, ap, ◌∙◌, sym, refl, Option, None, Some}
use Rattle.std.specs.Prelude.{is_some, not, if◌then◌else◌}
use Rattle.std.proofs.lemmas.Bool.{not-true, not-false}
use Rattle.std.specs.List.{filter}
use Rattle.std.proofs.lemmas.List.{map-append, append-nil, get_or-map}
use Rattle.std.proofs.lemmas.List.Elements.{filter_more}
use Rattle.nav_ground.specs.declared.cell.Cell.{Cell}
use Rattle.nav_ground.specs.declared.cell.CellRef.{CellRef}
use Rattle.nav_ground.specs.declared.shape.Shape.{Shape}
use Rattle.nav_ground.specs.FreeCells.{area_under}
use Rattle.obstacle_mark.specs.AreasLeft.{area_left}
use Rattle.obstacle_mark.specs.Places.{places_taken}

-- the cell that stands where there is none
abbrev pub no_cell : Cell
no_cell = record { at = record { x = 0; z = 0; level = 0 }; floor = 0; ceiling = 0; area = 0; next = [] }

-- the area that stands beside a cell
pub area_beside : (taken : Cell → Bool) (shapes : List Shape) (cells : List Cell) (areas : List (Option ℕ)) (i : ℕ) (d : Cell)
    → areas ≡ map (area_left taken shapes) cells → i < length cells → get_or areas i None ≡ area_left taken shapes (get_or cells i d)
area_beside taken shapes cells areas i d left there = ap (λ xs. get_or xs i None) left ∙ get_or-map (area_left taken shapes) cells i d None there

-- a cell is left with an area exactly where it is not taken
pub some_where : (blocked : Bool) (area : ℕ) → is_some (if blocked then None else Some area) ≡ not blocked
some_where true area = refl
some_where false area = refl

pub blocked_where : (taken : Cell → Bool) (shapes : List Shape) (cells : List Cell) (areas : List (Option ℕ)) (i : ℕ) (d : Cell)
    → areas ≡ map (area_left taken shapes) cells → i < length cells → is_some (get_or areas i None) ≡ not (taken (get_or cells i d))
blocked_where taken shapes cells areas i d left there =
    ap is_some (area_beside taken shapes cells areas i d left there)
    ∙ some_where (taken (get_or cells i d)) (area_under shapes (get_or cells i d))

places_more : (taken : Cell → Bool) (cells : List Cell) (i : ℕ) (d : Cell) (blocked : Bool) → i < length cells
    → taken (get_or cells i d) ≡ blocked
    → places_taken taken (take (i + 1) cells)
    ≡ places_taken taken (take i cells) ++ map (λ (cell : Cell). cell.at) (cond blocked (get_or cells i d ∷ []) [])
places_more taken cells i d blocked there is =
    ap (map (λ (cell : Cell). cell.at)) (filter_more (taken) cells i d there)
    ∙ map-append (λ (cell : Cell). cell.at) (filter (taken) (take i cells)) (cond (taken (get_or cells i d)) (get_or cells i d ∷ []) [])
    ∙ ap (λ b. places_taken taken (take i cells) ++ map (λ (cell : Cell). cell.at) (cond b (get_or cells i d ∷ []) [])) is

-- one more cell that is left without an area
pub one_more_blocked : (taken : Cell → Bool) (shapes : List Shape) (cells : List Cell) (areas : List (Option ℕ)) (i : ℕ) (d : Cell) (places : List CellRef)
    → areas ≡ map (area_left taken shapes) cells → i < length cells → is_some (get_or areas i None) ≡ false
    → places ≡ places_taken taken (take i cells)
    → places ++ (get_or cells i d).at ∷ [] ≡ places_taken taken (take (i + 1) cells)
one_more_blocked taken shapes cells areas i d places left there none before =
    ap (λ ps. ps ++ (get_or cells i d).at ∷ []) before
    ∙ sym (places_more taken cells i d true there (not-false _ (sym (blocked_where taken shapes cells areas i d left there) ∙ none)))

-- one more cell that is left with an area
pub one_more_open : (taken : Cell → Bool) (shapes : List Shape) (cells : List Cell) (areas : List (Option ℕ)) (i : ℕ) (d : Cell) (places : List CellRef)
    → areas ≡ map (area_left taken shapes) cells → i < length cells → is_some (get_or areas i None) ≡ true
    → places ≡ places_taken taken (take i cells)
    → places ≡ places_taken taken (take (i + 1) cells)
one_more_open taken shapes cells areas i d places left there some before =
    before ∙ sym (append-nil (places_taken taken (take i cells)))
    ∙ sym (places_more taken cells i d false there (not-true _ (sym (blocked_where taken shapes cells areas i d left there) ∙ some)))
