-- What marking with a radius stands on: the window of all columns, places by column and level, and the areas of taken cells.
use Rattle.std.proofs.Common.{◌≡◌, ℕ, ◌+◌, ◌<◌, Bool, true, false, List, length, map, filter, get_or, ap, ◌∙◌, sym, subst, refl, Option, Some, None, pos, arith, inl, inr}
use Rattle.std.specs.Prelude.{All, is_some, ◌&&◌, ◌||◌, ◌==◌, not, if◌then◌else◌, int_le}
use Rattle.std.specs.List.{list_any}
use Rattle.std.proofs.lemmas.Bool.{cases_lt, and_parts, and_from, eqb-true, eq-eqb}
use Rattle.std.proofs.lemmas.Int.{ints}
use Rattle.std.proofs.lemmas.Simd.{map-map}
use Rattle.std.proofs.lemmas.List.{same_lists, length-map, get_or-map, get_or_default}
use Rattle.std.proofs.lemmas.List.Elements.{All-filter, All-weaker}
use Rattle.nav_ground.specs.declared.cell.Cell.{Cell}
use Rattle.nav_ground.specs.declared.cell.CellRef.{CellRef}
use Rattle.nav_ground.specs.declared.cell.Layer.{Layer}
use Rattle.nav_ground.specs.declared.cell.Window.{Window}
use Rattle.nav_ground.specs.declared.shape.Shape.{Shape}
use Rattle.nav_ground.specs.Cells.{IsCell, IsCells}
use Rattle.nav_ground.specs.Clearance.{is_kept, kept_cells, marked, places_of, cells_in}
use Rattle.nav_ground.specs.FreeCells.{is_blocked, is_unblocked, is_same_place, clear_places, is_taken, area_under}
use Rattle.nav_ground.proofs.Selections.{filter_all, filter-filter}
use Rattle.cell_table.proofs.Places.{same_test}
use Rattle.agent_erode.proofs.Marked.{marked_by_test}
use Rattle.cell_table.specs.Columns.{IsPlace, column_of}
use Rattle.obstacle_mark.specs.AreasLeft.{area_left, area_clear}
use Rattle.obstacle_mark.specs.Columns.{ArePlaces}
use Rattle.obstacle_mark.specs.Places.{is_there}
use Rattle.obstacle_mark.proofs.Blocked.{area_beside, some_where, no_cell}
use Rattle.obstacle_mark.proofs.Columns.{list_any_same}
use Rattle.obstacle_mark.proofs.FreeCellsLeft.{blocked_are_places}

-- all columns of the largest field hold all cells
abbrev pub everywhere : Window
everywhere = record { x0 = pos 0; x1 = pos 1023; z0 = pos 0; z1 = pos 1023 }

within_field : (x : ℕ) → x < 1024 → (int_le (pos 0) (pos x) && int_le (pos x) (pos 1023)) ≡ true
within_field x small = and_from _ _ (low x) (high x small)
  where
    low : (n : ℕ) → int_le (pos 0) (pos n) ≡ true
    low n = grind (arith, ints)

    high : (n : ℕ) → n < 1024 → int_le (pos n) (pos 1023) ≡ true
    high n h = grind (arith, ints)

pub all_everywhere : (cells : List Cell) → All IsCell cells → cells_in everywhere cells ≡ cells
all_everywhere cells each =
    filter_all _ cells (λ k d there.
    let cell = each k d there in
    and_from _ _ (within_field (get_or cells k d).at.x cell.x) (within_field (get_or cells k d).at.z cell.z))

-- a cell is left with an area exactly where no shape blocks it
pub open_where : (cells : List Cell) (shapes : List Shape) → map is_some (map (area_left (is_blocked shapes) shapes) cells) ≡ map (is_unblocked shapes) cells
open_where cells shapes =
    map-map is_some (area_left (is_blocked shapes) shapes) cells
    ∙ (λ i. map (λ (cell : Cell). some_where (is_blocked shapes cell) (area_under shapes cell) i) cells)

-- the clear places of a list of cells, from the marks of those that no shape blocks
pub clear_where : (wide : List Cell) (shapes : List Shape) (uncovered : List Bool) (radius : ℕ) → All IsCell wide
    → uncovered ≡ map (is_unblocked shapes) wide
    → places_of (cells_in everywhere (kept_cells (marked wide uncovered) radius)) ≡ places_of (kept_cells (filter (is_unblocked shapes) wide) radius)
clear_where wide shapes uncovered radius each are =
    let left = filter (is_unblocked shapes) wide in
    ap (λ (marks : List Bool). places_of (cells_in everywhere (kept_cells (marked wide marks) radius))) are
    ∙ ap (λ (cells : List Cell). places_of (cells_in everywhere (kept_cells cells radius))) (marked_by_test (is_unblocked shapes) wide)
    ∙ ap places_of (all_everywhere (kept_cells left radius)
    (All-filter (is_kept left radius) IsCell left (All-filter (is_unblocked shapes) IsCell wide each)))

-- they are places in order of columns
pub clear_are_places : (wide : List Cell) (shapes : List Shape) (radius : ℕ) → IsCells wide
    → ArePlaces (places_of (kept_cells (filter (is_unblocked shapes) wide) radius))
clear_are_places wide shapes radius rules' =
    let left = filter (is_unblocked shapes) wide in
    subst (λ (cells : List Cell). ArePlaces (places_of cells)) (sym (filter-filter (is_kept left radius) (is_unblocked shapes) wide))
    (blocked_are_places (λ (cell : Cell). is_unblocked shapes cell && is_kept left radius cell) wide rules')

-- a column's number and a level tell a place
pub by_number : (at to : CellRef) → IsPlace at → IsPlace to → (column_of to == column_of at && at.level == to.level) ≡ is_same_place at to
by_number at to a t = same_test _ _
    (λ h.
    let parts = and_parts (column_of to == column_of at) (at.level == to.level) h in
    let same = eqb-true (column_of to) (column_of at) parts.0 in
    and_from _ _ (eq-eqb at.x to.x (omega (arith, same, a.x, t.x))) (and_from _ _ (eq-eqb at.z to.z (omega (arith, same, a.x, t.x))) parts.1))
    (λ h.
    let parts = and_parts (at.x == to.x) _ h in
    let rest = and_parts (at.z == to.z) (at.level == to.level) parts.1 in
    let x = eqb-true at.x to.x parts.0 in
    let z = eqb-true at.z to.z rest.0 in
    and_from _ _ (eq-eqb (column_of to) (column_of at) (omega (arith, x, z))) rest.1)

-- the areas of a layer's cells, where it has no radius and where it has one
pub areas_plain : (layer : Layer) (shapes : List Shape) → (layer.radius == 0) ≡ true
    → map (area_left (is_blocked shapes) shapes) layer.cells ≡ map (area_left (is_taken layer shapes) shapes) layer.cells
areas_plain layer shapes none =
    ap (λ (b : Bool). map (area_left (λ (cell : Cell).
    (if b then false else not (list_any (is_same_place cell.at) (clear_places layer shapes))) || is_blocked shapes cell) shapes) layer.cells) (sym none)

pub areas_crowded : (layer : Layer) (shapes : List Shape) → (layer.radius == 0) ≡ false
    → map (area_left (λ (cell : Cell). not (list_any (is_same_place cell.at) (clear_places layer shapes)) || is_blocked shapes cell) shapes) layer.cells
    ≡ map (area_left (is_taken layer shapes) shapes) layer.cells
areas_crowded layer shapes some =
    ap (λ (b : Bool). map (area_left (λ (cell : Cell).
    (if b then false else not (list_any (is_same_place cell.at) (clear_places layer shapes))) || is_blocked shapes cell) shapes) layer.cells) (sym some)

-- one of the places is that of a cell exactly where it has the cell's column and level
pub any_by_number : (at : CellRef) (places : List CellRef) → IsPlace at → All IsPlace places
    → is_there (column_of at) at.level places ≡ list_any (is_same_place at) places
any_by_number at places place each =
    list_any_same (λ (to : CellRef). column_of to == column_of at && at.level == to.level) (is_same_place at) places
    (All-weaker IsPlace (λ (to : CellRef). (column_of to == column_of at && at.level == to.level) ≡ is_same_place at to)
    (λ to is. by_number at to place is) places each)

-- so a cell is left with its area where it is found, and with none where it is not
pub found_clear : (cell : Cell) (clear : List CellRef) (before : Option ℕ) (there : Bool) → IsPlace cell.at → All IsPlace clear
    → is_there (column_of cell.at) cell.at.level clear ≡ there → (if there then before else None) ≡ area_clear clear cell before
found_clear cell clear before there place each is =
    ap (λ b. if b then before else None) (sym is ∙ any_by_number cell.at clear place each)

-- one cell more is left with what it is to be left with, and the others with what they were
pub one_more_clear : (clear : List CellRef) (cells : List Cell) (old areas new : List (Option ℕ)) (i : ℕ) → i < length cells
    → get_or new i None ≡ area_clear clear (get_or cells i no_cell) (get_or old i None)
    → ((k : ℕ) → (k ≡ i → ⊥) → get_or new k None ≡ get_or areas k None)
    → ((k : ℕ) (d : Cell) → k < i → get_or areas k None ≡ area_clear clear (get_or cells k d) (get_or old k None))
    → (k : ℕ) (d : Cell) → k < i + 1 → get_or new k None ≡ area_clear clear (get_or cells k d) (get_or old k None)
one_more_clear clear cells old areas new i there here apart before k d most =
    elim (cases_lt k i) [
      | inl less ↦ apart k (λ same. absurd (omega (arith, same, less))) ∙ before k d less
      | inr more ↦
          let P : ℕ → Type 0 = λ n. get_or new n None ≡ area_clear clear (get_or cells n d) (get_or old n None) in
          let same : i ≡ k = omega (arith, most, more) in
          subst P same (here ∙ ap (λ (cell : Cell). area_clear clear cell (get_or old i None)) (get_or_default cells i no_cell d there))
    ]

-- the areas that cells are left with once those are taken too whose place is not among the clear ones, cell by cell
clear_more : (there taken : Bool) (area : ℕ)
    → (if there then (if taken then None else Some area) else None) ≡ (if (not there || taken) then None else Some area)
clear_more true taken area = refl
clear_more false taken area = refl

pub areas_left_clear : (clear : List CellRef) (taken : Cell → Bool) (shapes : List Shape) (cells : List Cell) (old new : List (Option ℕ))
    → old ≡ map (area_left taken shapes) cells → length new ≡ length old
    → ((k : ℕ) (d : Cell) → k < length cells → get_or new k None ≡ area_clear clear (get_or cells k d) (get_or old k None))
    → new ≡ map (area_left (λ (cell : Cell). not (list_any (is_same_place cell.at) clear) || taken cell) shapes) cells
areas_left_clear clear taken shapes cells old new before same each =
    let crowded = λ (cell : Cell). not (list_any (is_same_place cell.at) clear) || taken cell in
    let as_many : length old ≡ length cells = ap length before ∙ length-map cells (area_left taken shapes) in
    same_lists new (map (area_left crowded shapes) cells) (same ∙ as_many ∙ sym (length-map cells (area_left crowded shapes)))
    (λ k d there.
    let there' : k < length cells = omega arith in
    let cell : Cell = get_or cells k no_cell in
    get_or_default new k d None there ∙ each k no_cell there' ∙ ap (area_clear clear cell) (area_beside taken shapes cells old k no_cell before there')
    ∙ clear_more (list_any (is_same_place cell.at) clear) (taken cell) (area_under shapes cell)
    ∙ sym (get_or-map (area_left crowded shapes) cells k no_cell d there'))
