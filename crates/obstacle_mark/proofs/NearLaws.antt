-- Which cells keep a radius depends on the cells near them alone, so shapes change nothing further away from what they block.
use Rattle.std.proofs.Common.{◌≡◌, ℕ, ◌+◌, ◌<◌, ◌⊎◌, Bool, true, false, List, [], ◌∷◌, ◌++◌, length, map, filter, get_or, ap, ◌∙◌, sym, subst, refl, Option, Some, None, pos, arith, inl, inr}
use Rattle.std.specs.Prelude.{All, ℤ, ◌≤ℤ◌, ◌*◌, ◌&&◌, ◌||◌, ◌==◌, not, if◌then◌else◌, int_le, is_none}
use Rattle.std.specs.List.{list_any}
use Rattle.std.proofs.lemmas.Bool.{cases_lt, and_parts, and_from, or_cases, both_ways, false_from_ne_true, not-false, eqb-true}
use Rattle.std.proofs.lemmas.Int.{ints}
use Rattle.std.proofs.lemmas.List.{same_lists, length-map, get_or-map, get_or_default}
use Rattle.std.proofs.lemmas.List.Elements.{All-head, All-tail, filter_agree}
use Rattle.std.proofs.lemmas.List.Folds.{list_any-append}
use Rattle.nav_ground.specs.declared.cell.Cell.{Cell}
use Rattle.nav_ground.specs.declared.cell.CellRef.{CellRef}
use Rattle.nav_ground.specs.declared.cell.Layer.{Layer}
use Rattle.nav_ground.specs.declared.cell.Window.{Window}
use Rattle.nav_ground.specs.declared.shape.Shape.{Shape}
use Rattle.nav_ground.specs.Shapes.{Covers, area_set_by}
use Rattle.nav_ground.specs.Clearance.{is_kept, kept_cells, places_of, cells_in}
use Rattle.nav_ground.specs.FreeCells.{is_over, is_blocked, is_unblocked, is_crowded, is_same_place, clear_places, is_taken, area_under}
use Rattle.nav_ground.specs.Tiling.{IsInWindow, is_in_window, widened}
use Rattle.nav_ground.proofs.FreeLayers.{same_place}
use Rattle.nav_ground.proofs.LayerLaws.{inside_from}
use Rattle.nav_ground.proofs.Selections.{filter-filter, list_any-filter, list_any-map}
use Rattle.nav_ground.proofs.ShapeLaws.{is_covering-Covers}
use Rattle.agent_erode.proofs.WindowLaws.{kept_near}
use Rattle.obstacle_mark.specs.AreasLeft.{area_left}
use Rattle.obstacle_mark.specs.Near.{KeepsRadius, HoldsBlocked, area_near}
use Rattle.obstacle_mark.proofs.Blocked.{area_beside, no_cell}
use Rattle.obstacle_mark.specs.Places.{is_there}
use Rattle.cell_table.specs.Columns.{IsPlace, column_of}
use Rattle.obstacle_mark.proofs.ClearPlaces.{any_by_number}
use Rattle.obstacle_mark.proofs.Columns.{list_any_same}

-- the rectangle of a place's column alone
abbrev pub column_window : CellRef → Window
column_window at = record { x0 = pos at.x; x1 = pos at.x; z0 = pos at.z; z1 = pos at.z }

le_test : (a b : ℤ) → a ≤ℤ b → int_le a b ≡ true
le_test a b h = grind (arith, ints)

-- a column that lies in a rectangle passes its test
window_test : (window : Window) (x z : ℕ) → IsInWindow window x z → is_in_window window x z ≡ true
window_test window x z inside =
    and_from _ _ (and_from _ _ (le_test window.x0 (pos x) inside.x_least) (le_test (pos x) window.x1 inside.x_most))
    (and_from _ _ (le_test window.z0 (pos z) inside.z_least) (le_test (pos z) window.z1 inside.z_most))

in_own_column : (at : CellRef) → is_in_window (column_window at) at.x at.z ≡ true
in_own_column at = window_test (column_window at) at.x at.z (record {
  x_least = omega (arith, ints);
  x_most = omega (arith, ints);
  z_least = omega (arith, ints);
  z_most = omega (arith, ints);
})

own_near : (radius : ℕ) (at : CellRef) → is_in_window (widened (column_window at) radius) at.x at.z ≡ true
own_near radius at = window_test (widened (column_window at) radius) at.x at.z (record {
  x_least = omega (arith, ints);
  x_most = omega (arith, ints);
  z_least = omega (arith, ints);
  z_most = omega (arith, ints);
})

-- a column is as far from a rectangle as one beside which it lies, and as much further
near_rectangle : (window : Window) (radius : ℕ) (a b : CellRef) → IsInWindow window b.x b.z → is_in_window (widened (column_window a) radius) b.x b.z ≡ true
    → is_in_window (widened window radius) a.x a.z ≡ true
near_rectangle window radius a b inside beside =
    let within = inside_from (widened (column_window a) radius) b.x b.z beside in
    window_test (widened window radius) a.x a.z (record {
      x_least = omega (arith, ints, inside.x_least, within.x_most);
      x_most = omega (arith, ints, inside.x_most, within.x_least);
      z_least = omega (arith, ints, inside.z_least, within.z_most);
      z_most = omega (arith, ints, inside.z_most, within.z_least);
    })

near_twice : (window : Window) (radius : ℕ) (a b : CellRef) → is_in_window (widened window radius) a.x a.z ≡ true
    → is_in_window (widened (column_window a) radius) b.x b.z ≡ true → is_in_window (widened window (2 * radius)) b.x b.z ≡ true
near_twice window radius a b near beside =
    let inside = inside_from (widened window radius) a.x a.z near in
    let within = inside_from (widened (column_window a) radius) b.x b.z beside in
    window_test (widened window (2 * radius)) b.x b.z (record {
      x_least = omega (arith, ints, inside.x_least, within.x_least);
      x_most = omega (arith, ints, inside.x_most, within.x_most);
      z_least = omega (arith, ints, inside.z_least, within.z_least);
      z_most = omega (arith, ints, inside.z_most, within.z_most);
    })

-- a cell keeps a radius among the cells of two lists alike that have the same cells so near it
kept_alike : (one other : List Cell) (radius : ℕ) (cell : Cell)
    → cells_in (widened (column_window cell.at) radius) one ≡ cells_in (widened (column_window cell.at) radius) other
    → is_kept one radius cell ≡ is_kept other radius cell
kept_alike one other radius cell same =
    sym (kept_near (column_window cell.at) one radius cell (in_own_column cell.at))
    ∙ ap (λ (cells : List Cell). is_kept cells radius cell) same
    ∙ kept_near (column_window cell.at) other radius cell (in_own_column cell.at)

where_alike : (a b inside : Bool) → (inside ≡ true → a ≡ b) → (a && inside) ≡ (b && inside)
where_alike a b true same = ap (λ x. x && true) (same refl)
where_alike true true false same = refl
where_alike true false false same = refl
where_alike false true false same = refl
where_alike false false false same = refl

-- two tests that agree in a rectangle select the same cells of it
same_inside : (p q : Cell → Bool) (window : Window) (cells : List Cell)
    → ((cell : Cell) → is_in_window window cell.at.x cell.at.z ≡ true → p cell ≡ q cell) → cells_in window (filter p cells) ≡ cells_in window (filter q cells)
same_inside p q window cells same =
    let inside = λ (cell : Cell). is_in_window window cell.at.x cell.at.z in
    filter-filter inside p cells
    ∙ filter_agree (λ (cell : Cell). p cell && inside cell) (λ (cell : Cell). q cell && inside cell)
    (λ cell. where_alike (p cell) (q cell) (inside cell) (same cell)) cells
    ∙ sym (filter-filter inside q cells)

-- a place is among those of the kept cells of a selection
found_kept : (p : Cell → Bool) (cells : List Cell) (radius : ℕ) (at : CellRef)
    → list_any (is_same_place at) (places_of (kept_cells (filter p cells) radius))
    ≡ list_any (λ (cell : Cell). (p cell && is_kept (filter p cells) radius cell) && is_same_place at cell.at) cells
found_kept p cells radius at =
    list_any-map (is_same_place at) (λ (cell : Cell). cell.at) (kept_cells (filter p cells) radius)
    ∙ ap (list_any (λ (cell : Cell). is_same_place at cell.at)) (filter-filter (is_kept (filter p cells) radius) p cells)
    ∙ list_any-filter (λ (cell : Cell). p cell && is_kept (filter p cells) radius cell) (λ (cell : Cell). is_same_place at cell.at) cells

-- two selections that agree near a place have it among their kept cells alike
found_alike : (p q : Cell → Bool) (cells : List Cell) (radius : ℕ) (at : CellRef)
    → ((cell other : Cell) → is_same_place at cell.at ≡ true → is_in_window (widened (column_window cell.at) radius) other.at.x other.at.z ≡ true → p other ≡ q other)
    → ((cell : Cell) → is_same_place at cell.at ≡ true → p cell ≡ q cell)
    → list_any (is_same_place at) (places_of (kept_cells (filter p cells) radius)) ≡ list_any (is_same_place at) (places_of (kept_cells (filter q cells) radius))
found_alike p q cells radius at near here =
    found_kept p cells radius at
    ∙ list_any_same (λ (cell : Cell). (p cell && is_kept (filter p cells) radius cell) && is_same_place at cell.at)
    (λ (cell : Cell). (q cell && is_kept (filter q cells) radius cell) && is_same_place at cell.at) cells
    (λ k d there.
    let cell : Cell = get_or cells k d in
    where_alike (p cell && is_kept (filter p cells) radius cell) (q cell && is_kept (filter q cells) radius cell) (is_same_place at cell.at)
    (λ same.
    ap (λ b. b && is_kept (filter p cells) radius cell) (here cell same)
    ∙ ap (λ b. q cell && b)
    (kept_alike (filter p cells) (filter q cells) radius cell
    (same_inside p q (widened (column_window cell.at) radius) cells (λ other. near cell other same)))))
    ∙ sym (found_kept q cells radius at)

-- further from a rectangle that holds what is blocked than the radius, nothing near is blocked
clear_beyond : (shapes : List Shape) (hull : Option Window) (window : Window) (radius : ℕ) (at : CellRef) (other : Cell) → hull ≡ Some window
    → HoldsBlocked shapes hull → is_in_window (widened window radius) at.x at.z ≡ false
    → is_in_window (widened (column_window at) radius) other.at.x other.at.z ≡ true → is_unblocked shapes other ≡ true
clear_beyond shapes hull window radius at other is holds away beside =
    let P : Option Window → Type 0 = λ (w : Option Window). HoldsBlocked shapes w in
    let held = subst P is holds in
    ap not (false_from_ne_true (is_blocked shapes other) (λ blocked.
    both_ways (is_in_window (widened window radius) at.x at.z) away (near_rectangle window radius at other.at (held other blocked) beside)))

place_same : (at : CellRef) (cell : Cell) (q : CellRef → Bool) (b : Bool) → at ≡ cell.at → q at ≡ b → q cell.at ≡ b
place_same at cell q b same h = ap q (sym same) ∙ h

told : (a b : CellRef) → is_same_place a b ≡ true → a ≡ b
told a b h =
    let parts = and_parts (a.x == b.x) _ h in
    let rest = and_parts (a.z == b.z) (a.level == b.level) parts.1 in
    same_place a b (eqb-true a.x b.x parts.0) (eqb-true a.z b.z rest.0) (eqb-true a.level b.level rest.1)

-- no wide cell is left out where no shape stands
abbrev all_open : Cell → Bool
all_open cell = is_unblocked [] cell

-- so a place that far has the clear places of a layer without shapes
found_beyond : (shapes : List Shape) (hull : Option Window) (window : Window) (cells : List Cell) (radius : ℕ) (at : CellRef) → hull ≡ Some window
    → HoldsBlocked shapes hull → is_in_window (widened window radius) at.x at.z ≡ false
    → list_any (is_same_place at) (places_of (kept_cells (filter (is_unblocked shapes) cells) radius))
    ≡ list_any (is_same_place at) (places_of (kept_cells (filter all_open cells) radius))
found_beyond shapes hull window cells radius at is holds away =
    let far = λ (cell : Cell) (same : is_same_place at cell.at ≡ true).
    place_same at cell (λ a. is_in_window (widened window radius) a.x a.z) false (told at cell.at same) away in
    found_alike (is_unblocked shapes) all_open cells radius at
    (λ cell other same beside. clear_beyond shapes hull window radius cell.at other is holds (far cell same) beside)
    (λ cell same. clear_beyond shapes hull window radius cell.at cell is holds (far cell same) (own_near radius cell.at))

-- and a place that is nearer is among the clear ones alike, where the wide cells further than twice the radius are left out
found_near : (shapes : List Shape) (window : Window) (cells : List Cell) (radius : ℕ) (at : CellRef)
    → is_in_window (widened window radius) at.x at.z ≡ true
    → list_any (is_same_place at) (places_of (kept_cells (filter (is_unblocked shapes) (cells_in (widened window (2 * radius)) cells)) radius))
    ≡ list_any (is_same_place at) (places_of (kept_cells (filter (is_unblocked shapes) cells) radius))
found_near shapes window cells radius at near =
    let wide = λ (cell : Cell). is_in_window (widened window (2 * radius)) cell.at.x cell.at.z in
    let close = λ (cell : Cell) (same : is_same_place at cell.at ≡ true).
    place_same at cell (λ a. is_in_window (widened window radius) a.x a.z) true (told at cell.at same) near in
    ap (λ (xs : List Cell). list_any (is_same_place at) (places_of (kept_cells xs radius))) (filter-filter (is_unblocked shapes) wide cells)
    ∙ found_alike (λ (cell : Cell). wide cell && is_unblocked shapes cell) (is_unblocked shapes) cells radius at
    (λ cell other same beside. ap (λ b. b && is_unblocked shapes other) (near_twice window radius cell.at other.at (close cell same) beside))
    (λ cell same. ap (λ b. b && is_unblocked shapes cell) (near_twice window radius cell.at cell.at (close cell same) (own_near radius cell.at)))

-- the area of one cell: taken where it is near and not clear, and where it is blocked
one_area : (near found whole blocked : Bool) (area : ℕ) → (near ≡ true → found ≡ whole) → (near ≡ false → whole ≡ true)
    → (if (near && not found) then None else (if blocked then None else Some area)) ≡ (if (not whole || blocked) then None else Some area)
one_area true found true blocked area same stays = ap (λ b. if not b then None else (if blocked then None else Some area)) (same refl)
one_area true found false blocked area same stays = ap (λ b. if not b then None else (if blocked then None else Some area)) (same refl)
one_area false found true blocked area same stays = refl
one_area false found false blocked area same stays = absurd (both_ways false refl (stays refl))

-- in a layer whose cells keep its radius each place is clear without shapes
clear_without : (layer : Layer) (cell : Cell) → (layer.radius == 0) ≡ false → is_crowded layer [] cell ≡ false
    → list_any (is_same_place cell.at) (clear_places layer []) ≡ true
clear_without layer cell some keeps =
    not-false _ (ap (λ b. if b then false else not (list_any (is_same_place cell.at) (clear_places layer []))) (sym some) ∙ keeps)

-- the clear places near a rectangle
abbrev pub clear_near : Layer → List Shape → Window → List CellRef
clear_near layer shapes window =
    places_of (kept_cells (filter (is_unblocked shapes) (cells_in (widened window (2 * layer.radius)) layer.wide)) layer.radius)

-- what is not taken of the layer is what is near and not clear there, and what is blocked
area_settled : (layer : Layer) (shapes : List Shape) (hull : Option Window) (window : Window) (cell : Cell) → (layer.radius == 0) ≡ false
    → hull ≡ Some window → HoldsBlocked shapes hull → is_crowded layer [] cell ≡ false
    → area_near window layer.radius (clear_near layer shapes window) cell (area_left (is_blocked shapes) shapes cell) ≡ area_left (is_taken layer shapes) shapes cell
area_settled layer shapes hull window cell some is holds keeps =
    let whole = list_any (is_same_place cell.at) (clear_places layer shapes) in
    one_area (is_in_window (widened window layer.radius) cell.at.x cell.at.z) (list_any (is_same_place cell.at) (clear_near layer shapes window)) whole
    (is_blocked shapes cell) (area_under shapes cell)
    (found_near shapes window layer.wide layer.radius cell.at)
    (λ away. found_beyond shapes hull window layer.wide layer.radius cell.at is holds away ∙ clear_without layer cell some keeps)
    ∙ ap (λ b. if ((if b then false else not whole) || is_blocked shapes cell) then None else Some (area_under shapes cell)) (sym some)

pub areas_settled : (layer : Layer) (shapes : List Shape) (hull : Option Window) (window : Window) (old new : List (Option ℕ)) → (layer.radius == 0) ≡ false
    → hull ≡ Some window → HoldsBlocked shapes hull → KeepsRadius layer
    → old ≡ map (area_left (is_blocked shapes) shapes) layer.cells → length new ≡ length old
    → ((k : ℕ) (d : Cell) → k < length layer.cells
    → get_or new k None ≡ area_near window layer.radius (clear_near layer shapes window) (get_or layer.cells k d) (get_or old k None))
    → new ≡ map (area_left (is_taken layer shapes) shapes) layer.cells
areas_settled layer shapes hull window old new some is holds keeps before same each =
    let cells = layer.cells in
    let clear = clear_near layer shapes window in
    let as_many : length old ≡ length cells = ap length before ∙ length-map cells (area_left (is_blocked shapes) shapes) in
    same_lists new (map (area_left (is_taken layer shapes) shapes) cells) (same ∙ as_many ∙ sym (length-map cells (area_left (is_taken layer shapes) shapes)))
    (λ k d there.
    let there' : k < length cells = omega arith in
    let cell : Cell = get_or cells k no_cell in
    get_or_default new k d None there ∙ each k no_cell there'
    ∙ ap (area_near window layer.radius clear cell) (area_beside (is_blocked shapes) shapes cells old k no_cell before there')
    ∙ area_settled layer shapes hull window cell some is holds (keeps k no_cell there')
    ∙ sym (get_or-map (area_left (is_taken layer shapes) shapes) cells k no_cell d there'))

map_agree : {A B : Type 0} (f g : A → B) (xs : List A) → All (λ x. f x ≡ g x) xs → map f xs ≡ map g xs
map_agree f g [] each = refl
map_agree f g (x ∷ xs) each =
    λ i. All-head (λ y. f y ≡ g y) x xs each i ∷ map_agree f g xs (All-tail (λ y. f y ≡ g y) x xs each) i

pub areas_written : (layer : Layer) (shapes : List Shape) (hull : Option Window) (window : Window) (cells : List Cell) (clear : List CellRef) (old new : List (Option ℕ))
    → cells ≡ layer.cells → clear ≡ clear_near layer shapes window → (layer.radius == 0) ≡ false → hull ≡ Some window → HoldsBlocked shapes hull → KeepsRadius layer
    → old ≡ map (area_left (is_blocked shapes) shapes) cells → length new ≡ length old
    → ((k : ℕ) (d : Cell) → k < length cells → get_or new k None ≡ area_near window layer.radius clear (get_or cells k d) (get_or old k None))
    → new ≡ map (area_left (is_taken layer shapes) shapes) layer.cells
areas_written layer shapes hull window cells clear old new same_cells same_clear some is holds keeps before as_long each =
    areas_settled layer shapes hull window old new some is holds keeps (before ∙ ap (map (area_left (is_blocked shapes) shapes)) same_cells) as_long
    (subst (λ (xs : List Cell). (k : ℕ) (d : Cell) → k < length xs
    → get_or new k None ≡ area_near window layer.radius (clear_near layer shapes window) (get_or xs k d) (get_or old k None)) same_cells
    (subst (λ (places : List CellRef). (k : ℕ) (d : Cell) → k < length cells
    → get_or new k None ≡ area_near window layer.radius places (get_or cells k d) (get_or old k None)) same_clear each))

-- a place that is tested by its column and level
pub left_near : (window : Window) (radius : ℕ) (clear : List CellRef) (cell : Cell) (at : CellRef) (before : Option ℕ) (crowded : Bool) → at ≡ cell.at
    → IsPlace cell.at → All IsPlace clear
    → crowded ≡ (is_in_window (widened window radius) at.x at.z && not (is_there (column_of at) at.level clear))
    → (if crowded then None else before) ≡ area_near window radius clear cell before
left_near window radius clear cell at before crowded read place each is =
    ap (λ b. if b then None else before)
    (is
    ∙ ap (λ (a : CellRef). is_in_window (widened window radius) a.x a.z && not (is_there (column_of a) a.level clear)) read
    ∙ ap (λ b. is_in_window (widened window radius) cell.at.x cell.at.z && not b) (any_by_number cell.at clear place each))

-- one cell more is left with what it is to be left with, and the others with what they were
pub one_more_near : (window : Window) (radius : ℕ) (clear : List CellRef) (cells : List Cell) (old areas new : List (Option ℕ)) (i : ℕ) → i < length cells
    → get_or new i None ≡ area_near window radius clear (get_or cells i no_cell) (get_or old i None)
    → ((k : ℕ) → (k ≡ i → ⊥) → get_or new k None ≡ get_or areas k None)
    → ((k : ℕ) (d : Cell) → k < i → get_or areas k None ≡ area_near window radius clear (get_or cells k d) (get_or old k None))
    → (k : ℕ) (d : Cell) → k < i + 1 → get_or new k None ≡ area_near window radius clear (get_or cells k d) (get_or old k None)
one_more_near window radius clear cells old areas new i there here apart before k d most =
    elim (cases_lt k i) [
      | inl less ↦ apart k (λ same. absurd (omega (arith, same, less))) ∙ before k d less
      | inr more ↦
          let P : ℕ → Type 0 = λ n. get_or new n None ≡ area_near window radius clear (get_or cells n d) (get_or old n None) in
          let same : i ≡ k = omega (arith, most, more) in
          subst P same (here ∙ ap (λ (cell : Cell). area_near window radius clear cell (get_or old i None)) (get_or_default cells i no_cell d there))
    ]

-- where shapes block nothing, nothing is taken
none_blocked : (layer : Layer) (shapes : List Shape) (hull : Option Window) (cell : Cell) → (layer.radius == 0) ≡ false → hull ≡ None → HoldsBlocked shapes hull
    → is_crowded layer [] cell ≡ false → area_left (is_blocked shapes) shapes cell ≡ area_left (is_taken layer shapes) shapes cell
none_blocked layer shapes hull cell some is holds keeps =
    let P : Option Window → Type 0 = λ (w : Option Window). HoldsBlocked shapes w in
    let free = subst P is holds in
    let place = cell.at in
    let same : list_any (is_same_place place) (clear_places layer shapes) ≡ true =
    found_alike (is_unblocked shapes) all_open layer.wide layer.radius place
    (λ c other same beside. ap not (free other)) (λ c same. ap not (free c))
    ∙ clear_without layer cell some keeps in
    ap (λ b. if ((if b then false else false) || is_blocked shapes cell) then None else Some (area_under shapes cell)) (sym some)
    ∙ ap (λ b. if ((if layer.radius == 0 then false else not b) || is_blocked shapes cell) then None else Some (area_under shapes cell)) (sym same)

pub areas_unblocked : (layer : Layer) (shapes : List Shape) (hull : Option Window) → (layer.radius == 0) ≡ false → hull ≡ None → HoldsBlocked shapes hull
    → KeepsRadius layer → map (area_left (is_blocked shapes) shapes) layer.cells ≡ map (area_left (is_taken layer shapes) shapes) layer.cells
areas_unblocked layer shapes hull some is holds keeps =
    map_agree (area_left (is_blocked shapes) shapes) (area_left (is_taken layer shapes) shapes) layer.cells
    (λ k d there. none_blocked layer shapes hull (get_or layer.cells k d) some is holds (keeps k d there))

-- one more shape: what it and those before it block
blocked_more : (shapes : List Shape) (shape : Shape) (cell : Cell)
    → is_blocked (shapes ++ shape ∷ []) cell ≡ (is_blocked shapes cell || (is_none (area_set_by shape) && is_over cell shape || false))
blocked_more shapes shape cell = list_any-append (λ (s : Shape). is_none (area_set_by s) && is_over cell s) shapes (shape ∷ [])

or_none : (a : Bool) → (a || false) ≡ a
or_none true = refl
or_none false = refl

-- a shape that sets an area blocks nothing
pub holds_same : (shapes : List Shape) (shape : Shape) (hull : Option Window) → is_none (area_set_by shape) ≡ false → HoldsBlocked shapes hull
    → HoldsBlocked (shapes ++ shape ∷ []) hull
holds_same shapes shape None sets holds = λ cell.
    blocked_more shapes shape cell ∙ ap (λ b. is_blocked shapes cell || (b && is_over cell shape || false)) sets ∙ or_none (is_blocked shapes cell) ∙ holds cell
holds_same shapes shape (Some window) sets holds = λ cell blocked.
    holds cell (sym (blocked_more shapes shape cell ∙ ap (λ b. is_blocked shapes cell || (b && is_over cell shape || false)) sets ∙ or_none (is_blocked shapes cell)) ∙ blocked)

-- any other blocks what it covers
covered_or : (shapes : List Shape) (shape : Shape) (cell : Cell) → is_blocked (shapes ++ shape ∷ []) cell ≡ true
    → (is_blocked shapes cell ≡ true) ⊎ Covers shape cell.at.x cell.at.z cell.floor
covered_or shapes shape cell blocked =
    elim (or_cases (is_blocked shapes cell) _ (sym (blocked_more shapes shape cell) ∙ blocked)) [
      | inl before ↦ inl before
      | inr more ↦ elim (or_cases (is_none (area_set_by shape) && is_over cell shape) false more) [
        | inl here ↦ inr ((is_covering-Covers shape cell.at.x cell.at.z cell.floor).0 (and_parts (is_none (area_set_by shape)) (is_over cell shape) here).1)
        | inr none ↦ absurd (both_ways false refl none)
      ]
    ]

pub holds_first : (shapes : List Shape) (shape : Shape) (window : Window) → HoldsBlocked shapes None
    → ((x z floor : ℕ) → Covers shape x z floor → IsInWindow window x z) → HoldsBlocked (shapes ++ shape ∷ []) (Some window)
holds_first shapes shape window none covered = λ cell blocked.
    elim (covered_or shapes shape cell blocked) [
      | inl before ↦ absurd (both_ways (is_blocked shapes cell) (none cell) before)
      | inr over ↦ covered cell.at.x cell.at.z cell.floor over
    ]

pub holds_both : (shapes : List Shape) (shape : Shape) (before bounds window : Window) → HoldsBlocked shapes (Some before)
    → ((x z floor : ℕ) → Covers shape x z floor → IsInWindow bounds x z)
    → ((x z : ℕ) → IsInWindow before x z ⊎ IsInWindow bounds x z → IsInWindow window x z) → HoldsBlocked (shapes ++ shape ∷ []) (Some window)
holds_both shapes shape before bounds window holds covered both = λ cell blocked.
    elim (covered_or shapes shape cell blocked) [
      | inl was ↦ both cell.at.x cell.at.z (inl (holds cell was))
      | inr over ↦ both cell.at.x cell.at.z (inr (covered cell.at.x cell.at.z cell.floor over))
    ]
