-- Locality: the free cells of a layer under shapes are those under the shapes that touch its tile, within which and near which all its cells lie.
use Rattle.std.proofs.Common.{◌≡◌, ℕ, Bool, true, false, cond, List, [], ◌∷◌, map, filter, get_or, ap, ◌∙◌, sym, refl, Option, None}
use Rattle.std.specs.Prelude.{All, not, is_none, ◌&&◌, ◌||◌, ◌==◌, if◌then◌else◌, unwrap_or}
use Rattle.std.specs.List.{list_any, filter_map, last_or, cons_option}
use Rattle.std.proofs.lemmas.Bool.{both_ways, and_parts}
use Rattle.std.proofs.lemmas.List.Elements.{All-head, All-tail}
use Rattle.nav_ground.specs.declared.setting.Setting.{Setting}
use Rattle.nav_ground.specs.declared.cell.Cell.{Cell}
use Rattle.nav_ground.specs.declared.cell.CellRef.{CellRef}
use Rattle.nav_ground.specs.declared.cell.Layer.{Layer}
use Rattle.nav_ground.specs.declared.shape.Shape.{Shape}
use Rattle.nav_ground.specs.Cells.{IsInTile, is_naming, next_level}
use Rattle.nav_ground.specs.Shapes.{area_set_by}
use Rattle.nav_ground.specs.FreeCells.{is_over, is_blocked, is_unblocked, is_same_place, clear_places, is_crowded, is_taken, area_given, area_under, free_next, free_cell_of, free_layer_of}
use Rattle.nav_ground.specs.Clearance.{kept_cells, places_of}
use Rattle.nav_ground.specs.Grounds.{IsWideWithin}
use Rattle.nav_ground.specs.Tiling.{tile_window, widened, margin_of, IsInWindow}
use Rattle.nav_ground.specs.Touching.{is_touching, touching_shapes}
use Rattle.nav_ground.proofs.ShapeLaws.{is_covering-Covers}
use Rattle.nav_ground.proofs.Selections.{filter_same}
use Rattle.nav_ground.proofs.TouchLaws.{covered_touches, inside_widened}

-- a test passes only what another keeps; a look-up gives something only there
any_kept : {X : Type 0} (p q : X → Bool) → ((x : X) → p x ≡ true → q x ≡ true) → (xs : List X) → list_any p (filter q xs) ≡ list_any p xs
any_kept p q within [] = refl
any_kept p q within (x ∷ xs) = by_tests (any_kept p q within xs) (p x) refl (q x) refl
  where
    by_tests : list_any p (filter q xs) ≡ list_any p xs → (passes : Bool) → p x ≡ passes → (kept : Bool) → q x ≡ kept
        → list_any p (cond kept (x ∷ filter q xs) (filter q xs)) ≡ (p x || list_any p xs)
    by_tests rest passes is true is_kept = ap (λ b. p x || b) rest
    by_tests rest true is false is_kept = absurd (both_ways (q x) is_kept (within x is))
    by_tests rest false is false is_kept = rest ∙ ap (λ b. b || list_any p xs) (sym is)

found_kept : {X Y : Type 0} (f : X → Option Y) (q : X → Bool) → ((x : X) → q x ≡ false → f x ≡ None) → (xs : List X)
    → filter_map f (filter q xs) ≡ filter_map f xs
found_kept f q within [] = refl
found_kept f q within (x ∷ xs) = by_test (found_kept f q within xs) (q x) refl
  where
    by_test : filter_map f (filter q xs) ≡ filter_map f xs → (kept : Bool) → q x ≡ kept → filter_map f (cond kept (x ∷ filter q xs) (filter q xs)) ≡ cons_option (f x) (filter_map f xs)
    by_test rest true is = ap (cons_option (f x)) rest
    by_test rest false is = rest ∙ ap (λ found. cons_option found (filter_map f xs)) (sym (within x is))

-- two tests, and two functions, that agree at the elements of a list
any_same : {X : Type 0} (p q : X → Bool) (xs : List X) → All (λ x. p x ≡ q x) xs → list_any p xs ≡ list_any q xs
any_same p q [] same = refl
any_same p q (x ∷ xs) same =
    ap (λ b. b || list_any p xs) (All-head (λ y. p y ≡ q y) x xs same) ∙ ap (λ b. q x || b) (any_same p q xs (All-tail (λ y. p y ≡ q y) x xs same))

kept_same : {X Y : Type 0} (f g : X → Y) (p q : X → Bool) (xs : List X) → All (λ x. (f x ≡ g x) × (p x ≡ q x)) xs
    → map f (filter p xs) ≡ map g (filter q xs)
kept_same f g p q [] same = refl
kept_same f g p q (x ∷ xs) same =
    let here = All-head (λ y. (f y ≡ g y) × (p y ≡ q y)) x xs same in
    let rest = kept_same f g p q xs (All-tail (λ y. (f y ≡ g y) × (p y ≡ q y)) x xs same) in
    by_test (q x) here.0 here.1 rest
  where
    by_test : (kept : Bool) → f x ≡ g x → p x ≡ kept → map f (filter p xs) ≡ map g (filter q xs)
        → map f (cond (p x) (x ∷ filter p xs) (filter p xs)) ≡ map g (cond kept (x ∷ filter q xs) (filter q xs))
    by_test true same' is rest = ap (λ b. map f (cond b (x ∷ filter p xs) (filter p xs))) is ∙ cc
    by_test false same' is rest = ap (λ b. map f (cond b (x ∷ filter p xs) (filter p xs))) is ∙ rest

-- two tests of what is taken, and two lists of shapes, that agree at the cells of a list leave the same free cells
pub free_cells_same : (f g : Cell → Bool) (few many : List Shape) (cells : List Cell)
    → All (λ (cell : Cell). (f cell ≡ g cell) × (area_under few cell ≡ area_under many cell)) cells
    → map (free_cell_of f cells few) (filter (λ (cell : Cell). not (f cell)) cells) ≡ map (free_cell_of g cells many) (filter (λ (cell : Cell). not (g cell)) cells)
free_cells_same f g few many cells same =
    kept_same (free_cell_of f cells few) (free_cell_of g cells many) (λ (cell : Cell). not (f cell)) (λ (cell : Cell). not (g cell)) cells
    (λ k d there. (same_cell (get_or cells k d) (same k d there).1, ap not (same k d there).0))
  where
    same_next : (cell : Cell) (dir : ℕ) → free_next f cells cell dir ≡ free_next g cells cell dir
    same_next cell dir =
        ap (λ lost. if lost then None else next_level cell dir)
        (any_same (λ (other : Cell). is_naming dir cell other.at && f other) (λ (other : Cell). is_naming dir cell other.at && g other) cells
        (λ k d there. ap (λ b. is_naming dir cell (get_or cells k d).at && b) (same k d there).0))

    same_cell : (cell : Cell) → area_under few cell ≡ area_under many cell → free_cell_of f cells few cell ≡ free_cell_of g cells many cell
    same_cell cell area = λ i. record cell {
      area = area i;
      next = same_next cell 0 i ∷ same_next cell 1 i ∷ same_next cell 2 i ∷ same_next cell 3 i ∷ [];
    }

module _ (setting : Setting) (layer : Layer) (shapes : List Shape) (rules' : IsInTile setting layer.tile layer.cells)
    (within : IsWideWithin setting layer) where
  abbrev few : List Shape
  few = touching_shapes setting layer.tile shapes

  -- a cell lies in the tile or so near it as agents keep from obstacles, as all cells of the layer and all its wide cells do
  abbrev IsNear : Cell → Type 0
  IsNear cell = IsInWindow (widened (tile_window setting layer.tile) (margin_of setting)) cell.at.x cell.at.z

  all_near : All IsNear layer.cells
  all_near k d there =
      let at = (get_or layer.cells k d).at in
      inside_widened (tile_window setting layer.tile) (margin_of setting) at.x at.z (rules'.inside k d there)

  -- so a shape that covers it touches the tile
  over_touches : (cell : Cell) → IsNear cell → (shape : Shape) → is_over cell shape ≡ true → is_touching setting layer.tile shape ≡ true
  over_touches cell near shape over =
      covered_touches setting layer.tile shape cell.at.x cell.at.z cell.floor near
      ((is_covering-Covers shape cell.at.x cell.at.z cell.floor).0 over)

  none_given : (cell : Cell) → IsNear cell → (shape : Shape) → is_touching setting layer.tile shape ≡ false → area_given cell shape ≡ None
  none_given cell near shape apart = by_test (is_over cell shape) refl
    where
      by_test : (over : Bool) → is_over cell shape ≡ over → (if over then area_set_by shape else None) ≡ None
      by_test true is = absurd (both_ways (is_touching setting layer.tile shape) apart (over_touches cell near shape is))
      by_test false is = refl

  -- and it is blocked, and given its area, by the shapes that touch the tile alone
  same_blocked : (cell : Cell) → IsNear cell → is_blocked few cell ≡ is_blocked shapes cell
  same_blocked cell near =
      any_kept (λ (shape : Shape). is_none (area_set_by shape) && is_over cell shape) (is_touching setting layer.tile)
      (λ shape stops. over_touches cell near shape (and_parts (is_none (area_set_by shape)) (is_over cell shape) stops).1) shapes

  same_area : (cell : Cell) → IsNear cell → area_under few cell ≡ area_under shapes cell
  same_area cell near =
      ap (λ areas. unwrap_or (last_or None areas) cell.area)
      (found_kept (area_given cell) (is_touching setting layer.tile) (none_given cell near) shapes)

  -- so the same wide cells are not blocked, and the same places keep the radius among them
  same_clear : clear_places layer few ≡ clear_places layer shapes
  same_clear =
      ap (λ (cells : List Cell). places_of (kept_cells cells layer.radius))
      (filter_same (is_unblocked few) (is_unblocked shapes) layer.wide
      (λ k d there. ap not (same_blocked (get_or layer.wide k d) (within k d there))))

  same_taken : (cell : Cell) → IsNear cell → is_taken layer few cell ≡ is_taken layer shapes cell
  same_taken cell near =
      ap (λ (places : List CellRef). (if layer.radius == 0 then false else not (list_any (is_same_place cell.at) places)) || is_blocked few cell) same_clear
      ∙ ap (λ b. is_crowded layer shapes cell || b) (same_blocked cell near)

  -- the free cells of a layer under shapes are those under the shapes that touch its tile
  pub free_layer_local : free_layer_of layer (touching_shapes setting layer.tile shapes) ≡ free_layer_of layer shapes
  free_layer_local =
      ap (λ (cells : List Cell). record { tile = layer.tile; cells = cells })
      (free_cells_same (is_taken layer few) (is_taken layer shapes) few shapes layer.cells
      (λ k d there.
      let cell : Cell = get_or layer.cells k d in
      let near = all_near k d there in
      (same_taken cell near, same_area cell near)))
