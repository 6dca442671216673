-- The free cells of a tile are those that shapes leave free of the whole field; and without shapes clearance changes none of them.
use Rattle.std.proofs.Common.{◌≡◌, ℕ, ◌<◌, Bool, true, false, List, [], map, filter, get_or, ap, ◌∙◌, sym, subst, refl, inl, inr, arith}
use Rattle.std.specs.Prelude.{◌&&◌, ◌||◌, ◌==◌, not, if◌then◌else◌, All, Contains}
use Rattle.std.specs.List.{list_any, range_with_len}
use Rattle.std.proofs.Math.Bool.{and-true}
use Rattle.std.proofs.lemmas.Bool.{cases_Bool, and_parts, and_from, and_right, both_ways, false_from_ne_true, eqb-true, eq-eqb, not-true}
use Rattle.std.proofs.lemmas.Simd.{map-map}
use Rattle.std.proofs.lemmas.List.Elements.{All-map, All-filter, All-contains_itself, Contains-get_or, filter_agree, filter_passes}
use Rattle.std.proofs.lemmas.List.Folds.{list_any_none}
use Rattle.std.proofs.lemmas.List.FromFn.{length-map-range_with_len, get_or-map-range_with_len}
use Rattle.nav_ground.specs.declared.setting.Setting.{Setting}
use Rattle.nav_ground.specs.declared.field.Field.{Field}
use Rattle.nav_ground.specs.declared.cell.Cell.{Cell}
use Rattle.nav_ground.specs.declared.cell.CellRef.{CellRef}
use Rattle.nav_ground.specs.declared.cell.Layer.{Layer}
use Rattle.nav_ground.specs.declared.cell.Window.{Window}
use Rattle.nav_ground.specs.declared.shape.Shape.{Shape}
use Rattle.nav_ground.specs.Limits.{IsSetting}
use Rattle.nav_ground.specs.Fields.{IsField}
use Rattle.nav_ground.specs.Cells.{IsCompact}
use Rattle.nav_ground.specs.Tiling.{tile_count, tile_window, widened, is_in_window}
use Rattle.nav_ground.specs.Grounds.{IsGround}
use Rattle.nav_ground.specs.declared.history.Ground.{Ground}
use Rattle.nav_ground.specs.Clearance.{is_kept, kept_cells, places_of, cells_in}
use Rattle.nav_ground.specs.FreeCells.{is_blocked, is_unblocked, is_crowded, is_same_place, is_taken, free_cell_of, free_layer_of}
use Rattle.nav_ground.proofs.Words.{is_free}
use Rattle.nav_ground.specs.Layers.{cells_of, layer_cell, layer_of, layers_of}
use Rattle.nav_ground.specs.WholeFree.{whole_free}
use Rattle.nav_ground.proofs.FreeLayers.{same_at_place, same_place}
use Rattle.nav_ground.proofs.LayerLaws.{cells_rules}
use Rattle.nav_ground.proofs.Locality.{free_cells_same}
use Rattle.nav_ground.proofs.Selections.{any_of, list_any-filter, list_any-map, filter-filter, filter-map, filter_all, filter_same}
use Rattle.agent_erode.proofs.WindowLaws.{deep_inside, inside_deep, kept_near}
use Rattle.obstacle_mark.specs.Near.{KeepsRadius}
use Rattle.obstacle_mark.proofs.FewerCells.{kept_among_all}

both_orders : (a b : Bool) → (a && b) ≡ (b && a)
both_orders true true = refl
both_orders true false = refl
both_orders false true = refl
both_orders false false = refl

-- two tests of a list, in either order
filter_swap : {A : Type 0} (p q : A → Bool) (xs : List A) → filter p (filter q xs) ≡ filter q (filter p xs)
filter_swap {A = A} p q xs =
    filter-filter p q xs ∙ filter_agree (λ (x : A). q x && p x) (λ (x : A). p x && q x) (λ x. both_orders (q x) (p x)) xs ∙ sym (filter-filter q p xs)

-- the test of a place tells it
place_itself : (at : CellRef) → is_same_place at at ≡ true
place_itself at = and_from _ _ (eq-eqb at.x at.x refl) (and_from _ _ (eq-eqb at.z at.z refl) (eq-eqb at.level at.level refl))

place_told : (a b : CellRef) → is_same_place a b ≡ true → a ≡ b
place_told a b h =
    let parts = and_parts (a.x == b.x) _ h in
    let rest = and_parts (a.z == b.z) (a.level == b.level) parts.1 in
    same_place a b (eqb-true a.x b.x parts.0) (eqb-true a.z b.z rest.0) (eqb-true a.level b.level rest.1)

-- the place of a cell of a field is among those of some of its cells exactly where the cell is
place_found : (cells : List Cell) (q : Cell → Bool) (cell : Cell) → IsCompact cells → Contains cells cell
    → list_any (is_same_place cell.at) (places_of (filter q cells)) ≡ q cell
place_found cells q cell compact has =
    list_any-map (is_same_place cell.at) (λ (c : Cell). c.at) (filter q cells)
    ∙ list_any-filter q (λ (c : Cell). is_same_place cell.at c.at) cells
    ∙ elim (cases_Bool (q cell)) [
      | inl passes ↦
          any_of (λ (c : Cell). q c && is_same_place cell.at c.at) cells cell has (and_from _ _ passes (place_itself cell.at)) ∙ sym passes
      | inr fails ↦
          list_any_none (λ (c : Cell). q c && is_same_place cell.at c.at) cells
          (λ k d there.
          let other : Cell = get_or cells k d in
          false_from_ne_true (q other && is_same_place cell.at other.at) (λ h.
          let parts = and_parts (q other) _ h in
          let same = same_at_place cells cell other compact.rules has (Contains-get_or cells k d there) (place_told cell.at other.at parts.1) in
          both_ways (q cell) fails (ap q same ∙ parts.0)))
          ∙ sym fails
    ]

-- the places of the free cells of a layer, by the kept cells that its cells are made from
free_layer_places : (layer : Layer) (kept cells : List Cell) (shapes : List Shape) → layer.cells ≡ map (layer_cell kept) cells
    → places_of (free_layer_of layer shapes).cells ≡ places_of (filter (is_free layer shapes) cells)
free_layer_places layer kept cells shapes made =
    map-map (λ (c : Cell). c.at) (free_cell_of (is_taken layer shapes) layer.cells shapes) (filter (is_free layer shapes) layer.cells)
    ∙ ap (λ (cs : List Cell). places_of (filter (is_free layer shapes) cs)) made
    ∙ ap places_of (filter-map (is_free layer shapes) (layer_cell kept) cells)
    ∙ map-map (λ (c : Cell). c.at) (layer_cell kept) (filter (is_free layer shapes) cells)

-- a cell that passes the last test only where it passes the first, and the test between only where it passes all
agree : (kept inside free open' left : Bool) → (inside ≡ true → free ≡ (open' && left)) → (left ≡ true → kept ≡ true)
    → ((kept && inside) && free) ≡ ((open' && left) && inside)
agree kept false free open' left within among = ap (λ b. b && free) (and_right kept false refl) ∙ sym (and_right (open' && left) false refl)
agree true true free open' left within among = within refl ∙ sym (and-true (open' && left))
agree false true free open' true within among = absurd (both_ways false refl (among refl))
agree false true free true false within among = refl
agree false true free false false within among = refl

free_from : (blocked left : Bool) → not (not (not blocked && left) || blocked) ≡ (not blocked && left)
free_from true left = refl
free_from false true = refl
free_from false false = refl

module _ (window : Window) (cells : List Cell) (compact : IsCompact cells) (shapes : List Shape) (radius : ℕ) where
  abbrev inside : Cell → Bool
  inside cell = is_in_window window cell.at.x cell.at.z

  abbrev near : Cell → Bool
  near cell = is_in_window (widened window radius) cell.at.x cell.at.z

  -- the cells that no shape blocks, of the whole field and near the rectangle
  abbrev left : List Cell
  left = filter (is_unblocked shapes) cells

  abbrev left_near : List Cell
  left_near = filter (is_unblocked shapes) (cells_in (widened window radius) cells)

  -- a cell of the rectangle keeps the radius among the near ones exactly where it does among all
  kept_left : (cell : Cell) → inside cell ≡ true → is_kept left_near radius cell ≡ is_kept left radius cell
  kept_left cell here =
      ap (λ (cs : List Cell). is_kept cs radius cell) (filter_swap (is_unblocked shapes) near cells) ∙ kept_near window left radius cell here

  abbrev is_clear : Cell → Bool
  is_clear cell = (near cell && is_unblocked shapes cell) && is_kept left_near radius cell

  clear_cells : kept_cells left_near radius ≡ filter is_clear cells
  clear_cells =
      ap (filter (is_kept left_near radius)) (filter-filter (is_unblocked shapes) near cells)
      ∙ filter-filter (is_kept left_near radius) (λ (c : Cell). near c && is_unblocked shapes c) cells

  place_clear : (cell : Cell) → Contains cells cell → inside cell ≡ true
      → list_any (is_same_place cell.at) (places_of (kept_cells left_near radius)) ≡ (is_unblocked shapes cell && is_kept left radius cell)
  place_clear cell has here =
      ap (λ (cs : List Cell). list_any (is_same_place cell.at) (places_of cs)) clear_cells
      ∙ place_found cells is_clear cell compact has
      ∙ ap (λ b. (b && is_unblocked shapes cell) && is_kept left_near radius cell)
      (deep_inside (widened window radius) radius cell.at (inside_deep window radius cell.at here))
      ∙ ap (λ b. is_unblocked shapes cell && b) (kept_left cell here)

  -- the layer of a tile where the setting says clear
  abbrev clear_layer : ℕ → Layer
  clear_layer tile = record {
    tile = tile;
    cells = map (layer_cell (kept_cells cells radius)) (cells_in window (kept_cells cells radius));
    radius = radius;
    wide = cells_in (widened window radius) cells;
  }

  -- a cell of the rectangle is free where no shape blocks it and it keeps the radius among all that none blocks
  free_here : (tile : ℕ) (cell : Cell) → Contains cells cell → inside cell ≡ true
      → is_free (clear_layer tile) shapes cell ≡ (is_unblocked shapes cell && is_kept left radius cell)
  free_here tile cell has here = by_radius (radius == 0) refl
    where
      by_radius : (none : Bool) → (radius == 0) ≡ none
          → not ((if none then false else not (list_any (is_same_place cell.at) (places_of (kept_cells left_near radius)))) || is_blocked shapes cell)
          ≡ (is_unblocked shapes cell && is_kept left radius cell)
      by_radius true is =
          sym (ap (λ (r : ℕ). is_unblocked shapes cell && is_kept left r cell) (eqb-true radius 0 is) ∙ and-true (is_unblocked shapes cell))
      by_radius false is =
          ap (λ b. not (not b || is_blocked shapes cell)) (place_clear cell has here) ∙ free_from (is_blocked shapes cell) (is_kept left radius cell)

  -- the places of the free cells of such a layer are those of its rectangle among what shapes leave free of the whole field
  clear_places_whole : (tile : ℕ)
      → places_of (free_layer_of (clear_layer tile) shapes).cells ≡ places_of (cells_in window (kept_cells left radius))
  clear_places_whole tile =
      let among_all = is_kept cells radius in
      let among_left = is_kept left radius in
      let is_left = is_free (clear_layer tile) shapes in
      free_layer_places (clear_layer tile) (kept_cells cells radius) (cells_in window (kept_cells cells radius)) shapes refl
      ∙ ap places_of
      (ap (filter is_left) (filter-filter inside among_all cells)
      ∙ filter-filter is_left (λ (c : Cell). among_all c && inside c) cells
      ∙ filter_same (λ (c : Cell). (among_all c && inside c) && is_left c) (λ (c : Cell). (is_unblocked shapes c && among_left c) && inside c) cells
      (λ k d there.
      let cell : Cell = get_or cells k d in
      let has = Contains-get_or cells k d there in
      agree (among_all cell) (inside cell) (is_left cell) (is_unblocked shapes cell) (among_left cell)
      (free_here tile cell has) (kept_among_all (is_unblocked shapes) cells compact radius cell has))
      ∙ sym (ap (filter inside) (filter-filter among_left (is_unblocked shapes) cells)
      ∙ filter-filter inside (λ (c : Cell). is_unblocked shapes c && among_left c) cells))

-- the layer of a tile, where the setting says clear or not
abbrev layer_by : Bool → Window → List Cell → ℕ → ℕ → Layer
layer_by clear window cells radius tile = record {
  tile = tile;
  cells = map (layer_cell (kept_cells cells radius)) (cells_in window (kept_cells cells radius));
  radius = if clear then radius else 0;
  wide = if clear then cells_in (widened window (if clear then radius else 0)) cells else [];
}

-- what shapes leave free of a tile is what they leave free of the whole field, cut to the tile
places_whole : (clear : Bool) (window : Window) (cells : List Cell) (shapes : List Shape) (radius tile : ℕ) → IsCompact cells
    → places_of (free_layer_of (layer_by clear window cells radius tile) shapes).cells
    ≡ places_of (cells_in window (if clear then kept_cells (filter (is_unblocked shapes) cells) radius else filter (is_unblocked shapes) (kept_cells cells radius)))
places_whole true window cells shapes radius tile compact = clear_places_whole window cells compact shapes radius tile
places_whole false window cells shapes radius tile compact =
    let kept = kept_cells cells radius in
    free_layer_places (layer_by false window cells radius tile) kept (cells_in window kept) shapes refl
    ∙ ap places_of (filter_swap (is_unblocked shapes) (λ (cell : Cell). is_in_window window cell.at.x cell.at.z) kept)

pub free_of_whole : (setting : Setting) (field : Field) (tile : ℕ) (shapes : List Shape) → IsSetting setting → IsField field
    → places_of (free_layer_of (layer_of setting field tile) shapes).cells
    ≡ places_of (cells_in (tile_window setting tile) (whole_free setting field shapes))
unfolding layer_of
free_of_whole setting field tile shapes limits rules' =
    places_whole setting.clear (tile_window setting tile) (cells_of setting field) shapes setting.agent.radius tile (cells_rules setting field limits rules')

-- without shapes no cell of a layer is taken, whatever agents keep from obstacles
none_taken : (window : Window) (cells : List Cell) (radius tile : ℕ) (compact : IsCompact cells)
    → All (λ (cell : Cell). is_taken (layer_by true window cells radius tile) [] cell ≡ false) (layer_by true window cells radius tile).cells
none_taken window cells radius tile compact =
    let layer = layer_by true window cells radius tile in
    let kept = kept_cells cells radius in
    let inside = λ (cell : Cell). is_in_window window cell.at.x cell.at.z in
    let all : filter (is_unblocked []) cells ≡ cells = filter_all (is_unblocked []) cells (λ k d there. refl) in
    All-map (λ (cell : Cell). is_taken layer [] cell ≡ false) (layer_cell kept) (cells_in window kept)
    (λ k d there.
    let cell : Cell = get_or (cells_in window kept) k d in
    let here = filter_passes inside kept k d there in
    let of_kept = All-filter inside (λ (c : Cell). Contains cells c × (is_kept cells radius c ≡ true)) kept
    (λ i e there'.
    (All-filter (is_kept cells radius) (Contains cells) cells (All-contains_itself cells) i e there', filter_passes (is_kept cells radius) cells i e there'))
    k d there in
    not-true (is_taken layer [] cell)
    (free_here window cells compact [] radius tile cell of_kept.0 here ∙ ap (λ (cs : List Cell). is_kept cs radius cell) all ∙ of_kept.1))

-- so the layers of a ground keep their radius
crowded_of_taken : (crowded blocked : Bool) → (crowded || blocked) ≡ false → crowded ≡ false
crowded_of_taken false blocked is = refl
crowded_of_taken true blocked is = absurd (both_ways false refl (sym is))

keeps_by : (clear : Bool) (window : Window) (cells : List Cell) (radius tile : ℕ) → IsCompact cells → KeepsRadius (layer_by clear window cells radius tile)
keeps_by true window cells radius tile compact = λ k d there.
    let layer = layer_by true window cells radius tile in
    let cell : Cell = get_or layer.cells k d in
    crowded_of_taken (is_crowded layer [] cell) (is_blocked [] cell) (none_taken window cells radius tile compact k d there)
keeps_by false window cells radius tile compact = λ k d there. refl

pub layer_keeps : (setting : Setting) (field : Field) (tile : ℕ) → IsSetting setting → IsField field → KeepsRadius (layer_of setting field tile)
unfolding layer_of
layer_keeps setting field tile limits rules' =
    keeps_by setting.clear (tile_window setting tile) (cells_of setting field) setting.agent.radius tile (cells_rules setting field limits rules')

layers_keep : (setting : Setting) (field : Field) (count : ℕ) → IsSetting setting → IsField field → All KeepsRadius (map (layer_of setting field) (range_with_len 0 count))
layers_keep setting field count limits rules' k d there =
    let below : k < count = omega (arith, there, length-map-range_with_len (layer_of setting field) 0 count) in
    subst KeepsRadius (sym (get_or-map-range_with_len (layer_of setting field) 0 count k k d below (omega arith))) (layer_keeps setting field k limits rules')

pub KeepsRadius-from_ground : (ground : Ground) → IsGround ground → All KeepsRadius ground.layers
unfolding layers_of
KeepsRadius-from_ground ground rules' =
    subst (All KeepsRadius) (sym rules'.layers) (layers_keep ground.setting ground.field (tile_count ground.setting) rules'.setting rules'.field)

-- so the free layer is that of a setting that does not say clear
plain_free : (clear : Bool) (window : Window) (cells : List Cell) (radius tile : ℕ) → IsCompact cells
    → free_layer_of (layer_by clear window cells radius tile) [] ≡ free_layer_of (layer_by false window cells radius tile) []
plain_free true window cells radius tile compact =
    let layer = layer_by true window cells radius tile in
    let plain = layer_by false window cells radius tile in
    ap (λ (free : List Cell). record { tile = tile; cells = free })
    (free_cells_same (is_taken layer []) (is_taken plain []) [] [] layer.cells
    (λ k d there. (none_taken window cells radius tile compact k d there, refl)))
plain_free false window cells radius tile compact = refl

-- what agents keep from obstacles changes nothing where there are none
pub free_without_shapes : (setting : Setting) (field : Field) (tile : ℕ) → IsSetting setting → IsField field
    → free_layer_of (layer_of setting field tile) [] ≡ free_layer_of (layer_of (record setting { clear = false }) field tile) []
unfolding layer_of cells_of
free_without_shapes setting field tile limits rules' =
    plain_free setting.clear (tile_window setting tile) (cells_of setting field) setting.agent.radius tile (cells_rules setting field limits rules')
