-- The layers of a field keep the rules of layers, and their cells lie in their tiles.
use Rattle.std.proofs.Common.{◌≡◌, ◌<◌, ℕ, Bool, true, false, length, List, [], map, get_or, ap, ◌∙◌, sym, refl, subst, Option, None, arith, zero, suc, ℤ, pos, ◌≤ℤ◌, int_le}
use Rattle.std.specs.Prelude.{All, Contains, IsTrue, ◌&&◌, ◌==◌, if◌then◌else◌}
use Rattle.std.specs.List.{filter, range_with_len}
use Rattle.std.specs.Option.{option_map_or}
use Rattle.std.proofs.lemmas.Bool.{and_parts, both_ways}
use Rattle.std.proofs.lemmas.Int.{ints}
use Rattle.std.proofs.lemmas.List.Elements.{All-nil, All-map, All-filter, All-same, All-contains, All-contains_itself, Contains-get_or, filter_passes}
use Rattle.std.proofs.lemmas.List.Folds.{list_any_at}
use Rattle.std.proofs.lemmas.List.FromFn.{length-map-range_with_len, get_or-map-range_with_len}
use Rattle.std.proofs.lemmas.List.Kept.{AllPairs-filter}
use Rattle.std.proofs.lemmas.List.Sums.{length-filter, count_by-le-length}
use Rattle.nav_ground.specs.declared.cell.Cell.{Cell}
use Rattle.nav_ground.specs.declared.cell.CellRef.{CellRef}
use Rattle.nav_ground.specs.declared.cell.Layer.{Layer}
use Rattle.nav_ground.specs.declared.cell.Window.{Window}
use Rattle.nav_ground.specs.declared.field.Field.{Field}
use Rattle.nav_ground.specs.declared.history.Ground.{Ground}
use Rattle.nav_ground.specs.declared.setting.Setting.{Setting}
use Rattle.nav_ground.specs.Fields.{IsField}
use Rattle.nav_ground.specs.Limits.{IsSetting}
use Rattle.nav_ground.specs.Cells.{IsCell, IsCells, IsCellBefore, IsCompact, IsCut, is_toward, is_naming, next_level, opposite}
use Rattle.nav_ground.specs.Tiling.{tile_count, tile_window, widened, margin_of, IsInWindow, is_in_window}
use Rattle.nav_ground.specs.Grounds.{IsLayerOf, IsWideWithin, IsGround}
use Rattle.nav_ground.specs.Clearance.{has_neighbour, is_kept, cells_in}
use Rattle.nav_ground.specs.Filters.{filtered_areas}
use Rattle.nav_ground.specs.Layers.{cells_of, kept_cells_of, kept_level, layer_cell, wide_cells, layer_among, layer_of, layers_of}
use Rattle.nav_ground.proofs.Kept.{few_kept, AllPairs-map}
use Rattle.nav_ground.proofs.CompactLaws.{compact_rules}
use Rattle.nav_ground.proofs.FilterLaws.{filtered_are_areas, length-filtered_areas}

-- the cells of a field for a setting's agent
pub cells_rules : (setting : Setting) (field : Field) → IsSetting setting → IsField field → IsCompact (cells_of setting field)
unfolding cells_of
cells_rules setting field limits rules' =
    compact_rules field (filtered_areas field setting.agent) setting.agent rules' (filtered_are_areas field setting.agent rules')
    (length-filtered_areas field setting.agent) limits.agent

-- what a cell of a layer names in a direction
pub level_of_layer : (dir : ℕ) (kept : List Cell) (cell : Cell) → dir < 4 → next_level (layer_cell kept cell) dir ≡ kept_level kept cell dir
level_of_layer zero kept cell small = refl
level_of_layer (suc zero) kept cell small = refl
level_of_layer (suc (suc zero)) kept cell small = refl
level_of_layer (suc (suc (suc zero))) kept cell small = refl
level_of_layer (suc (suc (suc (suc n)))) kept cell small = absurd (omega arith)

named_among : (toward near : Bool) (f : ℕ → Bool) (next : Option ℕ)
    → (toward && option_map_or f (if near then next else None) false) ≡ true → (toward && option_map_or f next false) ≡ true
named_among toward true f next h = h
named_among toward false f next h = absurd (both_ways false refl (and_parts toward false h).1)

-- it names nothing that the cell does not name
layer_names : (dir : ℕ) (kept : List Cell) (cell : Cell) (to : CellRef) → dir < 4 → is_naming dir (layer_cell kept cell) to ≡ true
    → is_naming dir cell to ≡ true
layer_names dir kept cell to small h =
    named_among (is_toward dir cell.at to) (has_neighbour kept cell dir) (λ level. level == to.level) (next_level cell dir)
    (ap (λ next. is_toward dir cell.at to && option_map_or (λ level. level == to.level) next false) (sym (level_of_layer dir kept cell small)) ∙ h)

-- and each kept cell that the cell names
names_kept : (dir : ℕ) (kept : List Cell) (cell other : Cell) → dir < 4 → Contains kept other → is_naming dir cell other.at ≡ true
    → is_naming dir (layer_cell kept cell) other.at ≡ true
names_kept dir kept cell other small has h =
    let near : has_neighbour kept cell dir ≡ true = list_any_at (λ (o : Cell). is_naming dir cell o.at) kept has.0 other has.1
    (ap (λ (o : Cell). is_naming dir cell o.at) has.2 ∙ h) in
    ap (λ next. is_toward dir cell.at other.at && option_map_or (λ level. level == other.at.level) next false)
    (level_of_layer dir kept cell small ∙ ap (λ b. if b then next_level cell dir else None) near)
    ∙ h

-- a cell of a layer is made from a kept cell
record IsFromKept (kept : List Cell) (cell : Cell) : Type 0 where
  origin : Cell
  has : Contains kept origin
  is : cell ≡ layer_cell kept origin

from_kept : (window : Window) (kept : List Cell) → All (IsFromKept kept) (map (layer_cell kept) (cells_in window kept))
from_kept window kept =
    All-map (IsFromKept kept) (layer_cell kept) (cells_in window kept)
    (All-filter (λ (cell : Cell). is_in_window window cell.at.x cell.at.z) (λ (cell : Cell). IsFromKept kept (layer_cell kept cell)) kept
    (λ k d there. record { origin = get_or kept k d; has = Contains-get_or kept k d there; is = refl }))

-- what is kept is there
Contains-filter : {X : Type 0} (p : X → Bool) (xs : List X) (x : X) → Contains (filter p xs) x → Contains xs x
Contains-filter p xs x has = All-contains (Contains xs) (filter p xs) x (All-filter p (Contains xs) xs (All-contains_itself xs)) has

names_back : (cells : List Cell) (p : Cell → Bool) (dir : ℕ) (a b : Cell) → IsCompact cells → dir < 4
    → IsFromKept (filter p cells) a → IsFromKept (filter p cells) b → IsTrue (is_naming dir a b.at) → IsTrue (is_naming (opposite dir) b a.at)
names_back cells p dir a b compact small from_a from_b named =
    let kept = filter p cells in
    let oa = from_a.origin in
    let ob = from_b.origin in
    let small' : opposite dir < 4 = omega arith in
    let P : Cell → Type 0 = λ (c : Cell). is_naming dir c b.at ≡ true in
    let Q : Cell → Type 0 = λ (c : Cell). is_naming dir (layer_cell kept oa) c.at ≡ true in
    let there = layer_names dir kept oa ob.at small (subst Q from_b.is (subst P from_a.is named)) in
    let back = compact.named_back dir oa ob small (Contains-filter p cells oa from_a.has) (Contains-filter p cells ob from_b.has) there in
    let R : Cell → Type 0 = λ (c : Cell). is_naming (opposite dir) c oa.at ≡ true in
    let S : Cell → Type 0 = λ (c : Cell). is_naming (opposite dir) b c.at ≡ true in
    subst S (sym from_a.is) (subst R (sym from_b.is) (names_kept (opposite dir) kept ob oa small' from_a.has back))

layer_is_cell : (kept : List Cell) (cell : Cell) → IsCell cell → IsCell (layer_cell kept cell)
layer_is_cell kept cell rules' = record {
  x = rules'.x;
  z = rules'.z;
  area = rules'.area;
  floor = rules'.floor;
  ceiling = rules'.ceiling;
  sides = refl;
}

-- the kept cells of a rectangle of columns, with their connections to kept cells, are a cut
pub kept_cut : (window : Window) (cells : List Cell) (p : Cell → Bool) → IsCompact cells
    → IsCut (map (layer_cell (filter p cells)) (cells_in window (filter p cells)))
kept_cut window cells p compact =
    let kept = filter p cells in
    let is_inside = λ (cell : Cell). is_in_window window cell.at.x cell.at.z in
    let from = from_kept window kept in
    record {
      rules = record {
        few = omega (arith, few_kept (layer_cell kept) is_inside kept, length-filter p cells, count_by-le-length p cells, compact.rules.few);
        order = AllPairs-map (λ (a b : Cell). IsCellBefore a.at b.at) (layer_cell kept) (cells_in window kept)
            (AllPairs-filter (λ (a b : Cell). IsCellBefore a.at b.at) is_inside kept
            (AllPairs-filter (λ (a b : Cell). IsCellBefore a.at b.at) p cells compact.rules.order));
        each = All-map IsCell (layer_cell kept) (cells_in window kept)
            (λ k d there. layer_is_cell kept _ (All-filter is_inside IsCell kept (All-filter p IsCell cells compact.rules.each) k d there));
      };
      named_back = λ dir a b small has_a has_b. names_back cells p dir a b compact small
          (All-contains (IsFromKept kept) (map (layer_cell kept) (cells_in window kept)) a from has_a)
          (All-contains (IsFromKept kept) (map (layer_cell kept) (cells_in window kept)) b from has_b);
    }

no_more : (a b : ℤ) → int_le a b ≡ true → a ≤ℤ b
no_more a b h = grind (arith, ints)

-- a column that passes the test lies in the rectangle
pub inside_from : (window : Window) (x z : ℕ) → is_in_window window x z ≡ true → IsInWindow window x z
inside_from window x z h =
    let along = int_le window.x0 (pos x) && int_le (pos x) window.x1 in
    let across = int_le window.z0 (pos z) && int_le (pos z) window.z1 in
    let parts = and_parts along across h in
    let xs = and_parts (int_le window.x0 (pos x)) (int_le (pos x) window.x1) parts.0 in
    let zs = and_parts (int_le window.z0 (pos z)) (int_le (pos z) window.z1) parts.1 in
    record {
      x_least = no_more window.x0 (pos x) xs.0;
      x_most = no_more (pos x) window.x1 xs.1;
      z_least = no_more window.z0 (pos z) zs.0;
      z_most = no_more (pos z) window.z1 zs.1;
    }

none_are_cells : IsCells []
none_are_cells = record { few = omega arith; order = λ i j d before there. absurd (omega arith); each = All-nil IsCell }

-- the cells of a rectangle keep the rules of cells, and so do the wide cells of a tile
pub cells_in_rules : (window : Window) (cells : List Cell) → IsCells cells → IsCells (cells_in window cells)
cells_in_rules window cells rules' =
    let inside = λ (cell : Cell). is_in_window window cell.at.x cell.at.z in
    record {
      few = omega (arith, length-filter inside cells, count_by-le-length inside cells, rules'.few);
      order = AllPairs-filter (λ (a b : Cell). IsCellBefore a.at b.at) inside cells rules'.order;
      each = All-filter inside IsCell cells rules'.each;
    }

wide_rules : (setting : Setting) (cells : List Cell) (tile : ℕ) → IsCells cells → IsCells (wide_cells setting cells tile)
wide_rules setting cells tile rules' = by_clear setting.clear
  where
    by_clear : (clear : Bool) → IsCells (if clear then cells_in (widened (tile_window setting tile) (margin_of setting)) cells else [])
    by_clear true = cells_in_rules (widened (tile_window setting tile) (margin_of setting)) cells rules'
    by_clear false = none_are_cells

-- and they lie in the tile or as near it as is said
pub wide_within : (setting : Setting) (cells kept : List Cell) (tile : ℕ) → IsWideWithin setting (layer_among setting cells kept tile)
wide_within setting cells kept tile = by_clear (widened (tile_window setting tile) (margin_of setting)) setting.clear
  where
    by_clear : (near : Window) (clear : Bool)
        → All (λ (cell : Cell). IsInWindow near cell.at.x cell.at.z) (if clear then cells_in near cells else [])
    by_clear near true = λ k d there. inside_from near _ _ (filter_passes (λ (cell : Cell). is_in_window near cell.at.x cell.at.z) cells k d there)
    by_clear near false = All-nil (λ (cell : Cell). IsInWindow near cell.at.x cell.at.z)

pub layer_among_rules : (setting : Setting) (cells : List Cell) (p : Cell → Bool) (tile : ℕ) → IsCompact cells → tile < tile_count setting
    → IsLayerOf setting (layer_among setting cells (filter p cells) tile)
layer_among_rules setting cells p tile compact there =
    let kept = filter p cells in
    let window = tile_window setting tile in
    record {
      rules = record { cells = kept_cut window cells p compact; wide = wide_rules setting cells tile compact.rules };
      inside = record {
        there = there;
        inside = All-map (λ (cell : Cell). IsInWindow window cell.at.x cell.at.z) (layer_cell kept) (cells_in window kept)
            (λ k d below. inside_from window _ _ (filter_passes (λ (cell : Cell). is_in_window window cell.at.x cell.at.z) kept k d below));
      };
    }

pub layer_rules : (setting : Setting) (field : Field) (tile : ℕ) → IsSetting setting → IsField field → tile < tile_count setting
    → IsLayerOf setting (layer_of setting field tile)
unfolding layer_of
layer_rules setting field tile limits rules' there =
    layer_among_rules setting (cells_of setting field) (is_kept (cells_of setting field) setting.agent.radius) tile
    (cells_rules setting field limits rules') there

-- what holds of the layer of each tile
each_layer : (P : Layer → Type 0) (f : ℕ → Layer) (count : ℕ) → ((tile : ℕ) → tile < count → P (f tile)) → All P (map f (range_with_len 0 count))
each_layer P f count each k d there =
    let below : k < count = omega (arith, there, length-map-range_with_len f 0 count) in
    subst P (sym (get_or-map-range_with_len f 0 count k k d below (omega arith))) (each k below)

pub layers_rules : (setting : Setting) (field : Field) → IsSetting setting → IsField field → All (IsLayerOf setting) (layers_of setting field)
unfolding layers_of
layers_rules setting field limits rules' =
    each_layer (IsLayerOf setting) (layer_of setting field) (tile_count setting) (λ tile there. layer_rules setting field tile limits rules' there)

pub layers_within : (setting : Setting) (field : Field) → All (IsWideWithin setting) (layers_of setting field)
unfolding layers_of layer_of
layers_within setting field =
    each_layer (IsWideWithin setting) (layer_of setting field) (tile_count setting)
    (λ tile there. wide_within setting (cells_of setting field) (kept_cells_of setting field) tile)

-- the layers of a ground keep the rules of layers
pub IsLayerOf-from_ground : (ground : Ground) → IsGround ground → All (IsLayerOf ground.setting) ground.layers
IsLayerOf-from_ground ground rules' =
    All-same (IsLayerOf ground.setting) ground.layers (layers_of ground.setting ground.field) rules'.layers
    (layers_rules ground.setting ground.field rules'.setting rules'.field)

pub IsWideWithin-from_ground : (ground : Ground) → IsGround ground → All (IsWideWithin ground.setting) ground.layers
IsWideWithin-from_ground ground rules' =
    All-same (IsWideWithin ground.setting) ground.layers (layers_of ground.setting ground.field) rules'.layers
    (layers_within ground.setting ground.field)

-- there is one layer a tile, in order of tiles
pub length-layers_of_ground : (ground : Ground) → IsGround ground → length ground.layers ≡ tile_count ground.setting
unfolding layers_of
length-layers_of_ground ground rules' =
    ap length rules'.layers ∙ length-map-range_with_len (layer_of ground.setting ground.field) 0 (tile_count ground.setting)

pub layer_of_ground : (ground : Ground) (tile : ℕ) (d : Layer) → IsGround ground → tile < tile_count ground.setting
    → get_or ground.layers tile d ≡ layer_of ground.setting ground.field tile
unfolding layers_of
layer_of_ground ground tile d rules' there =
    ap (λ (layers : List Layer). get_or layers tile d) rules'.layers
    ∙ get_or-map-range_with_len (layer_of ground.setting ground.field) 0 (tile_count ground.setting) tile tile d there (omega arith)

-- the cells of a layer pass the test of its tile's columns
pub layer_inside : (setting : Setting) (field : Field) (tile : ℕ)
    → All (λ (cell : Cell). is_in_window (tile_window setting tile) cell.at.x cell.at.z ≡ true) (layer_of setting field tile).cells
unfolding layer_of
layer_inside setting field tile =
    let kept = kept_cells_of setting field in
    All-map (λ (cell : Cell). is_in_window (tile_window setting tile) cell.at.x cell.at.z ≡ true) (layer_cell kept) (cells_in (tile_window setting tile) kept)
    (filter_passes (λ (cell : Cell). is_in_window (tile_window setting tile) cell.at.x cell.at.z) kept)
