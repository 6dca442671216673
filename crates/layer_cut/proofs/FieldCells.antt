-- The cells of a field lie in its columns, and they are all its walkable spans.
use Rattle.std.proofs.Common.{◌≡◌, ℕ, ◌<◌, List, [], ◌∷◌, map, refl, subst, sym, ap, ◌∙◌}
use Rattle.std.specs.List.{All, zip, range_with_len}
use Rattle.std.specs.Prelude.{not, ◌==◌}
use Rattle.std.proofs.lemmas.List.Elements.{All-nil, All-cons, All-head, All-tail, All-map, All-filter, All-weaker, All-same}
use Rattle.nav_ground.specs.declared.cell.Cell.{Cell}
use Rattle.nav_ground.specs.declared.field.Span.{Span}
use Rattle.nav_ground.specs.declared.field.Field.{Field}
use Rattle.nav_ground.specs.declared.setting.Setting.{Setting}
use Rattle.nav_ground.specs.Connection.{walkable_spans, unconnected_cell, unconnected_cells, connected_cell, compact_cells}
use Rattle.nav_ground.specs.Fields.{IsField, IsSpan}
use Rattle.nav_ground.specs.Filters.{filtered_areas}
use Rattle.nav_ground.specs.Grounds.{IsSized, IsLayerOf, IsWideWithin}
use Rattle.nav_ground.specs.Clearance.{kept_cells}
use Rattle.nav_ground.specs.Layers.{cells_of, kept_cells_of, layer_among, layer_of, layers_of}
use Rattle.nav_ground.specs.Limits.{IsSetting}
use Rattle.nav_ground.specs.Tiling.{tile_count}
use Rattle.nav_ground.specs.declared.cell.Layer.{Layer}
use Rattle.nav_ground.proofs.LayerLaws.{layer_rules, layers_rules, wide_within}
use Rattle.layer_cut.specs.Tiles.{IsInField, AreInField}

-- what holds of each element of the first of two lists holds of the first of each pair
All-zip : {X Y : Type 0} (P : X → Type 0) (xs : List X) (ys : List Y) → All P xs → All (λ (pair : X × Y). P pair.0) (zip xs ys)
All-zip P [] ys each = All-nil (λ pair. P pair.0)
All-zip P (x ∷ xs) [] each = All-nil (λ pair. P pair.0)
All-zip P (x ∷ xs) (y ∷ ys) each =
    All-cons (λ pair. P pair.0) (x, y) (zip xs ys) (All-head P x xs each) (All-zip P xs ys (All-tail P x xs each))

-- a span lies in the field
abbrev IsOver : Setting → Span → Type 0
IsOver setting span = IsInField setting span.x span.z

walkable_over : (setting : Setting) (spans : List Span) (areas : List ℕ) → All (IsOver setting) spans → All (IsOver setting) (walkable_spans spans areas)
walkable_over setting spans areas each =
    All-filter (λ (span : Span). not (span.area == 0)) (IsOver setting)
    (map (λ (beside : Span × ℕ). record beside.0 { area = beside.1 }) (zip spans areas))
    (All-map (IsOver setting) (λ (beside : Span × ℕ). record beside.0 { area = beside.1 }) (zip spans areas) (All-zip (IsOver setting) spans areas each))

spans_over : (setting : Setting) (field : Field) → IsField field → IsSized setting field → All (IsOver setting) field.spans
spans_over setting field rules' sized =
    All-weaker (IsSpan field.width field.depth) (IsOver setting)
    (λ span is. record { width = subst (λ n. span.x < n) sized.width is.x; depth = subst (λ n. span.z < n) sized.depth is.z }) field.spans rules'.spans

-- the cells of a field lie in it
pub cells_in_field : (setting : Setting) (field : Field) → IsField field → IsSized setting field → AreInField setting (cells_of setting field)
unfolding cells_of compact_cells
cells_in_field setting field rules' sized =
    let areas = filtered_areas field setting.agent in
    let unconnected = unconnected_cells field areas in
    let walkable = walkable_spans field.spans areas in
    All-map (λ (cell : Cell). IsInField setting cell.at.x cell.at.z) (connected_cell setting.agent unconnected) unconnected
    (All-map (λ (cell : Cell). IsInField setting cell.at.x cell.at.z) (unconnected_cell field.spans walkable) walkable
    (walkable_over setting field.spans areas (spans_over setting field rules' sized)))

-- the cells over the filtered areas are the cells of the field
pub cells_are : (setting : Setting) (field : Field) (areas : List ℕ) (cells : List Cell) → areas ≡ filtered_areas field setting.agent
    → cells ≡ compact_cells field areas setting.agent → cells ≡ cells_of setting field
unfolding cells_of
cells_are setting field areas cells filtered made = rw (made, filtered) refl

pub cells_in_field_of : (setting : Setting) (field : Field) (cells : List Cell) → IsField field → IsSized setting field → cells ≡ cells_of setting field
    → AreInField setting cells
cells_in_field_of setting field cells rules' sized same =
    All-same (λ (cell : Cell). IsInField setting cell.at.x cell.at.z) cells (cells_of setting field) same (cells_in_field setting field rules' sized)

-- the layers among the kept cells of a field are its layers
pub layer_is : (setting : Setting) (field : Field) (cells : List Cell) (tile : ℕ) (layer : Layer) → cells ≡ cells_of setting field
    → layer ≡ layer_among setting cells (kept_cells cells setting.agent.radius) tile → layer ≡ layer_of setting field tile
unfolding layer_of
layer_is setting field cells tile layer same made =
    made ∙ ap (λ (cs : List Cell). layer_among setting cs (kept_cells cs setting.agent.radius) tile) same

pub layers_are : (setting : Setting) (field : Field) (cells : List Cell) (layers : List Layer) → cells ≡ cells_of setting field
    → layers ≡ map (layer_among setting cells (kept_cells cells setting.agent.radius)) (range_with_len 0 (tile_count setting)) → layers ≡ layers_of setting field
unfolding layer_of layers_of
layers_are setting field cells layers same made =
    made ∙ ap (λ (cs : List Cell). map (layer_among setting cs (kept_cells cs setting.agent.radius)) (range_with_len 0 (tile_count setting))) same

-- so it keeps the rules of layers
pub layer_rules_of : (setting : Setting) (field : Field) (tile : ℕ) (layer : Layer) → IsSetting setting → IsField field → tile < tile_count setting
    → layer ≡ layer_of setting field tile → IsLayerOf setting layer
layer_rules_of setting field tile layer limits rules' there is = subst (IsLayerOf setting) (sym is) (layer_rules setting field tile limits rules' there)

pub layers_rules_of : (setting : Setting) (field : Field) (layers : List Layer) → IsSetting setting → IsField field → layers ≡ layers_of setting field
    → All (IsLayerOf setting) layers
layers_rules_of setting field layers limits rules' same =
    All-same (IsLayerOf setting) layers (layers_of setting field) same (layers_rules setting field limits rules')

-- no wide cell of a field's layer is too far from its tile
pub layer_within : (setting : Setting) (field : Field) (tile : ℕ) → IsWideWithin setting (layer_of setting field tile)
unfolding layer_of
layer_within setting field tile = wide_within setting (cells_of setting field) (kept_cells_of setting field) tile
