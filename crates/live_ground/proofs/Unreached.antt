-- The layers out of reach of a rectangle are the same for two fields that differ in its columns alone.
use Rattle.std.proofs.Common.{◌≡◌, ℕ, ◌<◌, false, List, get_or, Some, map, ap, ◌∙◌, sym, refl, subst, arith}
use Rattle.std.specs.Prelude.{slice_get}
use Rattle.std.specs.Option.{option_map}
use Rattle.std.specs.List.{range_with_len}
use Rattle.std.proofs.lemmas.Option.{slice_get-map, slice_get-get_or, get_or_from_slice_get}
use Rattle.std.proofs.lemmas.List.FromFn.{length-range_with_len, get_or-range_with_len}
use Rattle.nav_ground.specs.declared.setting.Setting.{Setting}
use Rattle.nav_ground.specs.declared.cell.Layer.{Layer}
use Rattle.nav_ground.specs.declared.cell.Window.{Window}
use Rattle.nav_ground.specs.declared.field.Span.{Span}
use Rattle.nav_ground.specs.declared.field.Field.{Field}
use Rattle.nav_ground.specs.declared.history.Ground.{Ground}
use Rattle.nav_ground.specs.Fields.{IsField}
use Rattle.nav_ground.specs.Grounds.{IsGround, IsSized}
use Rattle.nav_ground.specs.Limits.{IsSetting}
use Rattle.nav_ground.specs.Layers.{layer_of, layers_of}
use Rattle.nav_ground.specs.Tiling.{tile_count, tile_window, widened}
use Rattle.nav_ground.specs.Touching.{are_meeting}
use Rattle.nav_ground.proofs.Meeting.{meeting_widened}
use Rattle.layer_cut.specs.Nearby.{spans_in, field_in}
use Rattle.layer_cut.proofs.NearbyLayer.{layer_nearby}
use Rattle.live_ground.specs.Changes.{AreSameOutside, is_in_reach, reach_of}
use Rattle.live_ground.proofs.Windows.{spans_apart}

abbrev field_with : ℕ → ℕ → List Span → Field
field_with width depth spans = record { width = width; depth = depth; spans = spans }

same_fields : (w d w' d' : ℕ) (spans spans' : List Span) → w ≡ w' → d ≡ d' → spans ≡ spans' → field_with w d spans ≡ field_with w' d' spans'
same_fields w d w' d' spans spans' same_w same_d same = λ i. record { width = same_w i; depth = same_d i; spans = same i }

-- what both have over a rectangle that does not meet it
parts_same : (window near : Window) (before after : Field) → AreSameOutside window before after → are_meeting window near ≡ false
    → field_in near after ≡ field_in near before
parts_same window near before after same apart =
    same_fields after.width after.depth before.width before.depth (spans_in near after.spans) (spans_in near before.spans) same.width same.depth
    (spans_apart window near after.spans apart ∙ ap (spans_in near) same.spans ∙ sym (spans_apart window near before.spans apart))

pub layer_unreached : (setting : Setting) (window : Window) (before after : Field) (tile : ℕ) → IsSetting setting → IsField before
    → IsField after → AreSameOutside window before after → is_in_reach setting window tile ≡ false → layer_of setting after tile ≡ layer_of setting before tile
layer_unreached setting window before after tile limits rules' rules_after same away =
    let near = widened (tile_window setting tile) (reach_of setting) in
    let apart : are_meeting window near ≡ false = sym (meeting_widened window (tile_window setting tile) (reach_of setting)) ∙ away in
    sym (layer_nearby setting after tile limits rules_after)
    ∙ ap (λ (field : Field). layer_of setting field tile) (parts_same window near before after same apart)
    ∙ layer_nearby setting before tile limits rules'

-- the layer of a tile among all
pub layer_at : (setting : Setting) (field : Field) (tile : ℕ) → tile < tile_count setting → slice_get (layers_of setting field) tile ≡ Some (layer_of setting field tile)
unfolding layers_of
layer_at setting field tile there =
    let tiles = range_with_len 0 (tile_count setting) in
    let is : get_or tiles tile 0 ≡ tile = omega (arith, get_or-range_with_len 0 (tile_count setting) tile 0 there) in
    slice_get-map (layer_of setting field) tiles tile
    ∙ ap (option_map (layer_of setting field)) (slice_get-get_or tiles tile 0 (omega (arith, there, length-range_with_len 0 (tile_count setting))) ∙ ap Some is)

-- and where it stays
pub slot_unreached : (setting : Setting) (window : Window) (before after : Field) (old new : List Layer) (tile : ℕ)
    → IsSetting setting → IsField before → IsField after → AreSameOutside window before after → old ≡ layers_of setting before → new ≡ layers_of setting after
    → tile < tile_count setting → is_in_reach setting window tile ≡ false → slice_get new tile ≡ slice_get old tile
slot_unreached setting window before after old new tile limits rules' rules_after same was is there away =
    ap (λ (layers : List Layer). slice_get layers tile) is
    ∙ layer_at setting after tile there
    ∙ ap Some (layer_unreached setting window before after tile limits rules' rules_after same away)
    ∙ sym (layer_at setting before tile there)
    ∙ sym (ap (λ (layers : List Layer). slice_get layers tile) was)

-- the layer that an old ground has there
pub kept_layer : (setting : Setting) (window : Window) (before after : Field) (layers : List Layer) (tile : ℕ) (layer : Layer)
    → IsSetting setting → IsField before → IsField after → AreSameOutside window before after → layers ≡ layers_of setting before → tile < tile_count setting
    → is_in_reach setting window tile ≡ false → layer ≡ get_or layers tile layer → layer ≡ layer_of setting after tile
kept_layer setting window before after layers tile layer limits rules' rules_after same was there away is =
    is
    ∙ get_or_from_slice_get layers tile (layer_of setting before tile) layer (ap (λ (list : List Layer). slice_get list tile) was ∙ layer_at setting before tile there)
    ∙ sym (layer_unreached setting window before after tile limits rules' rules_after same away)

-- the ground of the layers of all tiles
pub layers_made : (setting : Setting) (field : Field) (layers : List Layer) (count : ℕ) → layers ≡ map (layer_of setting field) (range_with_len 0 count)
    → count ≡ tile_count setting → layers ≡ layers_of setting field
unfolding layers_of
layers_made setting field layers count is all = is ∙ ap (λ n. map (layer_of setting field) (range_with_len 0 n)) all

pub ground_made : (setting : Setting) (field : Field) (ground : Ground) (before : Field) (window : Window) → IsSetting setting
    → IsSized setting before → IsField field → AreSameOutside window before field
    → ground ≡ record { setting = setting; field = field; layers = layers_of setting field } → IsGround ground
ground_made setting field ground before window limits sized rules' same is =
    let P : Ground → Type 0 = IsGround in
    subst P (sym is) (record {
      setting = limits;
      field = rules';
      sized = record { width = same.width ∙ sized.width; depth = same.depth ∙ sized.depth };
      layers = refl;
    })
