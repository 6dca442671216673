-- The cells over a rectangle before they are connected, from the spans over it and over the next columns alone.
use Rattle.std.proofs.Common.{◌≡◌, ℕ, Bool, true, false, List, [], ◌∷◌, map, filter, refl, sym, ap, ◌∙◌, inl, inr, None, get_or}
use Rattle.std.specs.Prelude.{◌&&◌, ◌==◌, not, if◌then◌else◌}
use Rattle.std.specs.List.{zip, count_by}
use Rattle.std.proofs.lemmas.Bool.{cases_Bool, and_parts, and_from, both_ways, and_right}
use Rattle.std.proofs.lemmas.List.Elements.{filter_passes, All-weaker}
use Rattle.nav_ground.specs.declared.setting.Agent.{Agent}
use Rattle.nav_ground.specs.declared.field.Span.{Span}
use Rattle.nav_ground.specs.declared.field.Field.{Field}
use Rattle.nav_ground.specs.declared.cell.Cell.{Cell}
use Rattle.nav_ground.specs.declared.cell.Window.{Window}
use Rattle.nav_ground.specs.Limits.{IsAgent}
use Rattle.nav_ground.specs.Fields.{IsField, IsSpan}
use Rattle.nav_ground.specs.Tiling.{is_in_window, widened}
use Rattle.nav_ground.specs.Column.{stands_above, ceiling_of}
use Rattle.nav_ground.specs.Filters.{areas_without, filtered_areas, is_ledge, is_low_ceiling, low_hanging_area}
use Rattle.nav_ground.specs.Connection.{walkable_spans, unconnected_cell, unconnected_cells}
use Rattle.nav_ground.specs.Clearance.{cells_in}
use Rattle.nav_ground.proofs.Selections.{filter-filter, filter-map}
use Rattle.nav_ground.proofs.Walkable.{IsAbove-from_test}
use Rattle.layer_cut.specs.Nearby.{spans_in, field_in}
use Rattle.layer_cut.proofs.Restricted.{map_agree, map_kept_agree, count-restricted}
use Rattle.layer_cut.proofs.NearbySpans.{filtered_area, inside_same, ceiling_nearby, area_nearby, area_at_edge, widened_inside}

-- the filters, span by span
without_each : (p : Span → Bool) (f : Span → ℕ) (spans : List Span) → areas_without p spans (map f spans) ≡ map (λ s. if p s then 0 else f s) spans
without_each p f [] = refl
without_each p f (s ∷ spans) = ap (λ (areas : List ℕ). (if p s then 0 else f s) ∷ areas) (without_each p f spans)

filtered_each : (field : Field) (agent : Agent) → filtered_areas field agent ≡ map (filtered_area field agent) field.spans
filtered_each field agent =
    ap (areas_without (is_low_ceiling field.spans agent) field.spans)
    (without_each (is_ledge field agent) (low_hanging_area agent.climb field.spans) field.spans)
    ∙ without_each (is_low_ceiling field.spans agent) (λ s. if is_ledge field agent s then 0 else low_hanging_area agent.climb field.spans s) field.spans

-- a span with its area after the filters
abbrev with_area : (Span → ℕ) → Span → Span
with_area f span = record span { area = f span }

abbrev is_walkable : Span → Bool
is_walkable span = not (span.area == 0)

beside_each : (f : Span → ℕ) (spans : List Span)
    → map (λ (beside : Span × ℕ). record beside.0 { area = beside.1 }) (zip spans (map f spans)) ≡ map (with_area f) spans
beside_each f [] = refl
beside_each f (s ∷ spans) = ap (λ (l : List Span). with_area f s ∷ l) (beside_each f spans)

walkable_each : (field : Field) (agent : Agent)
    → walkable_spans field.spans (filtered_areas field agent)
    ≡ map (with_area (filtered_area field agent)) (filter (λ s. is_walkable (with_area (filtered_area field agent) s)) field.spans)
walkable_each field agent =
    ap (walkable_spans field.spans) (filtered_each field agent)
    ∙ ap (filter is_walkable) (beside_each (filtered_area field agent) field.spans)
    ∙ filter-map is_walkable (with_area (filtered_area field agent)) field.spans

-- the walkable spans near a rectangle are those over the rectangle
module _ (window : Window) (field : Field) (agent : Agent) (limits : IsAgent agent) (rules' : IsField field) where
  span_nearby : (s : Span) → IsSpan field.width field.depth s
      → ((is_in_window (widened window 1) s.x s.z && is_walkable (with_area (filtered_area (field_in (widened window 1) field) agent) s))
      ≡ (is_walkable (with_area (filtered_area field agent) s) && is_in_window window s.x s.z))
      × ((is_walkable (with_area (filtered_area field agent) s) && is_in_window window s.x s.z) ≡ true
      → with_area (filtered_area (field_in (widened window 1) field) agent) s ≡ with_area (filtered_area field agent) s)
  span_nearby s is =
      elim (cases_Bool (is_in_window window s.x s.z)) [
        | inl inside ↦
            let same = area_nearby window field agent s inside in (
              both_in (is_in_window (widened window 1) s.x s.z) (is_in_window window s.x s.z) _ _ (widened_inside window s.x s.z inside) inside
                  (ap (λ n. not (n == 0)) same),
              λ h. ap (λ n. record s { area = n }) same,
            )
        | inr outside ↦ (
          one_in (is_in_window (widened window 1) s.x s.z) (is_in_window window s.x s.z) _ _ outside
              (ap (λ n. not (n == 0)) (area_at_edge window field agent s limits is.top outside)),
          λ h. absurd (both_ways (is_in_window window s.x s.z) outside (and_parts (is_walkable (with_area (filtered_area field agent) s)) _ h).1),
        )
      ]
    where
      both_in : (wide near a b : Bool) → wide ≡ true → near ≡ true → a ≡ b → (wide && a) ≡ (b && near)
      both_in wide near true true e f g = and_from wide true e refl ∙ sym f
      both_in wide near true false e f g = absurd (both_ways true g refl)
      both_in wide near false true e f g = absurd (both_ways false refl g)
      both_in wide near false false e f g = and_right wide false refl

      one_in : (wide near a b : Bool) → near ≡ false → a ≡ false → (wide && a) ≡ (b && near)
      one_in wide near a b e f = ap (λ t. wide && t) f ∙ and_right wide false refl ∙ sym (and_right b near e)

  pub walkable_nearby : walkable_spans (spans_in (widened window 1) field.spans) (filtered_areas (field_in (widened window 1) field) agent)
      ≡ spans_in window (walkable_spans field.spans (filtered_areas field agent))
  walkable_nearby =
      let near = filtered_area (field_in (widened window 1) field) agent in
      let all = filtered_area field agent in
      let wide = λ (s : Span). is_in_window (widened window 1) s.x s.z in
      let inside = λ (s : Span). is_in_window window s.x s.z in
      walkable_each (field_in (widened window 1) field) agent
      ∙ ap (map (with_area near)) (filter-filter (λ s. is_walkable (with_area near s)) wide field.spans)
      ∙ map_kept_agree (with_area near) (with_area all) (λ s. wide s && is_walkable (with_area near s)) (λ s. is_walkable (with_area all s) && inside s)
      field.spans (λ k d there. span_nearby (get_or field.spans k d) (rules'.spans k d there))
      ∙ ap (map (with_area all)) (sym (filter-filter inside (λ s. is_walkable (with_area all s)) field.spans))
      ∙ sym (filter-map inside (with_area all) (filter (λ s. is_walkable (with_area all s)) field.spans))
      ∙ ap (filter inside) (sym (walkable_each field agent))

-- the cell on a span, by its level and ceiling
abbrev cell_on : Span → ℕ → ℕ → Cell
cell_on span level ceiling = record {
  at = record { x = span.x; z = span.z; level = level };
  floor = span.top;
  ceiling = ceiling;
  area = span.area;
  next = None ∷ None ∷ None ∷ None ∷ [];
}

-- columns are whole: so a cell has its level and its ceiling from a part of the spans too
cell_nearby : (window wide : Window) (spans walkable : List Span) (span : Span) → is_in_window window span.x span.z ≡ true
    → is_in_window wide span.x span.z ≡ true
    → unconnected_cell (spans_in wide spans) (spans_in window walkable) span ≡ unconnected_cell spans walkable span
cell_nearby window wide spans walkable span inside near =
    ap (λ n. cell_on span n (ceiling_of (spans_in wide spans) span))
    (count-restricted (λ (other : Span). is_in_window window other.x other.z) (λ (other : Span). stands_above other span)
    (λ other h. let is = IsAbove-from_test other span h in inside_same window other.x other.z span.x span.z (sym is.x) (sym is.z) ∙ inside) walkable)
    ∙ ap (λ n. cell_on span (count_by (λ (other : Span). stands_above other span) walkable) n) (ceiling_nearby wide spans span near)

pub unconnected_nearby : (window : Window) (field : Field) (agent : Agent) → IsAgent agent → IsField field
    → unconnected_cells (field_in (widened window 1) field) (filtered_areas (field_in (widened window 1) field) agent)
    ≡ cells_in window (unconnected_cells field (filtered_areas field agent))
unconnected_nearby window field agent limits rules' =
    let wide = widened window 1 in
    let walkable = walkable_spans field.spans (filtered_areas field agent) in
    let inside = λ (s : Span). is_in_window window s.x s.z in
    ap (λ (l : List Span). map (unconnected_cell (spans_in wide field.spans) l) l) (walkable_nearby window field agent limits rules')
    ∙ map_agree (unconnected_cell (spans_in wide field.spans) (spans_in window walkable)) (unconnected_cell field.spans walkable) (spans_in window walkable)
    (All-weaker (λ s. inside s ≡ true)
    (λ s. unconnected_cell (spans_in wide field.spans) (spans_in window walkable) s ≡ unconnected_cell field.spans walkable s)
    (λ s h. cell_nearby window wide field.spans walkable s h (widened_inside window s.x s.z h))
    (spans_in window walkable) (filter_passes inside walkable))
    ∙ sym (filter-map (λ (cell : Cell). is_in_window window cell.at.x cell.at.z) (unconnected_cell field.spans walkable) walkable)
