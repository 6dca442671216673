-- The areas that the filters leave are areas, one beside each span.
use Rattle.std.proofs.Common.{◌≡◌, ℕ, ◌+◌, ◌≤◌, Bool, true, false, List, [], ◌∷◌, length, Option, None, Some, refl, ap, arith, suc}
use Rattle.std.specs.Prelude.{All, IfSome, nat_le, ◌==◌, filter, if◌then◌else◌}
use Rattle.std.specs.List.{last_or}
use Rattle.std.specs.Option.{option_map_or}
use Rattle.std.proofs.lemmas.List.{length-map}
use Rattle.std.proofs.lemmas.List.Elements.{All-nil, All-cons, All-head, All-tail, All-map, All-filter, All-weaker}
use Rattle.nav_ground.specs.declared.setting.Agent.{Agent}
use Rattle.nav_ground.specs.declared.field.Span.{Span}
use Rattle.nav_ground.specs.declared.field.Field.{Field}
use Rattle.nav_ground.specs.Column.{stands_above, span_below}
use Rattle.nav_ground.specs.Fields.{IsField, IsSpan, AreAreas}
use Rattle.nav_ground.specs.Filters.{low_hanging_area, low_hanging_areas, areas_without, is_ledge, is_low_ceiling, ledge_areas, filtered_areas}

-- what holds of each element holds of the last
last_of_all : {A : Type 0} (P : A → Type 0) (o : Option A) (xs : List A) → IfSome o P → All P xs → IfSome (last_or o xs) P
last_of_all P o [] first each = first
last_of_all P o (x ∷ xs) first each = last_of_all P (Some x) xs (All-head P x xs each) (All-tail P x xs each)

low_area : (zero taken : Bool) (area below : ℕ) → area ≤ 63 → below ≤ 63 → (if zero then (if taken then below else 0) else area) ≤ 63
low_area true true area below small small' = small'
low_area true false area below small small' = omega arith
low_area false taken area below small small' = small

hung_area : (zero : Bool) (climb top area : ℕ) (below : Option Span) → area ≤ 63 → IfSome below (λ (s : Span). s.area ≤ 63)
    → (if zero then option_map_or (λ (s : Span). if nat_le top (s.top + climb) then s.area else 0) below 0 else area) ≤ 63
hung_area zero climb top area None small small' = low_area zero false area 0 small (omega arith)
hung_area zero climb top area (Some s) small small' = low_area zero (nat_le top (s.top + climb)) area s.area small small'

pub low_hanging_are_areas : (field : Field) (agent : Agent) → IsField field → AreAreas (low_hanging_areas field agent)
low_hanging_are_areas field agent rules' =
    let small : All (λ (s : Span). s.area ≤ 63) field.spans =
    All-weaker (IsSpan field.width field.depth) (λ (s : Span). s.area ≤ 63) (λ s is. is.area) field.spans rules'.spans in
    All-map (λ area. area ≤ 63) (low_hanging_area agent.climb field.spans) field.spans
    (All-weaker (λ (s : Span). s.area ≤ 63) (λ s. low_hanging_area agent.climb field.spans s ≤ 63)
    (λ s is. hung_area (s.area == 0) agent.climb s.top s.area (span_below field.spans s) is
    (last_of_all (λ (b : Span). b.area ≤ 63) None (filter (λ (other : Span). stands_above other s) field.spans) tt
    (All-filter (λ (other : Span). stands_above other s) (λ (b : Span). b.area ≤ 63) field.spans small)))
    field.spans small)

pub length-low_hanging_areas : (field : Field) (agent : Agent) → length (low_hanging_areas field agent) ≡ length field.spans
length-low_hanging_areas field agent = length-map field.spans (low_hanging_area agent.climb field.spans)

-- a filter leaves areas, one beside each span
left_area : (taken : Bool) (area : ℕ) → area ≤ 63 → (if taken then 0 else area) ≤ 63
left_area true area small = omega arith
left_area false area small = small

pub without_are_areas : (is_taken : Span → Bool) (spans : List Span) (areas : List ℕ) → AreAreas areas → AreAreas (areas_without is_taken spans areas)
without_are_areas is_taken [] areas each = All-nil (λ area. area ≤ 63)
without_are_areas is_taken (s ∷ spans) [] each = All-nil (λ area. area ≤ 63)
without_are_areas is_taken (s ∷ spans) (area ∷ areas) each =
    All-cons (λ a. a ≤ 63) (if is_taken s then 0 else area) (areas_without is_taken spans areas)
    (left_area (is_taken s) area (All-head (λ a. a ≤ 63) area areas each))
    (without_are_areas is_taken spans areas (All-tail (λ a. a ≤ 63) area areas each))

pub length-areas_without : (is_taken : Span → Bool) (spans : List Span) (areas : List ℕ) → length areas ≡ length spans
    → length (areas_without is_taken spans areas) ≡ length spans
length-areas_without is_taken [] areas same = refl
length-areas_without is_taken (s ∷ spans) [] same = same
length-areas_without is_taken (s ∷ spans) (area ∷ areas) same =
    let rest = length-areas_without is_taken spans areas (omega (arith, same)) in ap suc rest

pub filtered_are_areas : (field : Field) (agent : Agent) → IsField field → AreAreas (filtered_areas field agent)
filtered_are_areas field agent rules' =
    without_are_areas (is_low_ceiling field.spans agent) field.spans (ledge_areas field (low_hanging_areas field agent) agent)
    (without_are_areas (is_ledge field agent) field.spans (low_hanging_areas field agent) (low_hanging_are_areas field agent rules'))

pub length-filtered_areas : (field : Field) (agent : Agent) → length (filtered_areas field agent) ≡ length field.spans
length-filtered_areas field agent =
    length-areas_without (is_low_ceiling field.spans agent) field.spans (ledge_areas field (low_hanging_areas field agent) agent)
    (length-areas_without (is_ledge field agent) field.spans (low_hanging_areas field agent) (length-low_hanging_areas field agent))
