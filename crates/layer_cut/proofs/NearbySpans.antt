-- The areas of the spans over a rectangle, in a field that has the spans over the next columns too and no others.
use Rattle.std.proofs.Common.{◌≡◌, ℕ, zero, suc, ◌+◌, ◌<◌, ◌≤◌, Bool, true, false, List, [], ◌++◌, refl, sym, ap, ◌∙◌, subst, arith, inl, inr, Option, None, get_or}
use Rattle.std.specs.Prelude.{◌&&◌, ◌||◌, ◌==◌, if◌then◌else◌, nat_le, nat_lt, min, max, ℤ, pos, ◌-ℤ◌, ◌+ℤ◌, int_le, filter}
use Rattle.std.specs.List.{list_any, last_or}
use Rattle.std.specs.Option.{option_map_or}
use Rattle.std.proofs.lemmas.Bool.{cases_Bool, and_parts, and_from, false_from_ne_true, both_ways, le-leb, ltb-false}
use Rattle.std.proofs.lemmas.Int.{ints}
use Rattle.std.proofs.lemmas.List.Folds.{list_any-append}
use Rattle.nav_ground.specs.declared.setting.Agent.{Agent}
use Rattle.nav_ground.specs.declared.field.Span.{Span}
use Rattle.nav_ground.specs.declared.field.Field.{Field}
use Rattle.nav_ground.specs.declared.cell.CellRef.{CellRef}
use Rattle.nav_ground.specs.declared.cell.Window.{Window}
use Rattle.nav_ground.specs.Limits.{IsAgent}
use Rattle.nav_ground.specs.Cells.{is_toward}
use Rattle.nav_ground.specs.Tiling.{is_in_window, widened}
use Rattle.nav_ground.specs.Column.{Gap, gaps_of, stands_above, ceiling_of, foot_of, column_toward}
use Rattle.nav_ground.specs.Filters.{low_hanging_area, is_open, gaps_beside, open_gaps, is_at_edge, is_drop, near_floors, is_steep, is_ledge, is_low_ceiling}
use Rattle.nav_ground.proofs.Directions.{both_equal}
use Rattle.nav_ground.proofs.Selections.{filter-filter, filter_none}
use Rattle.nav_ground.proofs.Walkable.{IsAbove-from_test}
use Rattle.agent_erode.proofs.WindowLaws.{toward_beside, beside_back, deep_beside, deep_inside, inside_deep}
use Rattle.layer_cut.specs.Nearby.{spans_in, field_in}
use Rattle.layer_cut.proofs.Restricted.{find-restricted, filter-restricted, any-restricted}

-- the area that the three filters leave to a span
abbrev pub filtered_area : Field → Agent → Span → ℕ
filtered_area field agent span =
    if is_low_ceiling field.spans agent span then 0
    else (if is_ledge field agent span then 0 else low_hanging_area agent.climb field.spans span)

-- columns of the same numbers lie in the same rectangles
pub inside_same : (window : Window) (x z x' z' : ℕ) → x ≡ x' → z ≡ z' → is_in_window window x z ≡ is_in_window window x' z'
inside_same window x z x' z' along across =
    ap (λ n. is_in_window window n z) along ∙ ap (λ n. is_in_window window x' n) across

-- a rectangle has what stands in the column of one of its spans
module _ (window : Window) (spans : List Span) (span : Span) (inside : is_in_window window span.x span.z ≡ true) where
  pub ceiling_nearby : ceiling_of (spans_in window spans) span ≡ ceiling_of spans span
  ceiling_nearby =
      ap (λ (o : Option Span). option_map_or (λ (above : Span). above.bottom) o 65535)
      (find-restricted (λ (other : Span). is_in_window window other.x other.z) (stands_above span)
      (λ other h. let is = IsAbove-from_test span other h in inside_same window other.x other.z span.x span.z is.x is.z ∙ inside) spans)

  hung_nearby : (climb : ℕ) → low_hanging_area climb (spans_in window spans) span ≡ low_hanging_area climb spans span
  hung_nearby climb =
      ap (λ (below : List Span). if span.area == 0
      then option_map_or (λ (s : Span). if nat_le span.top (s.top + climb) then s.area else 0) (last_or None below) 0 else span.area)
      (filter-restricted (λ (other : Span). is_in_window window other.x other.z) (λ (other : Span). stands_above other span)
      (λ other h. let is = IsAbove-from_test other span h in inside_same window other.x other.z span.x span.z (sym is.x) (sym is.z) ∙ inside) spans)

-- and in the next columns, where it was widened by one
column_nearby : (dir : ℕ) (window : Window) (spans : List Span) (span : Span) → dir < 4 → is_in_window window span.x span.z ≡ true
    → column_toward dir (spans_in (widened window 1) spans) span ≡ column_toward dir spans span
column_nearby dir window spans span small inside =
    filter-restricted (λ (other : Span). is_in_window (widened window 1) other.x other.z) (λ (other : Span). is_toward dir (foot_of span) (foot_of other))
    (λ other h. deep_inside (widened window 1) 0 (foot_of other)
    (deep_beside (widened window 1) 0 (foot_of other) (foot_of span)
    (beside_back (foot_of span) (foot_of other) (toward_beside dir (foot_of span) (foot_of other) small h))
    (inside_deep window 1 (foot_of span) inside))) spans

-- the gaps that are open to a span, by its ceiling and the columns beside it
abbrev gaps_open : ℕ → ℕ → ℕ → List Span → List Span → List Span → List Span → List Gap
gaps_open height top ceiling c0 c1 c2 c3 =
    filter (λ (gap : Gap). nat_le (option_map_or (λ floor. max top floor) gap.floor top + height) (min ceiling gap.ceiling))
    (gaps_of c0 ++ gaps_of c1 ++ gaps_of c2 ++ gaps_of c3)

-- whether the span is a ledge
abbrev ledge_of : Bool → Agent → ℕ → ℕ → List Span → List Span → List Span → List Span → Bool
ledge_of edge agent top ceiling c0 c1 c2 c3 =
    edge
    || list_any (is_drop agent.climb top) (gaps_open agent.height top ceiling c0 c1 c2 c3)
    || is_steep agent.climb (near_floors agent.climb top (gaps_open agent.height top ceiling c0 c1 c2 c3))

ledge_by : (edge : Bool) (agent : Agent) (top c c' : ℕ) (a0 a1 a2 a3 b0 b1 b2 b3 : List Span) → c ≡ c' → a0 ≡ b0 → a1 ≡ b1 → a2 ≡ b2 → a3 ≡ b3
    → ledge_of edge agent top c a0 a1 a2 a3 ≡ ledge_of edge agent top c' b0 b1 b2 b3
ledge_by edge agent top c c' a0 a1 a2 a3 b0 b1 b2 b3 e e0 e1 e2 e3 =
    ap (λ n. ledge_of edge agent top n a0 a1 a2 a3) e
    ∙ ap (λ l. ledge_of edge agent top c' l a1 a2 a3) e0
    ∙ ap (λ l. ledge_of edge agent top c' b0 l a2 a3) e1
    ∙ ap (λ l. ledge_of edge agent top c' b0 b1 l a3) e2
    ∙ ap (λ l. ledge_of edge agent top c' b0 b1 b2 l) e3

-- a widened rectangle has the columns of the rectangle
pub widened_inside : (window : Window) (x z : ℕ) → is_in_window window x z ≡ true → is_in_window (widened window 1) x z ≡ true
widened_inside window x z inside =
    deep_inside (widened window 1) 1 (record { x = x; z = z; level = 0 }) (inside_deep window 1 (record { x = x; z = z; level = 0 }) inside)

ledge_nearby : (window : Window) (field : Field) (agent : Agent) (span : Span) → is_in_window window span.x span.z ≡ true
    → is_ledge (field_in (widened window 1) field) agent span ≡ is_ledge field agent span
unfolding is_ledge
ledge_nearby window field agent span inside =
    ledge_by (is_at_edge field span) agent span.top
    (ceiling_of (spans_in (widened window 1) field.spans) span) (ceiling_of field.spans span)
    (column_toward 0 (spans_in (widened window 1) field.spans) span) (column_toward 1 (spans_in (widened window 1) field.spans) span)
    (column_toward 2 (spans_in (widened window 1) field.spans) span) (column_toward 3 (spans_in (widened window 1) field.spans) span)
    (column_toward 0 field.spans span) (column_toward 1 field.spans span) (column_toward 2 field.spans span) (column_toward 3 field.spans span)
    (ceiling_nearby (widened window 1) field.spans span (widened_inside window span.x span.z inside))
    (column_nearby 0 window field.spans span (omega arith) inside) (column_nearby 1 window field.spans span (omega arith) inside)
    (column_nearby 2 window field.spans span (omega arith) inside) (column_nearby 3 window field.spans span (omega arith) inside)

pub area_nearby : (window : Window) (field : Field) (agent : Agent) (span : Span) → is_in_window window span.x span.z ≡ true
    → filtered_area (field_in (widened window 1) field) agent span ≡ filtered_area field agent span
area_nearby window field agent span inside =
    let wide = widened_inside window span.x span.z inside in
    let low : is_low_ceiling (spans_in (widened window 1) field.spans) agent span ≡ is_low_ceiling field.spans agent span =
    ap (λ n. nat_lt n (span.top + agent.height)) (ceiling_nearby (widened window 1) field.spans span wide) in
    let ledge = ledge_nearby window field agent span inside in
    let hung = hung_nearby (widened window 1) field.spans span wide agent.climb in
    by_parts low ledge hung
  where
    by_parts : {a b c d : Bool} {m n : ℕ} → a ≡ b → c ≡ d → m ≡ n → (if a then 0 else (if c then 0 else m)) ≡ (if b then 0 else (if d then 0 else n))
    by_parts {b = b} {c = c} {d = d} {m = m} e f g =
        ap (λ t. if t then 0 else (if c then 0 else m)) e ∙ ap (λ t. if b then 0 else (if t then 0 else m)) f
        ∙ ap (λ k. if b then 0 else (if d then 0 else k)) g

-- a direction in which nothing stands beside a column
record HasEmptySide (window : Window) (at : CellRef) : Type 0 where
  dir : ℕ
  small : dir < 4
  empty : (to : CellRef) → is_toward dir at to ≡ true → is_in_window window to.x to.z ≡ false

-- the columns that a rectangle has by its being widened by one
empty_side : (window : Window) (at : CellRef) → is_in_window window at.x at.z ≡ false → HasEmptySide (widened window 1) at
empty_side window at outside =
    elim (cases_Bool (int_le window.x0 (pos at.x))) [
      | inr low ↦ record {
        dir = 0;
        small = omega arith;
        empty = λ to h. let e = both_equal (to.x + 1) at.x to.z at.z h in
            not_inside (widened window 1) to.x to.z (λ x0 x1 z0 z1. both_ways _ (below window.x0 at.x to.x e.0 low) x0);
      }
      | inl x0 ↦ elim (cases_Bool (int_le (pos at.x) window.x1)) [
        | inr high ↦ record {
          dir = 2;
          small = omega arith;
          empty = λ to h. let e = both_equal to.x (at.x + 1) to.z at.z h in
              not_inside (widened window 1) to.x to.z (λ x0 x1 z0 z1. both_ways _ (above window.x1 at.x to.x e.0 high) x1);
        }
        | inl x1 ↦ elim (cases_Bool (int_le window.z0 (pos at.z))) [
          | inr low ↦ record {
            dir = 3;
            small = omega arith;
            empty = λ to h. let e = both_equal to.x at.x (to.z + 1) at.z h in
                not_inside (widened window 1) to.x to.z (λ x0 x1 z0 z1. both_ways _ (below window.z0 at.z to.z e.1 low) z0);
          }
          | inl z0 ↦ elim (cases_Bool (int_le (pos at.z) window.z1)) [
            | inr high ↦ record {
              dir = 1;
              small = omega arith;
              empty = λ to h. let e = both_equal to.x at.x to.z (at.z + 1) h in
                  not_inside (widened window 1) to.x to.z (λ x0 x1 z0 z1. both_ways _ (above window.z1 at.z to.z e.1 high) z1);
            }
            | inl z1 ↦ absurd (both_ways _ outside (and_from _ _ (and_from _ _ x0 x1) (and_from _ _ z0 z1)))
          ]
        ]
      ]
    ]
  where
    below : (x0 : ℤ) (x y : ℕ) → y + 1 ≡ x → int_le x0 (pos x) ≡ false → int_le (x0 -ℤ pos 1) (pos y) ≡ false
    below x0 x y e h = grind (arith, ints)

    above : (x1 : ℤ) (x y : ℕ) → y ≡ x + 1 → int_le (pos x) x1 ≡ false → int_le (pos y) (x1 +ℤ pos 1) ≡ false
    above x1 x y e h = grind (arith, ints)

    not_inside : (wide : Window) (x z : ℕ)
        → (int_le wide.x0 (pos x) ≡ true → int_le (pos x) wide.x1 ≡ true → int_le wide.z0 (pos z) ≡ true → int_le (pos z) wide.z1 ≡ true → ⊥)
        → is_in_window wide x z ≡ false
    not_inside wide x z fails =
        false_from_ne_true (is_in_window wide x z) (λ h.
        let both = and_parts (int_le wide.x0 (pos x) && int_le (pos x) wide.x1) (int_le wide.z0 (pos z) && int_le (pos z) wide.z1) h in
        let xs = and_parts (int_le wide.x0 (pos x)) (int_le (pos x) wide.x1) both.0 in
        let zs = and_parts (int_le wide.z0 (pos z)) (int_le (pos z) wide.z1) both.1 in
        fails xs.0 xs.1 zs.0 zs.1)

-- a direction in which the rectangle has no columns has no spans
column_lost : (dir : ℕ) (window : Window) (spans : List Span) (span : Span)
    → ((to : CellRef) → is_toward dir (foot_of span) to ≡ true → is_in_window window to.x to.z ≡ false)
    → column_toward dir (spans_in window spans) span ≡ []
column_lost dir window spans span empty =
    filter-filter (λ (other : Span). is_toward dir (foot_of span) (foot_of other)) (λ (other : Span). is_in_window window other.x other.z) spans
    ∙ filter_none (λ (other : Span). is_in_window window other.x other.z && is_toward dir (foot_of span) (foot_of other)) spans
    (λ k d there. let other = get_or spans k d in
    false_from_ne_true (is_in_window window other.x other.z && is_toward dir (foot_of span) (foot_of other)) (λ h.
    let parts = and_parts (is_in_window window other.x other.z) (is_toward dir (foot_of span) (foot_of other)) h in
    both_ways (is_in_window window other.x other.z) (empty (foot_of other) parts.1) parts.0))

or_true : (b : Bool) → (b || true) ≡ true
or_true true = refl
or_true false = refl

-- a test finds in four lists what it finds in one of them
any_of_four : {A : Type 0} (f : A → Bool) (a b c d : List A)
    → list_any f (a ++ b ++ c ++ d) ≡ (list_any f a || list_any f b || list_any f c || list_any f d)
any_of_four f a b c d =
    list_any-append f (a ++ b ++ c) d
    ∙ ap (λ t. t || list_any f d) (list_any-append f (a ++ b) c ∙ ap (λ t. t || list_any f c) (list_any-append f a b))

one_of_four : (dir : ℕ) (b0 b1 b2 b3 : Bool) → dir < 4
    → ((dir ≡ 0 → b0 ≡ true) × (dir ≡ 1 → b1 ≡ true) × (dir ≡ 2 → b2 ≡ true) × (dir ≡ 3 → b3 ≡ true)) → (b0 || b1 || b2 || b3) ≡ true
one_of_four zero b0 b1 b2 b3 small is = ap (λ t. t || b1 || b2 || b3) (is.0 refl)
one_of_four (suc zero) b0 b1 b2 b3 small is = ap (λ t. b0 || t || b2 || b3) (is.1 refl) ∙ ap (λ t. t || b2 || b3) (or_true b0)
one_of_four (suc (suc zero)) b0 b1 b2 b3 small is = ap (λ t. b0 || b1 || t || b3) (is.2 refl) ∙ ap (λ t. t || b3) (or_true (b0 || b1))
one_of_four (suc (suc (suc zero))) b0 b1 b2 b3 small is = ap (λ t. b0 || b1 || b2 || t) (is.3 refl) ∙ or_true (b0 || b1 || b2)
one_of_four (suc (suc (suc (suc n)))) b0 b1 b2 b3 small is = absurd (omega (arith, small))

-- a test that the gap of an empty column passes finds it in any of four columns
found_in_empty : (dir : ℕ) (f : Gap → Bool) (c0 c1 c2 c3 : List Span) → f (record { floor = None; ceiling = 65535 }) ≡ true → dir < 4
    → ((dir ≡ 0 → c0 ≡ []) × (dir ≡ 1 → c1 ≡ []) × (dir ≡ 2 → c2 ≡ []) × (dir ≡ 3 → c3 ≡ []))
    → list_any f (gaps_of c0 ++ gaps_of c1 ++ gaps_of c2 ++ gaps_of c3) ≡ true
found_in_empty dir f c0 c1 c2 c3 passes small empty =
    any_of_four f (gaps_of c0) (gaps_of c1) (gaps_of c2) (gaps_of c3)
    ∙ one_of_four dir (list_any f (gaps_of c0)) (list_any f (gaps_of c1)) (list_any f (gaps_of c2)) (list_any f (gaps_of c3)) small
    (λ e. found c0 (empty.0 e), λ e. found c1 (empty.1 e), λ e. found c2 (empty.2 e), λ e. found c3 (empty.3 e))
  where
    found : (c : List Span) → c ≡ [] → list_any f (gaps_of c) ≡ true
    found c none = ap (λ l. list_any f (gaps_of l)) none ∙ ap (λ b. b || false) passes

-- beside an empty column a span with room above it stands at a drop
drop_beside : (field : Field) (agent : Agent) (span : Span) (dir : ℕ) → IsAgent agent → span.top ≤ 8191 → dir < 4
    → column_toward dir field.spans span ≡ [] → is_low_ceiling field.spans agent span ≡ false → is_ledge field agent span ≡ true
unfolding is_ledge
drop_beside field agent span dir limits top small empty high =
    let room : span.top + agent.height ≤ ceiling_of field.spans span = ltb-false (ceiling_of field.spans span) (span.top + agent.height) high in
    let is_here = λ (gap : Gap). is_open agent.height field.spans span gap && is_drop agent.climb span.top gap in
    let here : is_here (record { floor = None; ceiling = 65535 }) ≡ true =
    and_from _ true (le-leb (span.top + agent.height) (min (ceiling_of field.spans span) 65535) (omega (arith, room, top, limits.low_enough))) refl in
    let P = λ (d : ℕ). column_toward d field.spans span ≡ [] in
    let found = found_in_empty dir is_here (column_toward 0 field.spans span) (column_toward 1 field.spans span) (column_toward 2 field.spans span)
    (column_toward 3 field.spans span) here small
    (λ e. subst P e empty, λ e. subst P e empty, λ e. subst P e empty, λ e. subst P e empty) in
    let drop : list_any (is_drop agent.climb span.top) (open_gaps agent.height field.spans span) ≡ true =
    any-restricted (is_open agent.height field.spans span) (is_drop agent.climb span.top) (gaps_beside field.spans span) ∙ found in
    ap (λ b. is_at_edge field span || b || is_steep agent.climb (near_floors agent.climb span.top (open_gaps agent.height field.spans span))) drop
    ∙ ap (λ b. b || is_steep agent.climb (near_floors agent.climb span.top (open_gaps agent.height field.spans span))) (or_true (is_at_edge field span))

-- so a span in the columns that were added at the edge of a rectangle cannot be walked on
pub area_at_edge : (window : Window) (field : Field) (agent : Agent) (span : Span) → IsAgent agent → span.top ≤ 8191
    → is_in_window window span.x span.z ≡ false → filtered_area (field_in (widened window 1) field) agent span ≡ 0
area_at_edge window field agent span limits top outside =
    let side = empty_side window (foot_of span) outside in
    let lost = column_lost side.dir (widened window 1) field.spans span side.empty in
    elim (cases_Bool (is_low_ceiling (spans_in (widened window 1) field.spans) agent span)) [
      | inl low ↦ ap (λ b. if b then 0 else (if is_ledge (field_in (widened window 1) field) agent span then 0
          else low_hanging_area agent.climb (spans_in (widened window 1) field.spans) span)) low
      | inr high ↦
          let ledge = drop_beside (field_in (widened window 1) field) agent span side.dir limits top side.small lost high in
          ap (λ b. if b then 0 else (if is_ledge (field_in (widened window 1) field) agent span then 0
          else low_hanging_area agent.climb (spans_in (widened window 1) field.spans) span)) high
          ∙ ap (λ b. if b then 0 else low_hanging_area agent.climb (spans_in (widened window 1) field.spans) span) ledge
    ]
