-- Columns inside and outside a rectangle, and two rectangles that do not meet.
use Rattle.std.proofs.Common.{◌≡◌, ℕ, Bool, true, false, List, ◌∙◌, sym, refl, arith}
use Rattle.std.specs.Prelude.{ℤ, pos, ◌≤ℤ◌, ◌<ℤ◌, int_le, ◌&&◌, not, All}
use Rattle.std.proofs.lemmas.Bool.{and_from, both_ways, false_from_ne_true}
use Rattle.std.proofs.lemmas.Int.{ints}
use Rattle.std.proofs.lemmas.List.Elements.{filter_agree, All-weaker}
use Rattle.nav_ground.specs.declared.cell.Window.{Window}
use Rattle.nav_ground.specs.declared.field.Span.{Span}
use Rattle.nav_ground.specs.Tiling.{is_in_window, IsInWindow}
use Rattle.nav_ground.specs.Touching.{are_meeting}
use Rattle.nav_ground.proofs.Selections.{filter-filter}
use Rattle.nav_ground.proofs.LayerLaws.{inside_from}
use Rattle.layer_cut.specs.Nearby.{spans_in}
use Rattle.live_ground.specs.Changes.{spans_outside}

le_test : (a b : ℤ) → a ≤ℤ b → int_le a b ≡ true
le_test a b h = grind (arith, ints)

-- the test of a column that lies in a rectangle
pub window_test : (window : Window) (x z : ℕ) → IsInWindow window x z → is_in_window window x z ≡ true
window_test window x z inside =
    and_from _ _ (and_from _ _ (le_test window.x0 (pos x) inside.x_least) (le_test (pos x) window.x1 inside.x_most))
    (and_from _ _ (le_test window.z0 (pos z) inside.z_least) (le_test (pos z) window.z1 inside.z_most))

pub all_inside : (window : Window) (spans : List Span) → All (λ (span : Span). IsInWindow window span.x span.z) spans
    → All (λ (span : Span). is_in_window window span.x span.z ≡ true) spans
all_inside window spans each =
    All-weaker (λ (span : Span). IsInWindow window span.x span.z) (λ (span : Span). is_in_window window span.x span.z ≡ true)
    (λ (span : Span) inside. window_test window span.x span.z inside) spans each

-- a row before or behind those of a rectangle has no column in it
pub before_rows : (window : Window) (x z : ℕ) → pos z <ℤ window.z0 → is_in_window window x z ≡ false
before_rows window x z before =
    false_from_ne_true (is_in_window window x z) (λ h. none window.z0 z before (inside_from window x z h).z_least)
  where
    none : (z0 : ℤ) (z : ℕ) → pos z <ℤ z0 → z0 ≤ℤ pos z → ⊥
    none z0 z before least = grind (arith, ints)

pub behind_rows : (window : Window) (x z : ℕ) → window.z1 <ℤ pos z → is_in_window window x z ≡ false
behind_rows window x z behind =
    false_from_ne_true (is_in_window window x z) (λ h. none window.z1 z behind (inside_from window x z h).z_most)
  where
    none : (z1 : ℤ) (z : ℕ) → z1 <ℤ pos z → pos z ≤ℤ z1 → ⊥
    none z1 z behind most = grind (arith, ints)

through : (a b c : ℤ) → a ≤ℤ b → b ≤ℤ c → int_le a c ≡ true
through a b c below above = grind (arith, ints)

-- a column of a rectangle does not lie in one that it does not meet
pub not_in_both : (a b : Window) (x z : ℕ) → are_meeting a b ≡ false → is_in_window b x z ≡ true → is_in_window a x z ≡ false
not_in_both a b x z apart in_b = false_from_ne_true (is_in_window a x z) (λ in_a.
    let here = inside_from a x z in_a in
    let there = inside_from b x z in_b in
    no (are_meeting a b) apart (and_from _ _
    (and_from _ _ (through a.x0 (pos x) b.x1 here.x_least there.x_most) (through b.x0 (pos x) a.x1 there.x_least here.x_most))
    (and_from _ _ (through a.z0 (pos z) b.z1 here.z_least there.z_most) (through b.z0 (pos z) a.z1 there.z_least here.z_most))))
  where
    no : (p : Bool) → p ≡ false → p ≡ true → ⊥
    no p off on = both_ways p off on

-- the spans over a rectangle are among those outside one that it does not meet
pub spans_apart : (a b : Window) (spans : List Span) → are_meeting a b ≡ false → spans_in b spans ≡ spans_in b (spans_outside a spans)
spans_apart a b spans apart =
    let in_a = λ (span : Span). is_in_window a span.x span.z in
    let in_b = λ (span : Span). is_in_window b span.x span.z in
    sym (filter-filter in_b (λ span. not (in_a span)) spans
    ∙ filter_agree (λ span. not (in_a span) && in_b span) in_b (λ span. kept (in_a span) (in_b span) (λ h. not_in_both a b span.x span.z apart h)) spans)
  where
    kept : (p q : Bool) → (q ≡ true → p ≡ false) → (not p && q) ≡ q
    kept false q apart = refl
    kept true false apart = refl
    kept true true apart = sym (apart refl)
