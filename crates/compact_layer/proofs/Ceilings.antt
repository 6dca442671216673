-- Spans in order: those of one column stand together, and the ceiling of a span is the bottom of the next one, if that lies in its column.
use Rattle.std.proofs.Common.{◌≡◌, ℕ, ◌+◌, ◌*◌, ◌<◌, ◌≤◌, Bool, true, false, length, List, get_or, Option, refl, sym, ap, ◌∙◌, arith, inl, inr}
use Rattle.std.specs.Prelude.{All, AllPairs, ◌&&◌, ◌==◌, if◌then◌else◌, slice_get}
use Rattle.std.specs.Option.{option_map_or}
use Rattle.std.proofs.lemmas.Bool.{cases_lt, cases_order, false_from_ne_true, both_ways}
use Rattle.std.proofs.lemmas.List.{get_or_default}
use Rattle.std.proofs.lemmas.Option.{slice_get-get_or, slice_get_past}
use Rattle.nav_ground.specs.declared.field.Span.{Span}
use Rattle.nav_ground.specs.Fields.{IsSpan, IsSpanBefore}
use Rattle.nav_ground.specs.Column.{stands_above, ceiling_of}
use Rattle.nav_ground.proofs.Directions.{both_equal, tests_of_equal}
use Rattle.nav_ground.proofs.Found.{find_is, find_none}
use Rattle.nav_ground.proofs.Walkable.{IsAbove, IsAbove-from_test, test_of_IsAbove, above_from_order}
use Rattle.compact_layer.specs.Making.{ceiling_over}

-- spans of the largest field, in order
pub record AreSpans (spans : List Span) : Type 0 where
  pub each : All (IsSpan 1024 1024) spans
  pub order : AllPairs IsSpanBefore spans

-- two spans stand in one column
pub record IsBeside (a b : Span) : Type 0 where
  pub x : a.x ≡ b.x
  pub z : a.z ≡ b.z

rises : (a b : Span) → IsSpan 1024 1024 a → IsSpan 1024 1024 b → IsSpanBefore a b → a.z * 1024 + a.x ≤ b.z * 1024 + b.x
rises a b la lb (inl below) = omega (arith, below, la.x, lb.x)
rises a b la lb (inr (row, inl left)) = omega (arith, row, left)
rises a b la lb (inr (row, inr (column, over))) = omega (arith, row, column)

-- the spans between two of one column are in it too
pub between : (spans : List Span) (i j k : ℕ) (d : Span) → AreSpans spans → i < j → j < k → k < length spans
    → IsBeside (get_or spans i d) (get_or spans k d) → IsBeside (get_or spans j d) (get_or spans k d)
between spans i j k d rules' first last there beside =
    let a = get_or spans i d in
    let b = get_or spans j d in
    let c = get_or spans k d in
    let la = rules'.each i d (omega (arith, first, last, there)) in
    let lb = rules'.each j d (omega (arith, last, there)) in
    let lc = rules'.each k d there in
    let up = rises a b la lb (rules'.order i j d first (omega (arith, last, there))) in
    let down = rises b c lb lc (rules'.order j k d last there) in
    record {
      x = omega (arith, up, down, beside.x, beside.z, la.x, lb.x, lc.x);
      z = omega (arith, up, down, beside.x, beside.z, la.x, lb.x, lc.x);
    }

-- no span that stands at a place or before stands above the span of that place
pub none_above : (spans : List Span) (i k : ℕ) (d : Span) → AreSpans spans → i < length spans → k ≤ i
    → IsAbove (get_or spans i d) (get_or spans k d) → ⊥
none_above spans i k d rules' there before above =
    let solid = (rules'.each i d there).solid in
    elim (cases_lt k i) [
      | inl less ↦
          let over = above_from_order (get_or spans k d) (get_or spans i d) (rules'.order k i d less there) above.x above.z in
          let solid' = (rules'.each k d (omega (arith, less, there))).solid in
          omega (arith, over, solid, solid', above.over)
      | inr rest ↦
          let same : k ≡ i = omega (arith, before, rest) in
          let bottom = ap (λ n. (get_or spans n d).bottom) same in
          omega (arith, bottom, solid, above.over)
    ]

-- where the next span lies in another column or there is none, none stands above
none_higher : (spans : List Span) (i : ℕ) (d : Span) → AreSpans spans → i < length spans
    → (i + 1 < length spans → IsBeside (get_or spans (i + 1) d) (get_or spans i d) → ⊥)
    → (k : ℕ) (e : Span) → k < length spans → stands_above (get_or spans i d) (get_or spans k e) ≡ false
none_higher spans i d rules' there apart k e within =
    false_from_ne_true (stands_above (get_or spans i d) (get_or spans k e))
    (λ h.
    let above = IsAbove-from_test (get_or spans i d) (get_or spans k d)
    (ap (stands_above (get_or spans i d)) (get_or_default spans k d e within) ∙ h) in
    elim (cases_order k (i + 1)) [
      | inl same ↦
          apart (omega (arith, same, within))
          (record {
            x = ap (λ n. (get_or spans n d).x) (sym same) ∙ above.x;
            z = ap (λ n. (get_or spans n d).z) (sym same) ∙ above.z;
          })
      | inr (inl before) ↦ none_above spans i k d rules' there (omega (arith, before)) above
      | inr (inr after) ↦
          let here = between spans i (i + 1) k d rules' (omega arith) after within (record { x = sym above.x; z = sym above.z }) in
          apart (omega (arith, after, within)) (record { x = here.x ∙ above.x; z = here.z ∙ above.z })
    ])

-- the ceiling of a span of the list
ceiling_by_next : (spans : List Span) (i : ℕ) (d : Span) (beside : Bool) → AreSpans spans → i < length spans → i + 1 < length spans
    → beside ≡ ((get_or spans (i + 1) d).x == (get_or spans i d).x && (get_or spans (i + 1) d).z == (get_or spans i d).z)
    → ceiling_of spans (get_or spans i d) ≡ (if beside then (get_or spans (i + 1) d).bottom else 65535)
ceiling_by_next spans i d true rules' there within is =
    let span = get_or spans i d in
    let next = get_or spans (i + 1) d in
    let same = both_equal next.x span.x next.z span.z (sym is) in
    let over = above_from_order span next (rules'.order i (i + 1) d (omega arith) within) (sym same.0) (sym same.1) in
    ap (λ (o : Option Span). option_map_or (λ (above : Span). above.bottom) o 65535)
    (find_is (stands_above span) spans (i + 1) d within
    (λ k before. false_from_ne_true (stands_above span (get_or spans k d))
    (λ h. none_above spans i k d rules' there (omega (arith, before)) (IsAbove-from_test span (get_or spans k d) h)))
    (test_of_IsAbove span next (record { x = same.0; z = same.1; over = over })))
ceiling_by_next spans i d false rules' there within is =
    let span = get_or spans i d in
    let next = get_or spans (i + 1) d in
    ap (λ (o : Option Span). option_map_or (λ (above : Span). above.bottom) o 65535)
    (find_none (stands_above span) spans
    (none_higher spans i d rules' there
    (λ within' beside. both_ways (next.x == span.x && next.z == span.z) (sym is) (tests_of_equal next.x span.x next.z span.z beside.x beside.z))))

pub ceiling_is : (spans : List Span) (i : ℕ) (d : Span) → AreSpans spans → i < length spans
    → ceiling_of spans (get_or spans i d) ≡ ceiling_over (slice_get spans (i + 1)) (get_or spans i d)
ceiling_is spans i d rules' there =
    let span = get_or spans i d in
    let next = get_or spans (i + 1) d in
    elim (cases_lt (i + 1) (length spans)) [
      | inl within ↦
          ceiling_by_next spans i d (next.x == span.x && next.z == span.z) rules' there within refl
          ∙ ap (λ (o : Option Span). ceiling_over o span) (sym (slice_get-get_or spans (i + 1) d within))
      | inr past ↦
          ap (λ (o : Option Span). option_map_or (λ (above : Span). above.bottom) o 65535)
          (find_none (stands_above span) spans (none_higher spans i d rules' there (λ within beside. omega (arith, past, within))))
          ∙ ap (λ (o : Option Span). ceiling_over o span) (sym (slice_get_past spans (i + 1) past))
    ]
