-- The walkable spans of a field: they stand in its order, on its spans, and their ceilings below the spans above.
use Rattle.std.proofs.Common.{◌≡◌, ℕ, ◌<◌, ◌≤◌, true, length, List, map, get_or, Option, Some, None, refl, sym, ap, ◌∙◌, subst, arith, inl, inr}
use Rattle.std.specs.Prelude.{All, AllPairs, ◌&&◌, ◌==◌, nat_le, not}
use Rattle.std.specs.List.{zip, count_by}
use Rattle.std.specs.Option.{option_map_or}
use Rattle.std.proofs.lemmas.Bool.{and_parts, and_from, eqb-true, eq-eqb, leb-true, le-leb, not-true, eqb-false, cases_lt}
use Rattle.std.proofs.lemmas.List.{length-map, get_or_default}
use Rattle.std.proofs.lemmas.List.Elements.{All-map, All-filter, filter_passes}
use Rattle.std.proofs.lemmas.List.Kept.{AllPairs-filter}
use Rattle.std.proofs.lemmas.List.Sums.{length-filter, count_by-le-length}
use Rattle.std.proofs.lemmas.Slice.Zip.{length-zip, get_or-zip}
use Rattle.nav_ground.specs.declared.field.Span.{Span}
use Rattle.nav_ground.specs.declared.field.Field.{Field}
use Rattle.nav_ground.specs.Fields.{IsField, IsSpan, IsSpanBefore, AreAreas}
use Rattle.nav_ground.specs.Column.{stands_above, ceiling_of, span_above}
use Rattle.nav_ground.specs.Connection.{walkable_spans}
use Rattle.nav_ground.proofs.Found.{first_found, found_in}
use Rattle.nav_ground.proofs.Kept.{AllPairs-map}

-- a span stands above another in the same column exactly where these hold
pub record IsAbove (span other : Span) : Type 0 where
  pub x : other.x ≡ span.x
  pub z : other.z ≡ span.z
  pub over : span.top ≤ other.bottom

pub IsAbove-from_test : (span other : Span) → stands_above span other ≡ true → IsAbove span other
IsAbove-from_test span other h =
    let most = and_parts (other.x == span.x && other.z == span.z) (nat_le span.top other.bottom) h in
    let column = and_parts (other.x == span.x) (other.z == span.z) most.0 in
    record { x = eqb-true other.x span.x column.0; z = eqb-true other.z span.z column.1; over = leb-true span.top other.bottom most.1 }

pub test_of_IsAbove : (span other : Span) → IsAbove span other → stands_above span other ≡ true
test_of_IsAbove span other above =
    and_from (other.x == span.x && other.z == span.z) (nat_le span.top other.bottom)
    (and_from (other.x == span.x) (other.z == span.z) (eq-eqb other.x span.x above.x) (eq-eqb other.z span.z above.z))
    (le-leb span.top other.bottom above.over)

-- of two spans of one column in order the second stands above the first
pub above_from_order : (a b : Span) → IsSpanBefore a b → a.x ≡ b.x → a.z ≡ b.z → a.top ≤ b.bottom
above_from_order a b (inl below) x z = absurd (omega (arith, below, z))
above_from_order a b (inr (row, inl left)) x z = absurd (omega (arith, left, x))
above_from_order a b (inr (row, inr (column, over))) x z = over

-- the ceiling of a span is not above any span that stands above it
pub ceiling_below : (width depth : ℕ) (spans : List Span) (span : Span) (k : ℕ) (d : Span) → All (IsSpan width depth) spans → AllPairs IsSpanBefore spans
    → k < length spans → IsAbove span (get_or spans k d) → ceiling_of spans span ≤ (get_or spans k d).bottom
ceiling_below width depth spans span k d each order there above =
    let first = first_found (stands_above span) spans k d there (test_of_IsAbove span (get_or spans k d) above) in
    let is : ceiling_of spans span ≡ (get_or spans first.place d).bottom = ap (λ (o : Option Span). option_map_or (λ (s : Span). s.bottom) o 65535) first.is in
    let below = IsAbove-from_test span (get_or spans first.place d) first.passes in
    elim (cases_lt first.place k) [
      | inl before ↦
          let over = above_from_order (get_or spans first.place d) (get_or spans k d) (order first.place k d before there)
          (below.x ∙ sym above.x) (below.z ∙ sym above.z) in
          let solid = (each first.place d (omega (arith, before, there))).solid in
          omega (arith, is, over, solid)
      | inr after ↦
          let same : first.place ≡ k = omega (arith, first.most, after) in
          let is' = ap (λ i. (get_or spans i d).bottom) same in
          omega (arith, is, is')
    ]

-- a ceiling is a height
pub ceiling_at_most : (width depth : ℕ) (spans : List Span) (span : Span) → All (IsSpan width depth) spans → ceiling_of spans span ≤ 65535
ceiling_at_most width depth spans span each = by_above (span_above spans span) refl
  where
    by_above : (above : Option Span) → span_above spans span ≡ above → option_map_or (λ (s : Span). s.bottom) above 65535 ≤ 65535
    by_above None is = omega arith
    by_above (Some s) is =
        let found = found_in (stands_above span) spans s is in
        let limits = subst (IsSpan width depth) found.at (each found.place s found.there) in
        omega (arith, limits.solid, limits.top)

-- a walkable span: it is a span of the field with another area, from 1 to 63
pub record IsWalkable (width depth : ℕ) (spans : List Span) (span : Span) : Type 0 where
  pub place : ℕ
  pub there : place < length spans
  pub under : (d : Span) → record (get_or spans place d) { area = span.area } ≡ span
  pub limits : IsSpan width depth span
  pub area : 1 ≤ span.area

-- what holds of each pair of elements at one place of two lists of one length
All-zip : {A B : Type 0} (P : A × B → Type 0) (xs : List A) (ys : List B) → length ys ≡ length xs
    → ((k : ℕ) (d : A) (e : B) → k < length xs → P (get_or xs k d, get_or ys k e)) → All P (zip xs ys)
All-zip P xs ys same each k d there =
    let there' : k < length xs = omega (arith, there, length-zip xs ys, same) in
    subst P (sym (get_or-zip xs ys k d there' (omega (arith, there', same)))) (each k d.0 d.1 there')

AllPairs-zip : {A B : Type 0} (R : A → A → Type 0) (xs : List A) (ys : List B) → length ys ≡ length xs → AllPairs R xs
    → AllPairs (λ (a b : A × B). R a.0 b.0) (zip xs ys)
AllPairs-zip {A = A} R xs ys same pairs i j d before there =
    let j' : j < length xs = omega (arith, there, length-zip xs ys, same) in
    let i' : i < length xs = omega (arith, before, j') in
    let P : A → Type 0 = λ a. R a (get_or (zip xs ys) j d).0 in
    let Q : A → Type 0 = λ a. R (get_or xs i d.0) a in
    subst P (sym (ap (λ p. p.0) (get_or-zip xs ys i d i' (omega (arith, i', same)))))
    (subst Q (sym (ap (λ p. p.0) (get_or-zip xs ys j d j' (omega (arith, j', same))))) (pairs i j d.0 before j'))

pub walkable : (field : Field) (areas : List ℕ) → IsField field → AreAreas areas → length areas ≡ length field.spans
    → All (IsWalkable field.width field.depth field.spans) (walkable_spans field.spans areas)
walkable field areas rules' limits each =
    let is_walkable = λ (span : Span). not (span.area == 0) in
    let spans = map (λ (beside : Span × ℕ). record beside.0 { area = beside.1 }) (zip field.spans areas) in
    let P : Span → Type 0 = λ (span : Span). is_walkable span ≡ true → IsWalkable field.width field.depth field.spans span in
    let all : All P spans = All-map P (λ (beside : Span × ℕ). record beside.0 { area = beside.1 }) (zip field.spans areas)
    (All-zip (λ (beside : Span × ℕ). P (record beside.0 { area = beside.1 })) field.spans areas each
    (λ k d e there some. on_span k d e there some)) in
    λ k d there. All-filter is_walkable P spans all k d there (filter_passes is_walkable spans k d there)
  where
    on_span : (k : ℕ) (d : Span) (e : ℕ) → k < length field.spans → not (get_or areas k e == 0) ≡ true
        → IsWalkable field.width field.depth field.spans (record (get_or field.spans k d) { area = get_or areas k e })
    on_span k d e there some =
        let here = rules'.spans k d there in
        let small : get_or areas k e ≤ 63 = limits k e (omega (arith, there, each)) in
        let apart = eqb-false (get_or areas k e) 0 (not-true (get_or areas k e == 0) some) in
        record {
          place = k;
          there = there;
          under = λ d'. ap (λ (s : Span). record s { area = get_or areas k e }) (get_or_default field.spans k d' d there);
          limits = record { x = here.x; z = here.z; solid = here.solid; top = here.top; area = small };
          area = omega (arith, apart);
        }

pub walkable_order : (spans : List Span) (areas : List ℕ) → length areas ≡ length spans → AllPairs IsSpanBefore spans
    → AllPairs IsSpanBefore (walkable_spans spans areas)
walkable_order spans areas each order =
    AllPairs-filter IsSpanBefore (λ (span : Span). not (span.area == 0)) (map (λ (beside : Span × ℕ). record beside.0 { area = beside.1 }) (zip spans areas))
    (AllPairs-map IsSpanBefore (λ (beside : Span × ℕ). record beside.0 { area = beside.1 }) (zip spans areas)
    (AllPairs-zip IsSpanBefore spans areas each order))

pub few_walkable : (spans : List Span) (areas : List ℕ) → length (walkable_spans spans areas) ≤ length spans
few_walkable spans areas =
    let spans' = map (λ (beside : Span × ℕ). record beside.0 { area = beside.1 }) (zip spans areas) in
    let kept : length (walkable_spans spans areas) ≡ count_by (λ (span : Span). not (span.area == 0)) spans' = length-filter (λ (span : Span). not (span.area == 0)) spans' in
    let least = count_by-le-length (λ (span : Span). not (span.area == 0)) spans' in
    omega (arith, kept, least, length-map (zip spans areas) (λ (beside : Span × ℕ). record beside.0 { area = beside.1 }), length-zip spans areas)
