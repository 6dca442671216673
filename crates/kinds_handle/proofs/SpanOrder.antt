-- Spans of a host in their order, and the field that they make.
use Rattle.std.proofs.Common.{◌≡◌, ℕ, ◌+◌, ◌-◌, ◌≤◌, ◌<◌, List, length, get_or, map, take, sym, subst, arith, ⊎_elim}
use Rattle.std.specs.Prelude.{All, AllPairs}
use Rattle.std.proofs.lemmas.Bool.{cases_eq}
use Rattle.std.proofs.lemmas.List.{get_or-take, length-map, length-take}
use Rattle.std.proofs.lemmas.List.Elements.{All-map}
use Rattle.nav_ground.specs.declared.field.Span.{Span}
use Rattle.nav_ground.specs.Fields.{IsField, IsSpan, IsSpanBefore}
use Rattle.nav_ground.proofs.Kept.{AllPairs-map}
use Rattle.kinds_handle.specs.declared.wire.NavdGround.{NavdGround}
use Rattle.kinds_handle.specs.declared.wire.NavdSpan.{NavdSpan}
use Rattle.kinds_handle.specs.KindSpans.{AreSpans, ComesBefore, IsSpanOf, field_of, span_of}
use Rattle.kinds_handle.proofs.Loops.{pairs_more}

-- a span before another that is before a third is before the third
before_third : (a b c : Span) → b.bottom < b.top → IsSpanBefore a b → IsSpanBefore b c → IsSpanBefore a c
before_third a b c solid first second = grind arith

-- neighbours in their order: one more comes behind all before it
pub order_more : (ground : NavdGround) (spans : List NavdSpan) (i : ℕ) → 1 ≤ i → i < length spans → All (IsSpanOf ground) spans
    → AllPairs ComesBefore (take i spans) → ((d : NavdSpan) → ComesBefore (get_or spans (i - 1) d) (get_or spans i d)) → AllPairs ComesBefore (take (i + 1) spans)
order_more ground spans i some there each pairs next =
    pairs_more ComesBefore spans i there pairs (λ k d below.
    let before : i - 1 < length spans = omega (arith, there, some) in
    ⊎_elim
    (λ same. subst (λ n. ComesBefore (get_or spans n d) (get_or spans i d)) (sym same) (next d))
    (λ apart.
    let inside : k < i - 1 = omega (arith, below, apart) in
    let inner : ComesBefore (get_or (take i spans) k d) (get_or (take i spans) (i - 1) d) = pairs k (i - 1) d inside (omega (arith, length-take i spans, there, some)) in
    before_third (span_of (get_or spans k d)) (span_of (get_or spans (i - 1) d)) (span_of (get_or spans i d)) (each (i - 1) d before).solid
    (subst (λ a. ComesBefore a (get_or spans (i - 1) d)) (get_or-take i spans k d below)
    (subst (λ b. ComesBefore (get_or (take i spans) k d) b) (get_or-take i spans (i - 1) d (omega (arith, some))) inner))
    (next d))
    (cases_eq k (i - 1)))

-- spans that are not too many make a field
pub field_made : (ground : NavdGround) (spans : List NavdSpan) → 1 ≤ ground.width → ground.width ≤ 1024 → 1 ≤ ground.depth → ground.depth ≤ 1024
    → length spans ≤ 2000000 → AreSpans ground spans → IsField (field_of ground spans)
field_made ground spans some_wide wide some_deep deep few are =
    let many : length (map span_of spans) ≡ length spans = length-map spans span_of in
    record {
      wide = some_wide;
      width = wide;
      deep = some_deep;
      depth = deep;
      few = omega (arith, few, many);
      spans = All-map (IsSpan ground.width ground.depth) span_of spans are.each;
      order = AllPairs-map IsSpanBefore span_of spans are.order;
    }
