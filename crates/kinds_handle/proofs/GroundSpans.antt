-- Spans that a host hands over for the columns of a rectangle: those that the field of the kinds may get.
use Rattle.std.proofs.Common.{◌≡◌, ℕ, List, Result, Ok, Err, map, subst, sym}
use Rattle.std.specs.Prelude.{◌↔◌, All, OnOk}
use Rattle.std.proofs.lemmas.List.Elements.{All-map}
use Rattle.nav_ground.specs.declared.cell.Window.{Window}
use Rattle.nav_ground.specs.declared.field.Field.{Field}
use Rattle.nav_ground.specs.declared.field.Span.{Span}
use Rattle.nav_ground.specs.Fields.{IsSpan, IsSpanBefore}
use Rattle.nav_ground.specs.Tiling.{IsInWindow}
use Rattle.nav_ground.proofs.Kept.{AllPairs-map}
use Rattle.build_queue.specs.BookState.{BookState}
use Rattle.live_ground.specs.declared.kept_field.ChangeRefusal.{ChangeRefusal}
use Rattle.live_ground.specs.Changes.{AreSpansFor}
use Rattle.agent_kinds.specs.KindGrounds.{AreOver, AreSpansOfKinds, AreTooMany}
use Rattle.agent_kinds.specs.Kinds.{AreKinds}
use Rattle.agent_kinds.proofs.FieldKept.{ok_not_err}
use Rattle.agent_kinds.proofs.OverField.{of_each, of_field}
use Rattle.kinds_handle.specs.declared.wire.NavdColumns.{NavdColumns}
use Rattle.kinds_handle.specs.declared.wire.NavdGround.{NavdGround}
use Rattle.kinds_handle.specs.declared.wire.NavdSpan.{NavdSpan}
use Rattle.kinds_handle.specs.KindGroundChanges.{AreNewSpans, AreOverMany, CanChange, window_of}
use Rattle.kinds_handle.specs.KindSpans.{AreSpans, span_of}

-- the spans of a ground are those of a field of its size
pub each_in : (ground : NavdGround) (field : Field) (spans : List NavdSpan) → ground.width ≡ field.width → ground.depth ≡ field.depth
    → AreSpans ground spans → All (λ (span : NavdSpan). IsSpan field.width field.depth (span_of span)) spans
each_in ground field spans width depth are =
    subst (λ (w : ℕ). All (λ (span : NavdSpan). IsSpan w field.depth (span_of span)) spans) width
    (subst (λ (d : ℕ). All (λ (span : NavdSpan). IsSpan ground.width d (span_of span)) spans) depth are.each)

pub spans_of_size : (ground : NavdGround) (field : Field) (columns : NavdColumns) (spans : List NavdSpan) → ground.width ≡ field.width
    → ground.depth ≡ field.depth → AreNewSpans field columns spans → AreSpans ground spans
spans_of_size ground field columns spans width depth new = record {
  each = subst (λ (w : ℕ). All (λ (span : NavdSpan). IsSpan w ground.depth (span_of span)) spans) (sym width)
      (subst (λ (d : ℕ). All (λ (span : NavdSpan). IsSpan field.width d (span_of span)) spans) (sym depth) new.each);
  order = new.order;
}

-- the columns may get them
pub spans_for : (field : Field) (columns : NavdColumns) (spans : List NavdSpan) → AreNewSpans field columns spans
    → AreSpansFor field (window_of columns) (map span_of spans)
spans_for field columns spans new = record {
  each = All-map (IsSpan field.width field.depth) span_of spans new.each;
  inside = All-map (λ (span : Span). IsInWindow (window_of columns) span.x span.z) span_of spans new.inside;
  order = AllPairs-map IsSpanBefore span_of spans new.order;
}

pub spans_of_kind : (columns : NavdColumns) (spans : List NavdSpan) (window : Window) (list : List Span) (state : BookState) → window ≡ window_of columns
    → list ≡ map span_of spans → CanChange columns spans state → AreSpansOfKinds window list state
spans_of_kind columns spans window list state window_is list_is can =
    subst (λ (w : Window). AreSpansOfKinds w list state) (sym window_is)
    (subst (λ (l : List Span). AreSpansOfKinds (window_of columns) l state) (sym list_is)
    (record { inside = can.window; rules = spans_for state.ground.field columns spans can }))

pub many_of_kind : (columns : NavdColumns) (spans : List NavdSpan) (window : Window) (list : List Span) (states : List BookState)
    → window ≡ window_of columns → list ≡ map span_of spans → All (AreOverMany columns spans) states → All (AreTooMany window list) states
many_of_kind columns spans window list states window_is list_is many =
    subst (λ (w : Window). All (AreTooMany w list) states) (sym window_is)
    (subst (λ (l : List Span). All (AreTooMany (window_of columns) l) states) (sym list_is) many)

-- what is so of the field is so of that of each kind, and the other way round
pub can_all : (columns : NavdColumns) (spans : List NavdSpan) (field : Field) (states : List BookState) → AreOver field states
    → AreNewSpans field columns spans → All (CanChange columns spans) states
can_all columns spans field states over = of_each (λ (f : Field). AreNewSpans f columns spans) field states over

pub can_field : (columns : NavdColumns) (spans : List NavdSpan) (field : Field) (states : List BookState) → AreKinds states → AreOver field states
    → All (CanChange columns spans) states → AreNewSpans field columns spans
can_field columns spans field states kinds over = of_field (λ (f : Field). AreNewSpans f columns spans) field states kinds.some over

-- where a change comes there were not too many spans
pub few_where_ok : {X : Type 0} (told : Result X ChangeRefusal) (P Q : Type 0) → (told ≡ Err ChangeRefusal.TooManySpans) ↔ P → (Q → P) → OnOk told (Q → ⊥)
few_where_ok (Ok x) P Q many over = λ q. ok_not_err x ChangeRefusal.TooManySpans (many.1 (over q))
few_where_ok (Err e) P Q many over = tt
