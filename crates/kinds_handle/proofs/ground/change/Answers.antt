use Rattle.std.proofs.Common.{◌≡◌, ◌∙◌, ap, map}
use Rattle.std.specs.Prelude.{All}
use Rattle.nav_ground.specs.declared.field.Field.{Field}
use Rattle.agent_kinds.specs.KindGrounds.{AreTooMany}
use Rattle.agent_kinds.proofs.Resting.{same_beyond}
use Rattle.kinds_handle.specs.KindGroundChanges.{AreOverMany, window_of}
use Rattle.kinds_handle.specs.KindSpans.{span_of}
use Rattle.kinds_handle.proofs.GroundSpans.{can_field, few_where_ok, many_of_kind, spans_of_kind, spans_of_size}
use Rattle.kinds_handle.proofs.ground.change.Goals as goal

pub field_of-requires-clause-spans : goal.field_of-requires-clause-spans
field_of-requires-clause-spans g c =
    spans_of_size c.size_of-size.result c.field.result.now c.args.columns.now c.args.spans.now c.size_of-size.ensures.width c.size_of-size.ensures.depth
    (can_field c.args.columns.now c.args.spans.now c.field.result.now c.args.held.now c.field.ensures.kinds c.field.ensures.value c.requires.can)

pub returns-in_err-news-clause-differ : goal.returns-in_err-news-clause-differ
returns-in_err-news-clause-differ g c = same_beyond (window_of c.args.columns.now) c.args.held.now

pub change_ground-requires : goal.change_ground-requires
change_ground-requires g c =
    let list : c.as_slice.result.now ≡ map span_of c.args.spans.now = c.as_slice.ensures ∙ ap (λ (field : Field). field.spans) c.in_ok-news.ensures in
    λ k d there. spans_of_kind c.args.columns.now c.args.spans.now c.args.window c.as_slice.result.now _ c.requires.window list (c.requires.can k d there)

pub returns-clause-few : goal.returns-clause-few
returns-clause-few g c =
    let list : c.as_slice.result.now ≡ map span_of c.args.spans.now = c.as_slice.ensures ∙ ap (λ (field : Field). field.spans) c.in_ok-news.ensures in
    few_where_ok c.change_ground.result (All (AreTooMany c.args.window c.as_slice.result.now) c.args.held.now)
    (All (AreOverMany c.args.columns.now c.args.spans.now) c.args.held.now) c.change_ground.ensures.many
    (many_of_kind c.args.columns.now c.args.spans.now c.args.window c.as_slice.result.now c.args.held.now c.requires.window list)
