use Rattle.std.proofs.Common.{ℕ, ◌∙◌, List, length, map, get_or, ap, sym, subst₂, arith}
use Rattle.nav_ground.specs.declared.field.Span.{Span}
use Rattle.nav_ground.specs.Column.{ceiling_of}
use Rattle.nav_ground.specs.Filters.{gaps_beside}
use Rattle.span_filters.specs.declared.gaps.AgentStand.{AgentStand}
use Rattle.span_filters.specs.Columns.{IsLargestSpan, start_of}
use Rattle.span_filters.specs.Gaps.{seen_over, seen_at_first}
use Rattle.span_filters.specs.Looks.{ArePassed}
use Rattle.span_filters.proofs.Neighbours.{spans_read}
use Rattle.span_filters.proofs.ReadSpans.{read_from, largest_read}
use Rattle.span_filters.proofs.Verdict.{edge_found, ledge_found}
use Rattle.span_filters.proofs.filters.is_ledge.Goals as goal

pub bounds-spans-i : goal.bounds-spans-i
bounds-spans-i c = omega (arith, ap length c.as_slice-spans.ensures)

-- the span that was read
largest : (c : goal.After-index-spans-i) → IsLargestSpan c.index-spans-i.result
largest c =
    largest_read c.as_slice-spans.result.now c.args.i c.index-spans-i.result (spans_read c.args.field.now _ c.requires.field c.as_slice-spans.ensures)
    (omega (arith, ap length c.as_slice-spans.ensures)) c.index-spans-i.is

pub is_at_edge-requires : goal.is_at_edge-requires
is_at_edge-requires c = largest c

pub returns-then-is_at_edge-clause-ledge : goal.returns-then-is_at_edge-clause-ledge
returns-then-is_at_edge-clause-ledge c = λ d.
    edge_found c.args.field.now c.args.agent.now c.index-spans-i.result (get_or c.args.field.now.spans c.args.i d)
    (read_from _ _ c.args.i c.index-spans-i.result d c.as_slice-spans.ensures c.requires.there c.index-spans-i.is) (sym c.is_at_edge.ensures ∙ c.if-is_at_edge.true)

pub ceiling_of-requires-clause-spans : goal.ceiling_of-requires-clause-spans
ceiling_of-requires-clause-spans c = spans_read c.args.field.now _ c.requires.field c.as_slice-spans.ensures

pub ceiling_of-requires-clause-there : goal.ceiling_of-requires-clause-there
ceiling_of-requires-clause-there c = omega (arith, ap length c.as_slice-spans.ensures)

pub column_of-requires : goal.column_of-requires
column_of-requires c =
    largest_read c.as_slice-spans.result.now c.args.i c.index-spans-i.result (spans_read c.args.field.now _ c.requires.field c.as_slice-spans.ensures)
    (omega (arith, ap length c.as_slice-spans.ensures)) c.index-spans-i.is

pub look_around-seen-requires : goal.look_around-seen-requires
look_around-seen-requires c =
    let spans = c.as_slice-spans.result.now in
    let span : Span = c.index-spans-i.result in
    let here = largest_read spans c.args.i span (spans_read c.args.field.now _ c.requires.field c.as_slice-spans.ensures)
    (omega (arith, ap length c.as_slice-spans.ensures)) c.index-spans-i.is in
    record {
      stand = record { floor = omega (arith, c.top.ensures, here.top); height = omega arith; climb = c.requires.agent.climb };
      list = record {
        rules = spans_read c.args.field.now _ c.requires.field c.as_slice-spans.ensures;
        places = c.requires.starts ∙ ap (map start_of) (sym c.as_slice-spans.ensures);
      };
      span = here;
      column = c.column_of.ensures;
      floor = c.top.ensures;
      passed = subst₂ (λ (xs : List Span) (s : Span). ArePassed xs c.args.passed.now c.args.agent.now.height s) (sym c.as_slice-spans.ensures)
          (sym (read_from _ _ c.args.i span span c.as_slice-spans.ensures c.requires.there c.index-spans-i.is)) (c.requires.passed span);
    }

pub shows_ledge-requires-clause-least : goal.shows_ledge-requires-clause-least
shows_ledge-requires-clause-least c =
    let here = largest_read c.as_slice-spans.result.now c.args.i c.index-spans-i.result (spans_read c.args.field.now _ c.requires.field c.as_slice-spans.ensures)
    (omega (arith, ap length c.as_slice-spans.ensures)) c.index-spans-i.is in
    omega (arith, c.look_around-seen.ensures.least, c.top.ensures, here.top)

pub shows_ledge-requires-clause-climb : goal.shows_ledge-requires-clause-climb
shows_ledge-requires-clause-climb c = omega (arith, c.requires.agent.climb, c.requires.agent.low_enough)

pub returns-clause-ledge : goal.returns-clause-ledge
returns-clause-ledge c = λ d.
    let span : Span = c.index-spans-i.result in
    let stand : ℕ → AgentStand = λ floor. record { floor = floor; ceiling = c.ceiling_of.result; height = c.args.agent.now.height; climb = c.args.agent.now.climb } in
    c.shows_ledge.ensures
    ∙ ledge_found c.args.field.now c.args.agent.now c.as_slice-spans.result.now span
    (get_or c.args.field.now.spans c.args.i d) c.ceiling_of.result c.look_around-seen.result c.as_slice-spans.ensures
    (read_from _ _ c.args.i span d c.as_slice-spans.ensures c.requires.there c.index-spans-i.is) (sym c.is_at_edge.ensures ∙ c.if-is_at_edge.false)
    (c.ceiling_of.ensures span ∙ ap (ceiling_of c.as_slice-spans.result.now) (sym c.index-spans-i.is))
    (c.look_around-seen.ensures.seen
    ∙ ap (λ floor. seen_over (stand floor) (seen_at_first (stand floor)) (gaps_beside c.as_slice-spans.result.now span)) c.top.ensures)

pub returns-clause-passed : goal.returns-clause-passed
returns-clause-passed c = λ d.
    subst₂ (λ (xs : List Span) (s : Span). ArePassed xs c.look_around-seen.new.passed c.args.agent.now.height s) c.as_slice-spans.ensures
    (read_from _ _ c.args.i c.index-spans-i.result d c.as_slice-spans.ensures c.requires.there c.index-spans-i.is) c.look_around-seen.ensures.passed
