use Rattle.std.proofs.Common.{◌≡◌, ◌<◌, [], length, drop, filter, get_or, ap, sym, arith}
use Rattle.std.proofs.lemmas.List.{drop_all}
use Rattle.nav_ground.specs.declared.field.Span.{Span}
use Rattle.span_filters.specs.Columns.{ceiling_over, column_of, is_in}
use Rattle.span_filters.proofs.Neighbours.{none_in_later}
use Rattle.span_filters.proofs.ReadSpans.{start_read, starts_beside, ceiling_read}
use Rattle.span_filters.proofs.gaps.ceiling_over.Goals as goal
use Rattle.span_filters.proofs.gaps.ceiling_over.Goals.{else-first-starts-via-then-first-starts+else-starts-first, else-first-starts-via-else-first-starts}

abbrev no_span : Span
no_span = record { x = 0; z = 0; bottom = 0; top = 0; area = 0 }

pub overflow_sub-result : goal.overflow_sub-result
overflow_sub-result c =
    let there : c.args.first < length c.args.list.spans.now = omega (arith, starts_beside c.args.list.spans.now c.args.list.starts.now c.requires.list.places, c.if-first-starts.true) in
    let begins = start_read c.args.list.spans.now c.args.list.starts.now c.args.first 0 no_span c.requires.list.places there in
    let next = c.requires.next c.args.first no_span (omega arith) there in
    omega (arith, begins, next, c.place_of-foot.ensures)

pub returns-then-starts-first : goal.returns-then-starts-first
returns-then-starts-first c =
    let spans = c.args.list.spans.now in
    let there : c.args.first < length spans = omega (arith, starts_beside c.args.list.spans.now c.args.list.starts.now c.requires.list.places, c.if-first-starts.true) in
    let begins = start_read spans c.args.list.starts.now c.args.first 0 no_span c.requires.list.places there in
    let next = c.requires.next c.args.first no_span (omega arith) there in
    let column : column_of (get_or spans c.args.first no_span) ≡ c.args.column = omega (arith, begins, next, c.if-starts-first.true, c.place_of-foot.ensures) in
    omega (arith, begins, column, c.place_of-foot.ensures, ceiling_read spans c.args.first c.args.column no_span there column)

pub returns-else-first-starts : goal.returns-else-first-starts
returns-else-first-starts c =
    let spans = c.args.list.spans.now in
    let none : filter (is_in c.args.column) (drop c.args.first spans) ≡ [] =
    elim c.else-first-starts.branch [
      | else-first-starts-via-then-first-starts+else-starts-first w ↦
          none_in_later spans c.args.first c.args.column c.requires.list.rules (λ d there.
          let begins = start_read spans c.args.list.starts.now c.args.first 0 d c.requires.list.places there in
          let rules' = c.requires.list.rules.each c.args.first d there in
          omega (arith, begins, w.if-starts-first.false, c.place_of-foot.ensures, rules'.solid, rules'.top))
      | else-first-starts-via-else-first-starts w ↦
          ap (filter (is_in c.args.column)) (drop_all c.args.first spans (omega (arith, starts_beside c.args.list.spans.now c.args.list.starts.now c.requires.list.places, w.if-first-starts.false)))
    ] in
    ap ceiling_over (sym none)
