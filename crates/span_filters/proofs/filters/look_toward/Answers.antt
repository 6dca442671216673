use Rattle.std.proofs.Common.{◌∙◌, List, ap}
use Rattle.std.specs.List.{filter}
use Rattle.nav_ground.specs.declared.field.Span.{Span}
use Rattle.nav_ground.specs.Column.{gaps_of}
use Rattle.nav_ground.specs.Directions.{number}
use Rattle.nav_ground.proofs.DirectionLaws.{number-below}
use Rattle.span_filters.specs.Columns.{is_in}
use Rattle.span_filters.specs.Gaps.{seen_over}
use Rattle.span_filters.proofs.Neighbours.{spans_toward}
use Rattle.span_filters.proofs.filters.look_toward.Goals as goal

pub returns-clause-seen : goal.returns-clause-seen
returns-clause-seen c =
    let post = c.args.post.now in
    c.look.ensures
    ∙ ap (λ column. seen_over post.stand.now c.args.seen.now (gaps_of (filter (is_in column) post.list.spans.now)))
    (c.column_beside-column.ensures post.span.now c.requires.column)
    ∙ ap (λ (xs : List Span). seen_over post.stand.now c.args.seen.now (gaps_of xs))
    (spans_toward (number c.args.dir) post.list.spans.now post.span.now (number-below c.args.dir) c.requires.list.rules c.requires.span)
