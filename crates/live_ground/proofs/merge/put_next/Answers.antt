use Rattle.std.proofs.Common.{◌∙◌, sym, subst, List, drop}
use Rattle.nav_ground.specs.declared.field.Span.{Span}
use Rattle.live_ground.specs.Merging.{IsMerged}
use Rattle.live_ground.proofs.Merges.{merged_old, merged_without}
use Rattle.live_ground.proofs.merge.put_next.Goals as goal

pub returns-then-is_in-clause-merged : goal.returns-then-is_in-clause-merged
returns-then-is_in-clause-merged c = λ old left have.
    merged_without c.args.window old c.args.news.now c.args.made.now.items left c.args.span.now (drop c.args.next c.args.news.now) have
    (sym c.is_in.ensures ∙ c.if-is_in.true)

pub returns-clause-merged : goal.returns-clause-merged
returns-clause-merged c = λ old left have.
    let P : List Span → Type 0 = λ list. IsMerged c.args.window old c.args.news.now list left (drop c.in_ok-upto.upto c.args.news.now) in
    subst P (sym c.in_ok-push.ensures.items)
    (merged_old c.args.window old c.args.news.now c.put_earlier.new.made.items left c.args.span.now (drop c.in_ok-upto.upto c.args.news.now)
    (c.in_ok-upto.ensures.merged old left have) (sym c.is_in.ensures ∙ c.if-is_in.false) (c.in_ok-upto.ensures.rest old left have))
