use Rattle.std.proofs.Common.{[], ◌∷◌, ◌++◌, map, ap, ◌∙◌, sym}
use Rattle.std.proofs.lemmas.List.{map_more, take_all}
use Rattle.span_filters.specs.Columns.{start_of}
use Rattle.span_filters.proofs.ReadSpans.{largest_read}
use Rattle.span_filters.proofs.gaps.starts_of.Goals as goal

pub start_of-requires : goal.start_of-requires
start_of-requires c = largest_read c.args.spans.now c.loop-span.span-index c.span-item.result c.requires c.loop-span-test.true c.span-item.is

pub loop-span-preserved : goal.loop-span-preserved
loop-span-preserved c =
    c.in_ok-push.ensures.items
    ∙ (λ i. c.loop-span.invariant i ++ (c.start_of.ensures ∙ ap start_of c.span-item.is) i ∷ [])
    ∙ sym (map_more start_of c.args.spans.now c.loop-span.span-index c.span-item.result c.loop-span-test.true)

pub returns : goal.returns
returns c = c.loop-span.invariant ∙ ap (map start_of) (take_all c.loop-span.span-index c.args.spans.now c.loop-span-test.false)
