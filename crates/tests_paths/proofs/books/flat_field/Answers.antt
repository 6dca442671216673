use Rattle.std.proofs.Common.{List, ◌++◌, ◌∷◌, [], ap, ◌∙◌, sym, subst, arith}
use Rattle.std.proofs.lemmas.List.FromFn.{map-range_with_len_more}
use Rattle.nav_ground.specs.declared.field.Span.{Span}
use Rattle.nav_ground.specs.Fields.{IsField}
use Rattle.tests_paths.proofs.FlatFields.{flat_span, flat_spans, flat_small, flat_is_field}
use Rattle.tests_paths.proofs.books.flat_field.Goals as goal

pub new-requires : goal.new-requires
new-requires c = flat_small c.args.width c.args.depth c.loop-i.i c.requires.wide.0 c.requires.wide.1 c.requires.deep.1 c.loop-i-test.true

pub loop-i-preserved : goal.loop-i-preserved
loop-i-preserved c =
    c.in_ok-push.ensures.items
    ∙ ap (λ (span : Span). c.loop-i.spans.items ++ span ∷ []) c.new.ensures
    ∙ ap (λ (spans : List Span). spans ++ flat_span c.args.width c.loop-i.i ∷ []) c.loop-i.invariant
    ∙ sym (map-range_with_len_more (flat_span c.args.width) 0 c.loop-i.i c.loop-i.i (omega arith))

pub returns-clause-rules : goal.returns-clause-rules
returns-clause-rules c =
    subst (λ (spans : List Span). IsField (record { width = c.args.width; depth = c.args.depth; spans = spans }))
    (sym (c.from_vec.ensures ∙ c.loop-i.invariant ∙ ap (flat_spans c.args.width) (omega arith)))
    (flat_is_field c.args.width c.args.depth c.requires.wide.0 c.requires.wide.1 c.requires.deep.0 c.requires.deep.1)
