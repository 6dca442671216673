use Rattle.std.proofs.Common.{◌∙◌, ap, sym, arith}
use Rattle.std.proofs.lemmas.List.{get_or_read}
use Rattle.nav_ground.specs.declared.field.Span.{Span}
use Rattle.live_ground.specs.Merging.{is_in_earlier_column}
use Rattle.live_ground.proofs.Merges.{merged_more, rest_behind_at}
use Rattle.live_ground.proofs.merge.put_earlier.Goals as goal

pub loop-upto-preserved : goal.loop-upto-preserved
loop-upto-preserved c = record {
  most = omega (arith, c.loop-upto-test.true);
  merged = λ old left have.
      merged_more c.args.window old c.args.news.now c.loop-upto.made.items left c.args.span.now c.push.new.self.items c.loop-upto.upto
      c.index-news-upto-in-loop-upto.result c.index-news-upto.result (c.loop-upto.invariant.merged old left have) c.requires.outside c.loop-upto-test.true
      c.index-news-upto-in-loop-upto.is c.index-news-upto.is (sym c.is_in_earlier_column.ensures ∙ c.if-is_in_earlier_column.true) c.in_ok-push.ensures.items;
}

pub returns-else-is_in_earlier_column-clause-rest : goal.returns-else-is_in_earlier_column-clause-rest
returns-else-is_in_earlier_column-clause-rest c = λ old left have.
    rest_behind_at c.args.window old c.args.news.now c.loop-upto.made.items left c.args.span.now c.args.news.now c.loop-upto.upto
    (c.loop-upto.invariant.merged old left have) c.requires.outside
    (λ d there. ap (λ (a : Span). is_in_earlier_column a c.args.span.now) (sym (get_or_read c.args.news.now c.loop-upto.upto c.index-news-upto.result there c.index-news-upto.is d))
    ∙ sym c.is_in_earlier_column.ensures ∙ c.if-is_in_earlier_column.false)
