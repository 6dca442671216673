use Rattle.std.proofs.Common.{arith}
use Rattle.std.proofs.lemmas.Int.{ints}
use Rattle.live_ground.proofs.Merges.{ends_rise}
use Rattle.live_ground.proofs.merge.row_spans.Goals as goal

pub outside_of-requires-clause-places : goal.outside_of-requires-clause-places
outside_of-requires-clause-places c = record {
  order = ends_rise c.args.spans.now c.spans_before-first.result c.spans_before-end.result _ _ c.spans_before-first.ensures.before
      c.spans_before-end.ensures.behind (omega (arith, ints, c.requires.least, c.requires.rows)) c.spans_before-first.ensures.most;
  most = c.spans_before-end.ensures.most;
  before = λ k d there. omega (arith, ints, c.spans_before-first.ensures.before k d there, c.requires.least);
  behind = λ k d there. omega (arith, ints, c.spans_before-end.ensures.behind k d there, c.requires.least, c.requires.rows);
}

pub returns-clause-places : goal.returns-clause-places
returns-clause-places c = record {
  order = ends_rise c.args.spans.now c.spans_before-first.result c.spans_before-end.result _ _ c.spans_before-first.ensures.before
      c.spans_before-end.ensures.behind (omega (arith, ints, c.requires.least, c.requires.rows)) c.spans_before-first.ensures.most;
  most = c.spans_before-end.ensures.most;
  before = λ k d there. omega (arith, ints, c.spans_before-first.ensures.before k d there, c.requires.least);
  behind = λ k d there. omega (arith, ints, c.spans_before-end.ensures.behind k d there, c.requires.least, c.requires.rows);
}
