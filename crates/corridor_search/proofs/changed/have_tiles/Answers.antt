use Rattle.std.proofs.Common.{subst}
use Rattle.std.specs.Prelude.{Contains}
use Rattle.std.proofs.lemmas.List.Elements.{Contains-get_or}
use Rattle.corridor_search.proofs.EachLink.{one-more}
use Rattle.corridor_search.proofs.changed.have_tiles.Goals as goal

pub loop-place-preserved : goal.loop-place-preserved
loop-place-preserved c =
    one-more (Contains c.args.written.now) c.args.news.now c.loop-place.place 0 c.loop-place-test.true c.loop-place.invariant
    (subst (Contains c.args.written.now) c.if-written-place-2.false (Contains-get_or c.args.written.now c.loop-place.place 0 c.if-written-place.false))
