use Rattle.std.proofs.Common.{◌∙◌, ap, length, subst, sym}
use mathlib.Core.List.{IsPrefix}
use Rattle.nav_version.proofs.Beginnings.{IsPrefix-trans}
use Rattle.nav_version.specs.Lists.{ToldView}
use Rattle.nav_live.proofs.Catching.{saw_all}
use Rattle.nav_live.proofs.run.see_all.Goals as goal

pub loop-init : goal.loop-init
loop-init g c = record {
  own = c.learn.ensures.own;
  told = subst (λ (t : ToldView). IsPrefix t.entries c.learn.new.self.seen) c.told.ensures.told c.learn.ensures.told;
}

pub loop-preserved : goal.loop-preserved
loop-preserved g c = record {
  own = IsPrefix-trans _ _ _ c.loop.invariant.own c.in_ok-length.ensures.looked.seen;
  told = IsPrefix-trans _ _ _ c.loop.invariant.told c.in_ok-length.ensures.looked.seen;
}

pub returns-then-length-all-clause-all : goal.returns-then-length-all-clause-all
returns-then-length-all-clause-all g c =
    saw_all _ _ _ _ (IsPrefix-trans _ _ _ c.loop.invariant.told c.in_ok-length.ensures.looked.seen) c.in_ok-length.ensures.length
    (c.published-all.ensures.value ∙ sym c.told.ensures.length ∙ ap (λ (t : ToldView). length t.entries) c.told.ensures.told) c.if-length-all.true
