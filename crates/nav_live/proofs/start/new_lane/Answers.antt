use Rattle.std.proofs.Common.{[], sym, ◌∙◌, subst}
use Rattle.nav_live.specs.Lanes.{CanStart}
use Rattle.nav_live.proofs.ActorLaws.{next_of_drop}
use Rattle.nav_live.proofs.start.new_lane.Goals as goal

pub returns-clause-new : goal.returns-clause-new
returns-clause-new c all lines_by_lane eyes lists =
    let eye = next_of_drop all _ c.args.number c.in-Some.eye (sym c.in-Some.ensures.cases.0 ∙ eyes) in
    let list = next_of_drop lines_by_lane _ c.args.number c.in-Some-next.lines (sym c.in-Some-next.ensures.cases.0 ∙ lists) in (
      list.within,
      λ d. record {
        made = c.new.ensures.pass;
        own = sym (list.is []);
        keeps = λ lock can. c.new.ensures.keeps lock (subst (CanStart lock c.args.number c.args.pass) (eye.is d) can);
      },
    )
