use Rattle.std.proofs.Common.{drop, sym, subst, ap, ◌∙◌}
use Rattle.left_right.specs.Sides.{view}
use Rattle.nav_version.specs.VersionRule.{GoesOn}
use Rattle.nav_version.proofs.VersionSteps.{has_shown, publishes_last}
use Rattle.nav_version.proofs.version.shown.Goals as goal

pub publish_as-writer-requires : goal.publish_as-writer-requires
publish_as-writer-requires g c next is =
    publishes_last _ _ c.append.new.self.desk.shown.value c.args.next.1 next (drop c.append.new.self.behind c.append.new.self.log.items)
    (drop c.args.writer.behind c.args.writer.log.items) is c.in-Ok.ensures.pending
    (subst (λ desk. GoesOn desk.shown.value c.args.next.1) (sym c.append.ensures.desk) c.requires.goes_on) c.requires.is

pub returns-in-Ok-published : goal.returns-in-Ok-published
returns-in-Ok-published g c =
    let values = rw c.in-Ok-published.is at c.publish_as-writer.ensures.values in
    let rule = rw c.in-Ok-published.is at c.publish_as-writer.ensures.rule in
    has_shown c.append.new.self.desk.shown.value c.args.next.1 c.publish_as-writer.result.0.desk.shown.value (view c.publish_as-writer.result.0.desk.place)
    (drop c.append.new.self.behind c.append.new.self.log.items) (drop c.args.writer.behind c.args.writer.log.items)
    values.0 c.in-Ok.ensures.pending rule

pub returns-in-Err-published : goal.returns-in-Err-published
returns-in-Err-published g c =
    let values = rw c.in-Err-published.is at c.publish_as-writer.ensures.values in
    let rule = rw c.in-Err-published.is at c.publish_as-writer.ensures.rule in
    (values.0 ∙ ap (λ desk. desk.shown.value) c.append.ensures.desk, rule ∙ ap (λ desk. view desk.place) c.append.ensures.desk)

pub returns-in-Err : goal.returns-in-Err
returns-in-Err g c = (ap (λ desk. desk.shown.value) c.append.ensures.desk, ap (λ desk. view desk.place) c.append.ensures.desk)
