use Rattle.std.proofs.Common.{◌∙◌, ap, subst}
use Rattle.std.specs.Prelude.{IfOk}
use Rattle.nav_ground.specs.declared.history.Ground.{Ground}
use Rattle.build_queue.specs.BookState.{BookState}
use Rattle.nav_live.specs.LiveRecord.{LiveRecord}
use Rattle.nav_live.specs.Roots.{RootView, root_of}
use Rattle.nav_live.proofs.RunLaws.{can_make_actors}
use Rattle.nav_live.proofs.run.run_actors.Goals as goal

pub run-left-requires-clause-made_actors : goal.run-left-requires-clause-made_actors
run-left-requires-clause-made_actors g c κs within = (
  c.args.run.now.script.now,
  c.make_actors.ensures.made_actors c.in-Ok.lock
      (can_make_actors c.in-Ok.lock c.args.run.now.script.now c.in-Ok.passes.items c.args.opened.eyes.items c.args.opened.book c.args.run.now.ground.now c.in-Ok.ensures.fresh
      c.in-Ok.ensures.lock.1 (c.in-Ok.ensures.lock.0 ∙ ap root_of c.new.ensures) (ap (λ (s : BookState). s.ground) c.requires.opened.state) c.requires.opened.eyes),
)

pub end_run-requires-clause-well : goal.end_run-requires-clause-well
end_run-requires-clause-well g c =
    c.run-left.ensures.well c.args.run.now.script.now
    (c.make_actors.ensures.made_actors c.in-Ok.lock
    (can_make_actors c.in-Ok.lock c.args.run.now.script.now c.in-Ok.passes.items c.args.opened.eyes.items c.args.opened.book c.args.run.now.ground.now c.in-Ok.ensures.fresh
    c.in-Ok.ensures.lock.1 (c.in-Ok.ensures.lock.0 ∙ ap root_of c.new.ensures) (ap (λ (s : BookState). s.ground) c.requires.opened.state) c.requires.opened.eyes))

pub end_run-requires-clause-full : goal.end_run-requires-clause-full
end_run-requires-clause-full g c =
    c.run-left.ensures.full c.args.run.now.script.now
    (c.make_actors.ensures.made_actors c.in-Ok.lock
    (can_make_actors c.in-Ok.lock c.args.run.now.script.now c.in-Ok.passes.items c.args.opened.eyes.items c.args.opened.book c.args.run.now.ground.now c.in-Ok.ensures.fresh
    c.in-Ok.ensures.lock.1 (c.in-Ok.ensures.lock.0 ∙ ap root_of c.new.ensures) (ap (λ (s : BookState). s.ground) c.requires.opened.state) c.requires.opened.eyes))

pub returns-in-Ok-clause-text : goal.returns-in-Ok-clause-text
returns-in-Ok-clause-text g c =
    subst (λ (ground : Ground). IfOk c.end_run.result (λ text. LiveRecord ground c.args.run.now.script.now text.items))
    (ap (λ (r : RootView). r.ground) (c.in-Ok.ensures.lock.0 ∙ ap root_of c.new.ensures) ∙ ap (λ (s : BookState). s.ground) c.requires.opened.state)
    c.end_run.ensures.text
