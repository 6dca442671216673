use Rattle.std.proofs.Common.{◌++◌, take, drop, length, subst}
use Rattle.nav_script.specs.declared.script.Script.{Script}
use Rattle.nav_live.specs.LaneLines.{lines_by_lane}
use Rattle.nav_live.specs.MadeActors.{AreMadeActors}
use Rattle.nav_live.specs.Leavings.{EndsAs}
use Rattle.nav_live.proofs.LeftLaws.{HaveRun, all_left, have_left, have_met_full, have_run}
use Rattle.nav_live.proofs.actors.Actors.run.Goals as goal

-- the actors after their threads
ran : (g : _) (c : goal.After-take_all-end g) (script : Script) → AreMadeActors c.args.context.now.lock.now script c.args.self.slots.items
    → HaveRun c.args.context.now.lock.now (lines_by_lane script) (take c.args.self.slots.len (c.run_all.new.slots ++ drop (length c.run_all.new.slots) c.args.self.slots.items))
ran g c script must =
    have_run c.args.context.now.lock.now (lines_by_lane script) c.args.self.slots.len c.args.self.slots.items c.deref_mut.result.now c.run_all.new.slots c.args.self.slots.ok.0
    c.deref_mut.ensures.value c.run_all.auto.slots must.count must.are c.run_all.ensures.same c.run_all.ensures.done

pub returns-clause-all : goal.returns-clause-all
returns-clause-all g c =
    let script = c.requires.made_actors.0 in
    all_left c.args.context.now.lock.now (lines_by_lane script) _ c.take_all-end.new.self.passes.items (ran g c script c.requires.made_actors.1) c.take_all-end.ensures.passes

pub returns-clause-well : goal.returns-clause-well
returns-clause-well g c script must =
    have_left c.args.context.now.lock.now script _ c.take_all-end.new.self c.take_all-end.result (ran g c script must) c.take_all-end.ensures.end
    c.take_all-end.ensures.passes c.take_all-end.ensures.eyes c.take_all-end.ensures.texts

pub returns-clause-full : goal.returns-clause-full
returns-clause-full g c script must is =
    have_met_full c.args.context.now.lock.now script _ c.take_all-end.new.self.passes.items (ran g c script must) (subst (EndsAs _) is c.take_all-end.ensures.end)
    c.take_all-end.ensures.passes
