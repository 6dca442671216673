use Rattle.std.proofs.Common.{rules, ◌≡◌, length, subst}
use Rattle.crowd_step.specs.Lists.{AreListed}
use Rattle.crowd_step.proofs.ListLaws.{listed_on, more_thoughts}
use Rattle.crowd_step.proofs.intents.lists.Goals as goal

pub loop-i-preserved : goal.loop-i-preserved
loop-i-preserved c =
    let scene = c.args.scene in
    record {
      listed =
          listed_on scene.rules.sight scene.agents.now scene.steering.now c.loop-i.first.items c.loop-i.vectors.items c.loop-i.i c.push_list.new.vectors.items
          c.push-in-loop-i-2.new.self.items c.len.result c.loop-i.invariant.listed c.in_ok-thought.ensures (search rules) c.in_ok-push-3.ensures.items;
      many =
          more_thoughts c.loop-i.thoughts.items c.push-in-loop-i.new.self.items c.in_ok-thought.thought c.loop-i.i c.loop-i.invariant.many
          c.in_ok-push-2.ensures.items;
    }

pub returns-clause-lists : goal.returns-clause-lists
returns-clause-lists c =
    let scene = c.args.scene in
    let all : c.loop-i.i ≡ length scene.agents.now = search rules in
    subst (AreListed scene.rules.sight scene.agents.now scene.steering.now c.loop-i.first.items c.loop-i.vectors.items) all c.loop-i.invariant.listed
