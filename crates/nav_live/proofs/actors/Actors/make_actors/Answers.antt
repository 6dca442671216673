use Rattle.std.proofs.Common.{◌≡◌, ◌+◌, ◌≤◌, length, drop, [], ◌∷◌, ap, sym, ◌∙◌, refl, subst, arith, length-append, Ok}
use Rattle.std.specs.Vec.Iter.{into_iter_items}
use Rattle.nav_live.specs.MadeActors.{IsNew}
use Rattle.nav_live.proofs.ActorLaws.{IsNext, are_made_actors, drop_one_more, length-lines_by_lane, new_more, next_of_drop, some_left}
use Rattle.nav_live.proofs.actors.Actors.make_actors.Goals as goal
use Rattle.nav_live.proofs.actors.Actors.make_actors.Goals.{then-number-script, else-number-script}

pub new_lane-task-requires-clause-lists : goal.new_lane-task-requires-clause-lists
new_lane-task-requires-clause-lists c =
    let below = c.if-number-script.true in
    some_left c.args.outfit.lists.items (into_iter_items c.loop-number.lists) c.loop-number.number (c.loop-number.invariant.6 (omega (arith, below)))
    (omega (arith, below, ap length c.requires.lists, length-lines_by_lane c.args.script.now))

pub loop-number-preserved : goal.loop-number-preserved
loop-number-preserved c =
    let so_far = c.loop-number.invariant in
    let next : IsNext c.args.passes.items (into_iter_items c.next.new.self) c.loop-number.number c.in-Some.pass =
    next_of_drop c.args.passes.items (into_iter_items c.next.new.self) c.loop-number.number c.in-Some.pass (sym c.in-Some.ensures.cases.0 ∙ so_far.4) in
    let lane : (c.loop-number.number + 1 ≤ c.args.script.now.lanes → into_iter_items c.if-number-script.eyes ≡ drop (c.loop-number.number + 1) c.args.outfit.eyes.items)
    × (c.loop-number.number + 1 ≤ c.args.script.now.lanes → into_iter_items c.if-number-script.lists ≡ drop (c.loop-number.number + 1) c.args.outfit.lists.items)
    × IsNew c.args.outfit.eyes.items c.args.outfit.lists.items c.loop-number.number c.in-Some.pass c.if-number-script.task =
    elim c.if-number-script.branch [
      | then-number-script w ↦
          (let below = w.if-number-script.true in
          let eyes = so_far.5 (omega (arith, below)) in
          let lists = so_far.6 (omega (arith, below)) in (
            λ more. ap into_iter_items w.eyes-is ∙ drop_one_more c.args.outfit.eyes.items (into_iter_items c.loop-number.eyes) _ c.loop-number.number eyes w.new_lane-task.ensures.eyes_left,
            λ more. ap into_iter_items w.lists-is ∙ drop_one_more c.args.outfit.lists.items (into_iter_items c.loop-number.lists) _ c.loop-number.number lists w.new_lane-task.ensures.lists_left,
            subst (IsNew c.args.outfit.eyes.items c.args.outfit.lists.items c.loop-number.number c.in-Some.pass) (sym w.task-is)
                (w.new_lane-task.ensures.new c.args.outfit.eyes.items c.args.outfit.lists.items eyes lists),
          ))
      | else-number-script w ↦
          (let above = w.if-number-script.false in (
            λ more. absurd (omega (arith, more, above)),
            λ more. absurd (omega (arith, more, above)),
            subst (IsNew c.args.outfit.eyes.items c.args.outfit.lists.items c.loop-number.number c.in-Some.pass) (sym w.task-is) (
              omega (arith, above, ap length c.requires.lists, length-lines_by_lane c.args.script.now),
              refl,
              omega (arith, above, ap length c.requires.lists, length-lines_by_lane c.args.script.now),
            ),
          ))
    ] in (
      ap length c.push_reserved.ensures.items ∙ omega (arith, length-append c.loop-number.self.slots.items (record { task = c.if-number-script.task; end = Ok tt } ∷ []), so_far.0),
      c.push_reserved.ensures.capacity ∙ so_far.1,
      so_far.2,
      omega (arith, so_far.3, c.in-Some.ensures.cases.1),
      next.left,
      lane.0,
      lane.1,
      new_more c.args.outfit.eyes.items c.args.outfit.lists.items c.args.passes.items c.loop-number.self.slots.items c.push_reserved.new.self.items c.loop-number.number c.in-Some.pass
          (record { task = c.if-number-script.task; end = Ok tt }) so_far.0 c.push_reserved.ensures.items next.is lane.2 so_far.7,
    )

pub returns-clause-made_actors : goal.returns-clause-made_actors
returns-clause-made_actors c lock can =
    are_made_actors lock c.args.script.now c.args.passes.items c.args.outfit.eyes.items c.args.outfit.lists.items c.loop-number.self.slots.items can c.requires.eyes c.requires.lists
    c.requires.runnable (omega (arith, c.loop-number.invariant.0, c.loop-number-test.false, c.loop-number.auto.number-end)) c.loop-number.invariant.7
