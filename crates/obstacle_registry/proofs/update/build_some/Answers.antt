use Rattle.std.proofs.Common.{◌≡◌, ◌≤◌, None, ap, sym, ◌∙◌, arith}
use Rattle.build_queue.specs.BookState.{least_claimable}
use Rattle.nav_book.specs.Settling.{after_step, steps_due}
use Rattle.obstacle_registry.specs.Updates.{stepped_up_to}
use Rattle.obstacle_registry.proofs.Updating.{built_more, due_step, idle_step, idle_upto, none_yet, one_more}
use Rattle.obstacle_registry.proofs.update.build_some.Goals as goal

pub loop-built-init : goal.loop-built-init
loop-built-init g c =
    let none = none_yet c.args.level.now in
    record { state = sym none.0; count = none.1; rules = c.requires.rules }

pub returns-in_default-clause-state : goal.returns-in_default-clause-state
returns-in_default-clause-state g c =
    let here : least_claimable c.loop-built.level ≡ None = sym c.in_ok-_tile.ensures.tile ∙ c.in_default.is in
    let none : least_claimable (stepped_up_to c.loop-built.built c.args.level.now) ≡ None = ap least_claimable (sym c.loop-built.invariant.state) ∙ here in
    let few : c.loop-built.built ≤ c.args.most = omega arith in
    c.in_ok-_tile.ensures.stepped ∙ (idle_step c.loop-built.level here).0 ∙ c.loop-built.invariant.state
    ∙ sym (idle_upto c.args.most c.loop-built.built c.args.level.now few none).0

pub returns-in_default-clause-built : goal.returns-in_default-clause-built
returns-in_default-clause-built g c =
    let here : least_claimable c.loop-built.level ≡ None = sym c.in_ok-_tile.ensures.tile ∙ c.in_default.is in
    let none : least_claimable (stepped_up_to c.loop-built.built c.args.level.now) ≡ None = ap least_claimable (sym c.loop-built.invariant.state) ∙ here in
    let few : c.loop-built.built ≤ c.args.most = omega arith in
    sym ((idle_upto c.args.most c.loop-built.built c.args.level.now few none).1 ∙ c.loop-built.invariant.count)

pub loop-built-preserved : goal.loop-built-preserved
loop-built-preserved g c =
    let before = c.loop-built.invariant in
    let due : steps_due (stepped_up_to c.loop-built.built c.args.level.now) ≡ 1 =
    ap steps_due (sym before.state) ∙ due_step c.loop-built.level c.in-Some._tile (sym c.in_ok-_tile.ensures.tile ∙ c.in-Some.is) in
    let more = built_more c.loop-built.built c.args.level.now in
    record {
      state = c.in_ok-_tile.ensures.stepped ∙ ap after_step before.state ∙ sym (one_more c.loop-built.built c.args.level.now);
      count = omega (arith, more, due, before.count);
      rules = c.step.ensures.rules;
    }
