use Rattle.std.proofs.Common.{◌<◌, length, arith}
use Rattle.agent_kinds.proofs.Built.{IsBuilt, are_built, refused_builds}
use Rattle.agent_kinds.proofs.Turns.{all_turned, one_more}
use Rattle.agent_kinds.proofs.builds.build_all.Goals as goal

pub returns-in_err-build_level-clause-same : goal.returns-in_err-build_level-clause-same
returns-in_err-build_level-clause-same g c =
    let there : c.loop-level.level-index < length c.loop-level.levels = omega (arith, c.loop-level-test.true, c.loop-level.auto.levels) in
    (refused_builds c.loop-level.level-index c.args.levels.now c.loop-level.levels c.level-item.result c.build_level.new.level c.requires.kinds
    c.loop-level.invariant there c.build_level.ensures.same c.build_level.ensures.rules_after).shown

pub returns-in_err-build_level-clause-rules : goal.returns-in_err-build_level-clause-rules
returns-in_err-build_level-clause-rules g c =
    let there : c.loop-level.level-index < length c.loop-level.levels = omega (arith, c.loop-level-test.true, c.loop-level.auto.levels) in
    (refused_builds c.loop-level.level-index c.args.levels.now c.loop-level.levels c.level-item.result c.build_level.new.level c.requires.kinds
    c.loop-level.invariant there c.build_level.ensures.same c.build_level.ensures.rules_after).kinds

pub loop-level-preserved : goal.loop-level-preserved
loop-level-preserved g c =
    let there : c.loop-level.level-index < length c.loop-level.levels = omega (arith, c.loop-level-test.true, c.loop-level.auto.levels) in
    one_more IsBuilt c.loop-level.level-index c.args.levels.now c.loop-level.levels c.loop-level.invariant c.level-item.result c.build_level.new.level there
    (record {
      state = c.in_ok-build_level.ensures.built;
      none = c.in_ok-build_level.ensures.none;
      part = record { shown = c.build_level.ensures.same; rules = c.build_level.ensures.rules_after };
    })

pub returns-clause-built : goal.returns-clause-built
returns-clause-built g c =
    (are_built c.args.levels.now c.loop-level.levels c.requires.kinds
    (all_turned IsBuilt c.loop-level.level-index c.args.levels.now c.loop-level.levels c.loop-level.invariant c.loop-level-test.false)).built

pub returns-clause-none : goal.returns-clause-none
returns-clause-none g c =
    (are_built c.args.levels.now c.loop-level.levels c.requires.kinds
    (all_turned IsBuilt c.loop-level.level-index c.args.levels.now c.loop-level.levels c.loop-level.invariant c.loop-level-test.false)).none

pub returns-clause-same : goal.returns-clause-same
returns-clause-same g c =
    (are_built c.args.levels.now c.loop-level.levels c.requires.kinds
    (all_turned IsBuilt c.loop-level.level-index c.args.levels.now c.loop-level.levels c.loop-level.invariant c.loop-level-test.false)).part.shown

pub returns-clause-rules : goal.returns-clause-rules
returns-clause-rules g c =
    (are_built c.args.levels.now c.loop-level.levels c.requires.kinds
    (all_turned IsBuilt c.loop-level.level-index c.args.levels.now c.loop-level.levels c.loop-level.invariant c.loop-level-test.false)).part.kinds
