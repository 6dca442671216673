use Rattle.std.proofs.Common.{rules, sym, subst}
use Rattle.obstacle_mark.specs.Near.{KeepsRadius}
use Rattle.obstacle_mark.proofs.WholeFree.{layer_keeps}
use Rattle.tests_ground.proofs.cuts.clear_layer.Goals as goal

pub returns-clause-kept : goal.returns-clause-kept
returns-clause-kept g c = subst KeepsRadius (sym c.in_ok-layer.ensures.value) (layer_keeps _ _ _ (search rules) (search rules))
