use Rattle.std.proofs.Common.{subst, sym}
use Rattle.mesh_types.specs.Passages.{IsTwoWay}
use Rattle.mesh_types.specs.Soundness.{IsSound}
use Rattle.path_queries.proofs.CostLaws.{sound-with}
use Rattle.nav_handle.proofs.TwoWayViews.{two_way_with}
use Rattle.nav_handle.proofs.view.with_costs.Goals as goal

pub returns-clause-sound : goal.returns-clause-sound
returns-clause-sound c = sound-with c.in_ok-made.made c.args.costs (subst IsSound (sym c.in_ok-made.ensures) c.requires.sound)

pub returns-clause-two_way : goal.returns-clause-two_way
returns-clause-two_way c = two_way_with c.in_ok-made.made c.args.costs (subst IsTwoWay (sym c.in_ok-made.ensures) c.requires.two_way)
