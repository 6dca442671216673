use Rattle.std.proofs.Common.{refl}
use Rattle.corridor_search.proofs.LeftAlone.{all-alone}
use Rattle.corridor_search.proofs.islands.is_left_alone.Goals as goal

pub returns-then-are_inner_alone : goal.returns-then-are_inner_alone
returns-then-are_inner_alone c outer = all-alone c.args.mesh.now c.args.island.now (c.if-are_inner_alone.ensures refl) (c.are_outer_alone.ensures outer)
