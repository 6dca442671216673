use Rattle.shortest_line.proofs.WalkLaws.{inner_link, outer_link}
use Rattle.shortest_line.proofs.walks.is_link_of.Goals as goal

pub returns-then-is_among : goal.returns-then-is_among
returns-then-is_among c = λ yes. inner_link c.args.mesh.now c.args.link.now c.inner.result.now c.requires c.inner.ensures (c.is_among.ensures yes)

pub returns-else-is_among : goal.returns-else-is_among
returns-else-is_among c = λ yes. outer_link c.args.mesh.now c.args.link.now c.outer.result.now c.requires c.outer.ensures (c.is_among-else-is_among.ensures yes)
