use Rattle.std.proofs.Common.{rules}
use Rattle.strip_mesh.proofs.inner.edge_portal.Goals as goal

pub returns-in-0 : goal.returns-in-0
returns-in-0 c = search rules
