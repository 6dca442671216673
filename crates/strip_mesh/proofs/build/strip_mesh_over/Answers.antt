use Rattle.std.proofs.Common.{List, subst}
use Rattle.nav_ground.specs.declared.cell.Cell.{Cell}
use Rattle.mono_regions.specs.Joining.{IsTableOf}
use Rattle.strip_mesh.proofs.build.strip_mesh_over.Goals as goal

pub strip_mesh_of_table-requires-clause-strips : goal.strip_mesh_of_table-requires-clause-strips
strip_mesh_of_table-requires-clause-strips c =
    subst (λ (cells : List Cell). IsTableOf cells c.in_ok-strips.strips) c.as_slice.ensures c.in_ok-strips.ensures
