use Rattle.std.proofs.Common.{sym, ◌∙◌}
use Rattle.mesh_input.specs.Adding.{lists_of}
use Rattle.mesh_input.proofs.AddLaws.{ok_fit}
use Rattle.mesh_input.proofs.add.add_triangles.Goals as goal

pub returns-else-is_err-clause-rules : goal.returns-else-is_err-clause-rules
returns-else-is_err-clause-rules c =
    ok_fit c.args.grid.now c.args.slope (lists_of c.args.vertices.now c.args.corners.now c.args.areas.now) c.args.tris.now.items c.push_mesh-pushed.new.tris.items
    c.push_mesh-pushed.result (sym c.is_err.ensures.value ∙ c.if-is_err.false) c.push_mesh-pushed.ensures
