-- Why there is no field of a mesh, by why it has no triangles.
use Rattle.mesh_input.specs.Adding.{MeshLists}
use Rattle.mesh_handle.specs.declared.input.MeshAsk.{MeshAsk}
use Rattle.mesh_handle.specs.declared.input.MeshEnd.{MeshEnd}
use Rattle.mesh_handle.specs.declared.input.MeshEnd.TheVariants as ends
use Rattle.mesh_handle.specs.declared.wire.NavdMesh.{NavdMesh}
use Rattle.mesh_handle.specs.Meshes.{CanMesh, EndsMesh, EndsTriangles}

pub ends_of : (mesh : NavdMesh) (lists : MeshLists) (ask : MeshAsk) (end : MeshEnd) → CanMesh mesh lists ask → EndsTriangles ask lists end → EndsMesh mesh lists end
ends_of mesh lists ask ends.OutOfRange can why = absurd why
ends_of mesh lists ask (ends.Faulty faulty) can why = record { ask = ask; can = can; first = why }
ends_of mesh lists ask ends.TooManySpans can why = absurd why
ends_of mesh lists ask ends.NoMemory can why = tt
