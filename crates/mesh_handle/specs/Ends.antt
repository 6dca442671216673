-- How a mesh that gives no field ends, over the border.
use Rattle.std.specs.Prelude.{◌≡◌, ℕ}
use Rattle.mesh_input.specs.declared.fault.MeshFault.{MeshFault}
use Rattle.mesh_input.specs.declared.fault.MeshFault.TheVariants as faults
use Rattle.mesh_handle.specs.declared.input.MeshEnd.{MeshEnd}
use Rattle.mesh_handle.specs.declared.input.MeshEnd.TheVariants as ends
use Rattle.mesh_handle.specs.declared.wire.NavdMeshFault.{NavdMeshFault}
use Rattle.mesh_handle.specs.Statuses as status

-- what is wrong with a triangle, as a number
abbrev pub kind_of : MeshFault → ℕ
kind_of faults.NoVertex = 1
kind_of faults.NoNumber = 2
kind_of faults.Outside = 3
kind_of faults.BadArea = 4

-- each end has its status; a triangle that fails is told, and else what stood in its place stays
abbrev pub IsMeshEnd : MeshEnd → NavdMeshFault → NavdMeshFault → ℕ → Type 0
IsMeshEnd ends.OutOfRange old new result = (result ≡ status.out_of_range) × (new ≡ old)
IsMeshEnd (ends.Faulty faulty) old new result = (result ≡ status.faulty) × (new ≡ record { place = faulty.place; kind = kind_of faulty.fault })
IsMeshEnd ends.TooManySpans old new result = (result ≡ status.too_many_spans) × (new ≡ old)
IsMeshEnd ends.NoMemory old new result = (result ≡ status.no_memory) × (new ≡ old)
