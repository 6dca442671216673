use Rattle.std.proofs.Common.{◌≡◌, map, take}
use Rattle.mesh_types.specs.Storeys.{strip_storey}
use Rattle.strip_mesh.specs.Indexed.{runs_in}
use Rattle.strip_mesh.proofs.storeys.storey_list.Given as goal

-- the storeys so far
abbrev pub invariant-loop-strip : goal.invariant-loop-strip
invariant-loop-strip l = l.list.items ≡ map strip_storey (take l.strip (runs_in l.strips))
