use Rattle.std.proofs.Common.{◌≡◌, map, take}
use Rattle.mesh_types.specs.Storeys.{region_storey}
use Rattle.contour_mesh.proofs.storeys.storey_list.Given as goal

-- the storeys of the regions so far
abbrev pub invariant-loop-region : goal.invariant-loop-region
invariant-loop-region l = l.list.items ≡ map (region_storey l.source.cells.now) (take l.region-index l.regions)
