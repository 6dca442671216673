use Rattle.std.proofs.Common.{◌≡◌, take}
use Rattle.std.specs.List.{filter_map}
use Rattle.mesh_types.specs.Doors.{link_through}
use Rattle.contour_mesh.proofs.links.loose_links.Given as goal

-- the links through the doors so far
abbrev pub invariant-loop-door : goal.invariant-loop-door
invariant-loop-door l = l.links.items ≡ filter_map (link_through l.tile l.doors) (take l.door-index l.doors)
