use Rattle.std.proofs.Common.{◌≡◌, true, length}
use Rattle.std.specs.List.{AllWithin}
use Rattle.off_links.specs.declared.off_mesh_links.OffMeshLink.{OffMeshLink}
use Rattle.off_links.specs.Slots.{is_taken}
use Rattle.off_links.proofs.off_mesh_links.slots.Given as goal

-- the slots of the polygons that the off-mesh links so far leave are taken
abbrev pub invariant-loop-off_mesh_link : goal.invariant-loop-off_mesh_link
invariant-loop-off_mesh_link l = record {
  count : length l.slots.items ≡ 1024;
  taken : AllWithin (λ (off_mesh_link : OffMeshLink). is_taken l.slots.items off_mesh_link.from ≡ true) l.off_mesh_links 0 l.off_mesh_link-index;
}
