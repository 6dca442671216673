use Rattle.std.proofs.Common.{◌≡◌, true}
use Rattle.std.specs.List.{AllWithin}
use Rattle.off_links.specs.declared.off_mesh_links.OffMeshLink.{OffMeshLink}
use Rattle.off_links.specs.OffMeshLinks.{has_number}
use Rattle.off_links.proofs.off_mesh_links.run_length.Given as goal

-- the off-mesh links so far have the number
abbrev pub invariant-loop-count : goal.invariant-loop-count
invariant-loop-count l = AllWithin (λ (off_mesh_link : OffMeshLink). has_number l.own off_mesh_link ≡ true) l.off_mesh_links 0 l.count
