use Rattle.std.proofs.Common.{subst, sym}
use Rattle.mesh_types.specs.Soundness.{IsSound}
use Rattle.tests_paths.proofs.PartMeshes.{IsSound-parts}
use Rattle.tests_paths.proofs.parts.found.Goals as goal

pub part-requires-clause-sound : goal.part-requires-clause-sound
part-requires-clause-sound c = subst IsSound (sym c.requires) IsSound-parts
