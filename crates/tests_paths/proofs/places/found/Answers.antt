use Rattle.std.proofs.Common.{subst, sym}
use Rattle.mesh_types.specs.Soundness.{IsSound}
use Rattle.tests_paths.proofs.PlaceMeshes.{IsSound-places}
use Rattle.tests_paths.proofs.places.found.Goals as goal

pub locate-requires-clause-sound : goal.locate-requires-clause-sound
locate-requires-clause-sound c = subst IsSound (sym c.requires) IsSound-places
