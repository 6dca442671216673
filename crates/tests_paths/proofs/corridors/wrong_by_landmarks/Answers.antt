use Rattle.std.proofs.Common.{sym, subst}
use Rattle.mesh_types.specs.Soundness.{IsSound}
use Rattle.tests_paths.proofs.CorridorMeshes.{IsSound-corridors}
use Rattle.tests_paths.proofs.corridors.wrong_by_landmarks.Goals as goal

pub landmarks_of-requires-clause-sound : goal.landmarks_of-requires-clause-sound
landmarks_of-requires-clause-sound c = subst IsSound (sym c.requires.mesh) IsSound-corridors
