use Rattle.std.proofs.Common.{IfSome, arith, sym, subst}
use Rattle.std.specs.Option.{option_copied}
use Rattle.nav_ground.specs.Limits.{IsSetting}
use Rattle.mesh_types.specs.declared.mesh.Mesh.{Mesh}
use Rattle.mesh_types.specs.Soundness.{IsSound}
use Rattle.corridor_search.specs.MeshGraphs.{IsThere}
use Rattle.corridor_search.specs.Landmarks.{AreLandmarks}
use Rattle.tests_mesh.proofs.HandSettings.{IsSetting-costly}
use Rattle.tests_paths.specs.CorridorMesh.{hand_mesh}
use Rattle.tests_paths.proofs.CorridorMeshes.{IsSound-corridors, hand-there}
use Rattle.tests_paths.proofs.corridors.corridor.Goals as goal

pub cheapest_by-requires-clause-sound : goal.cheapest_by-requires-clause-sound
cheapest_by-requires-clause-sound c = subst IsSound (sym c.requires.mesh) IsSound-corridors

pub cheapest_by-requires-clause-setting : goal.cheapest_by-requires-clause-setting
cheapest_by-requires-clause-setting c = subst (λ (mesh : Mesh). IsSetting mesh.setting) (sym c.requires.mesh) IsSetting-costly

pub cheapest_by-requires-clause-from : goal.cheapest_by-requires-clause-from
cheapest_by-requires-clause-from c =
    subst (λ (mesh : Mesh). IsThere mesh c.at.result) (sym c.requires.mesh)
    (subst (IsThere hand_mesh) (sym c.at.ensures) (hand-there c.args.from.0 c.args.from.1 (omega arith) (omega arith)))

pub cheapest_by-requires-clause-to : goal.cheapest_by-requires-clause-to
cheapest_by-requires-clause-to c =
    subst (λ (mesh : Mesh). IsThere mesh c.at-then-to-lt2-2.result) (sym c.requires.mesh)
    (subst (IsThere hand_mesh) (sym c.at-then-to-lt2-2.ensures) (hand-there c.args.to.0 c.args.to.1 (omega arith) (omega arith)))

pub cheapest_by-requires-clause-landmarks : goal.cheapest_by-requires-clause-landmarks
cheapest_by-requires-clause-landmarks c =
    subst (λ (mesh : Mesh). IfSome (option_copied c.args.landmarks) (AreLandmarks mesh)) (sym c.requires.mesh) c.requires.landmarks
