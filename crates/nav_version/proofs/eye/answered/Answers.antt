use Rattle.std.proofs.Common.{subst, sym}
use Rattle.nav_ground.specs.Limits.{IsSetting}
use Rattle.mesh_types.specs.declared.mesh.Mesh.{Mesh}
use Rattle.nav_version.specs.Versions.{IsVersion}
use Rattle.nav_version.proofs.PatchLaws.{IsSetting-of_version}
use Rattle.nav_version.proofs.eye.answered.Goals as goal

pub ask-requires-clause-setting : goal.ask-requires-clause-setting
ask-requires-clause-setting g c =
    subst (λ (mesh : Mesh). IsSetting mesh.setting) (sym c.get-2.ensures)
    (IsSetting-of_version c.get.result.now (subst IsVersion (sym c.get.ensures) c.requires.shown.rules))
