use Rattle.std.proofs.Common.{◌∙◌, subst, sym}
use Rattle.std.specs.Prelude.{All}
use Rattle.nav_ground.specs.Grounds.{IsWideWithin}
use Rattle.nav_ground.proofs.LayerLaws.{layers_within}
use Rattle.layer_cut.proofs.FieldCells.{layers_rules_of}
use Rattle.parallel_build.proofs.layers.ground_by.Goals as goal

pub returns-clause-layers : goal.returns-clause-layers
returns-clause-layers g c =
    layers_rules_of c.args.setting c.args.field c.from_vec.result c.requires.setting c.requires.field (c.from_vec.ensures ∙ c.in_ok-layers.ensures)

pub returns-clause-wide : goal.returns-clause-wide
returns-clause-wide g c =
    subst (All (IsWideWithin c.args.setting)) (sym (c.from_vec.ensures ∙ c.in_ok-layers.ensures)) (layers_within c.args.setting c.args.field)
