use Rattle.std.proofs.Common.{sym, ap, subst, ◌∙◌}
use Rattle.nav_ground.specs.declared.cell.FreeLayer.{FreeLayer}
use Rattle.nav_ground.specs.declared.cell.Layer.{Layer}
use Rattle.nav_ground.specs.Clearance.{places_of}
use Rattle.nav_ground.specs.Cells.{IsCut}
use Rattle.nav_ground.specs.FreeCells.{free_layer_of}
use Rattle.nav_ground.proofs.FreeLayers.{free_layer_cut}
use Rattle.obstacle_mark.proofs.WholeFree.{free_of_whole}
use Rattle.obstacle_mark.proofs.near.mark_kept.Goals as goal

pub returns-clause-rules : goal.returns-clause-rules
returns-clause-rules c =
    subst IsCut (sym (ap (λ (free : FreeLayer). free.cells) c.in_ok-free.ensures))
    (free_layer_cut c.args.layer.now c.args.shapes.now c.requires.layer.cells c.requires.shapes)

pub returns-clause-whole : goal.returns-clause-whole
returns-clause-whole c = λ setting field limits rules' is.
    let shapes = c.args.shapes.now in
    ap (λ (free : FreeLayer). places_of free.cells) c.in_ok-free.ensures
    ∙ ap (λ (layer : Layer). places_of (free_layer_of layer shapes).cells) is
    ∙ free_of_whole setting field c.args.layer.now.tile shapes limits rules'
