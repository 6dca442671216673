use Rattle.std.proofs.Common.{◌≡◌, length, sym, subst}
use Rattle.std.specs.Prelude.{IfOk}
use Rattle.std.proofs.lemmas.Bool.{eqb-true}
use Rattle.nav_ground.specs.declared.cell.FreeLayer.{FreeLayer}
use Rattle.obstacle_mark.proofs.AllFree.{all_free}
use Rattle.obstacle_mark.proofs.free.free_layer.Goals as goal

pub returns-then-layer-eq0 : goal.returns-then-layer-eq0
returns-then-layer-eq0 c =
    subst (λ (free : FreeLayer). IfOk c.all_cells.result (λ made. made ≡ free))
    (all_free c.args.layer.now c.args.shapes.now c.requires.layer.cells.rules c.if-layer-eq0.true (eqb-true (length c.args.shapes.now) 0 (sym c.if-is_empty.ensures)))
    c.all_cells.ensures
