use Rattle.std.proofs.Common.{◌≡◌, length, ◌∙◌, sym, subst}
use Rattle.std.specs.Prelude.{IfOk}
use Rattle.std.proofs.lemmas.Bool.{eqb-true}
use Rattle.nav_ground.specs.declared.cell.FreeLayer.{FreeLayer}
use Rattle.obstacle_mark.proofs.AllFree.{all_kept_free}
use Rattle.obstacle_mark.proofs.near.kept_layer.Goals as goal

pub returns-then-is_empty : goal.returns-then-is_empty
returns-then-is_empty c =
    subst (λ (free : FreeLayer). IfOk c.all_cells.result (λ made. made ≡ free))
    (all_kept_free c.args.layer.now c.args.shapes.now c.requires.layer.cells.rules c.requires.kept (eqb-true (length c.args.shapes.now) 0 (sym c.is_empty.ensures ∙ c.if-is_empty.true)))
    c.all_cells.ensures
