use Rattle.std.proofs.Common.{List, ◌∙◌, sym, subst}
use Rattle.std.specs.Prelude.{All}
use Rattle.std.proofs.lemmas.List.Elements.{All-push}
use Rattle.nav_ground.specs.Cells.{IsCompact}
use Rattle.layer_cut.specs.declared.shared_cells.AgentCells.{AgentCells}
use Rattle.layer_cut.specs.SharedCells.{AreCellsOf}
use Rattle.layer_cut.proofs.SharedCells.{cells_of_alike}
use Rattle.layer_cut.proofs.shared_cells.cells_for.Goals as goal

pub returns-clause-made : goal.returns-clause-made
returns-clause-made c =
    subst (λ (list : List AgentCells). All (AreCellsOf c.args.field.now) list) (sym c.in_ok-push.ensures.items)
    (All-push (AreCellsOf c.args.field.now) c.args.made.now.items _ c.requires.made
    (cells_of_alike c.args.setting.now c.args.field.now _ (c.in_ok-share.ensures ∙ c.in_ok-shared.ensures.ok ∙ c.in_ok-compact.ensures.cells)
    (subst IsCompact (sym (c.in_ok-share.ensures ∙ c.in_ok-shared.ensures.ok)) c.in_ok-compact.ensures.rules)))
