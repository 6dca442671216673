use Rattle.std.proofs.Common.{List, length, ap, ◌∙◌, sym, subst}
use Rattle.std.proofs.lemmas.List.{length-map}
use Rattle.std.proofs.lemmas.Result.{IfOk-weaker}
use Rattle.nav_ground.specs.declared.cell.Cell.{Cell}
use Rattle.nav_ground.specs.Cells.{IsCells}
use Rattle.nav_ground.specs.Clearance.{is_kept, kept_cells, places_of}
use Rattle.agent_erode.proofs.erosion.erode.Goals as goal

pub marks-requires : goal.marks-requires
marks-requires c = subst IsCells (sym c.as_slice-cells.ensures) c.requires.rules

pub places_marked-requires : goal.places_marked-requires
places_marked-requires c =
    ap length (c.as_slice.ensures.value ∙ c.in_ok-marks.ensures) ∙ length-map _ (is_kept c.as_slice-cells.result.now c.args.radius)

pub returns : goal.returns
returns c =
    let cells = c.as_slice-cells.result.now in
    IfOk-weaker c.places_marked.result _ _
    (λ places are. are (is_kept cells c.args.radius) (c.as_slice.ensures.value ∙ c.in_ok-marks.ensures)
    ∙ ap (λ (xs : List Cell). places_of (kept_cells xs c.args.radius)) c.as_slice-cells.ensures) c.places_marked.ensures
