use Rattle.std.proofs.Common.{◌≡◌, List, length, ap, ◌∙◌, sym, subst}
use Rattle.std.proofs.lemmas.List.{length-map}
use Rattle.std.proofs.lemmas.Result.{IfOk-weaker}
use Rattle.nav_ground.specs.declared.cell.Cell.{Cell}
use Rattle.nav_ground.specs.Cells.{IsCells}
use Rattle.nav_ground.specs.Clearance.{is_kept, kept_cells, marked, cells_in, places_of}
use Rattle.agent_erode.proofs.Marked.{marked_rules}
use Rattle.agent_erode.proofs.erosion.kept.Goals as goal

pub marks-requires : goal.marks-requires
marks-requires c =
    subst IsCells (sym (c.as_slice-cells.ensures.value ∙ c.in_ok-chosen.ensures)) (marked_rules c.args.wide.now c.args.uncovered.now c.requires.cells)

pub places_within-requires : goal.places_within-requires
places_within-requires c =
    ap length (c.as_slice.ensures.value ∙ c.in_ok-marks.ensures) ∙ length-map _ (is_kept c.as_slice-cells.result.now c.args.radius)

pub returns : goal.returns
returns c =
    let cells = c.as_slice-cells.result.now in
    let are : cells ≡ marked c.args.wide.now c.args.uncovered.now = c.as_slice-cells.ensures.value ∙ c.in_ok-chosen.ensures in
    IfOk-weaker c.places_within.result _ _
    (λ places is. is (is_kept cells c.args.radius) (c.as_slice.ensures.value ∙ c.in_ok-marks.ensures)
    ∙ ap (λ (xs : List Cell). places_of (cells_in c.args.window (kept_cells xs c.args.radius))) are) c.places_within.ensures
