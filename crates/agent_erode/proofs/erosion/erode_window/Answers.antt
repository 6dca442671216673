use Rattle.std.proofs.Common.{◌≡◌, List, length, ap, ◌∙◌, sym, subst}
use Rattle.std.proofs.lemmas.List.{length-map}
use Rattle.std.proofs.lemmas.Result.{IfOk-weaker}
use Rattle.nav_ground.specs.declared.cell.Cell.{Cell}
use Rattle.nav_ground.specs.Cells.{IsCells}
use Rattle.nav_ground.specs.Clearance.{is_kept, kept_cells, cells_in, places_of}
use Rattle.nav_ground.specs.Tiling.{widened}
use Rattle.nav_ground.proofs.LayerLaws.{cells_in_rules}
use Rattle.agent_erode.proofs.WindowLaws.{kept_in_window}
use Rattle.agent_erode.proofs.erosion.erode_window.Goals as goal

pub marks-requires : goal.marks-requires
marks-requires c =
    let are = c.as_slice-cells.ensures.value ∙ c.in_ok-near.ensures ∙ ap (cells_in (widened c.args.window c.args.radius)) c.as_slice.ensures in
    subst IsCells (sym are) (cells_in_rules (widened c.args.window c.args.radius) c.args.compact.now.cells c.requires.rules)

pub places_within-requires : goal.places_within-requires
places_within-requires c =
    ap length (c.as_slice-2.ensures.value ∙ c.in_ok-marks.ensures) ∙ length-map _ (is_kept c.as_slice-cells.result.now c.args.radius)

pub returns : goal.returns
returns c =
    let cells = c.as_slice-cells.result.now in
    let compact = c.args.compact.now.cells in
    let are : cells ≡ cells_in (widened c.args.window c.args.radius) compact =
    c.as_slice-cells.ensures.value ∙ c.in_ok-near.ensures ∙ ap (cells_in (widened c.args.window c.args.radius)) c.as_slice.ensures in
    IfOk-weaker c.places_within.result _ _
    (λ places is. is (is_kept cells c.args.radius) (c.as_slice-2.ensures.value ∙ c.in_ok-marks.ensures)
    ∙ ap (λ (xs : List Cell). places_of (cells_in c.args.window (kept_cells xs c.args.radius))) are
    ∙ ap places_of (kept_in_window c.args.window compact c.args.radius)) c.places_within.ensures
