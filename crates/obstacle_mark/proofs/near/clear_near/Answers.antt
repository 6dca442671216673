use Rattle.std.proofs.Common.{◌≡◌, ◌∙◌, ap, sym, subst}
use Rattle.std.specs.Prelude.{◌*◌}
use Rattle.nav_ground.specs.Cells.{IsCells}
use Rattle.nav_ground.specs.Clearance.{cells_in}
use Rattle.nav_ground.specs.Tiling.{widened}
use Rattle.nav_ground.proofs.LayerLaws.{cells_in_rules}
use Rattle.obstacle_mark.proofs.near.clear_near.Goals as goal

pub clear_places-requires-clause-cells : goal.clear_places-requires-clause-cells
clear_places-requires-clause-cells c =
    let wide = c.args.layer.now.wide in
    let around = widened c.args.window (2 * c.args.layer.now.radius) in
    let are : c.as_slice-2.result.now ≡ cells_in around wide =
    c.as_slice-2.ensures.value ∙ c.in_ok-near.ensures ∙ ap (cells_in around) (c.as_slice.ensures.value ∙ c.in_ok-wide.ensures) in
    subst IsCells (sym are) (cells_in_rules around wide c.requires.wide)
