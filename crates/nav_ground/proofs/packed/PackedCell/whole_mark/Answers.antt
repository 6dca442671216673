use Rattle.std.proofs.Common.{◌≡◌, List, Option, ℕ, map, ap, subst, ◌∙◌}
use Rattle.std.proofs.lemmas.List.{length-map}
use Rattle.nav_ground.specs.declared.cell.Cell.{Cell}
use Rattle.nav_ground.specs.Levels.{level_of}
use Rattle.nav_ground.specs.Marks.{marked_cell}
use Rattle.nav_ground.specs.Packing.{cell_view}
use Rattle.nav_ground.proofs.MarkLaws.{all_levels}
use Rattle.nav_ground.proofs.packed.PackedCell.whole_mark.Goals as goal

pub returns : goal.returns
returns c =
    subst (λ (cell : Cell). marked_cell (record { area = c.self.inside.area; sides = 15 }) cell ≡ cell) c.self.view_is
    (ap (λ (levels : List (Option ℕ)). record (cell_view c.self.inside) { next = levels })
    (all_levels (map level_of c.self.inside.levels) (length-map c.self.inside.levels level_of ∙ c.self.told)))
