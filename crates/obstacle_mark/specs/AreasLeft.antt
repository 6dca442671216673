-- The areas that cells are left with under a list of shapes.
use Rattle.std.specs.Prelude.{◌≡◌, ℕ, ◌≤◌, Bool, if◌then◌else◌, List, Option, Some, None, option_and_then, slice_index_or}
use Rattle.std.specs.List.{list_any}
use Rattle.nav_ground.specs.declared.cell.Cell.{Cell}
use Rattle.nav_ground.specs.declared.cell.CellRef.{CellRef}
use Rattle.nav_ground.specs.declared.shape.Shape.{Shape}
use Rattle.nav_ground.specs.Shapes.{area_set_by}
use Rattle.nav_ground.specs.FreeCells.{is_over, is_same_place, area_under}

-- the area that a cell is left with under a list of shapes; none where it is taken
abbrev pub area_left : (Cell → Bool) → List Shape → Cell → Option ℕ
area_left taken shapes cell = if taken cell then None else Some (area_under shapes cell)

-- each area that is left fits into the number that a stored cell has for it
abbrev pub AreSmall : List (Option ℕ) → Type 0
AreSmall areas = (k area : ℕ) → slice_index_or areas k None ≡ Some area → area ≤ 255

-- what a cell is left with once one more shape comes, from what it was left with before
abbrev pub area_after : Shape → Cell → Option ℕ → Option ℕ
area_after shape cell before = option_and_then (λ area. if is_over cell shape then area_set_by shape else Some area) before

-- and once cells are taken whose place is not among the clear ones
abbrev pub area_clear : List CellRef → Cell → Option ℕ → Option ℕ
area_clear clear cell before = if list_any (is_same_place cell.at) clear then before else None
