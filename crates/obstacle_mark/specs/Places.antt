-- The places of taken cells, and the neighbours that cells keep beside them.
use Rattle.std.specs.Prelude.{ℕ, ◌<◌, ◌≤◌, All, Bool, if◌then◌else◌, List, [], ◌∷◌, map, filter, Option, None}
use Rattle.std.specs.List.{list_any}
use Rattle.nav_ground.specs.declared.cell.Cell.{Cell}
use Rattle.nav_ground.specs.declared.cell.CellRef.{CellRef}
use Rattle.nav_ground.specs.Cells.{is_naming, next_level}
use Rattle.cell_table.specs.Columns.{column_of, column_toward, is_at}
use Rattle.obstacle_mark.specs.declared.places.PassedPlaces.{PassedPlaces}
use Rattle.obstacle_mark.specs.Columns.{IsPassed, LiesApart}

-- the places of the cells that are taken, in order
abbrev pub places_taken : (Cell → Bool) → List Cell → List CellRef
places_taken taken cells = map (λ (cell : Cell). cell.at) (filter taken cells)

-- one of the places has a column and a level
abbrev pub is_there : ℕ → ℕ → List CellRef → Bool
is_there column level places = list_any (is_at column level) places

-- the level that a cell names in a direction, unless that neighbour is one of the taken places
abbrev pub level_kept : List CellRef → Cell → ℕ → Option ℕ
level_kept taken cell dir = if list_any (λ (at : CellRef). is_naming dir cell at) taken then None else next_level cell dir

-- the same for each direction
abbrev pub next_kept : List CellRef → Cell → List (Option ℕ)
next_kept blocked cell = level_kept blocked cell 0 ∷ level_kept blocked cell 1 ∷ level_kept blocked cell 2 ∷ level_kept blocked cell 3 ∷ []

-- in each direction, as many blocked places as said lie in columns before the neighbouring one; and from the own column on before a later one,
-- no column has a blocked place in one of the four columns beside it
pub record ArePassed (blocked : List CellRef) (passed : PassedPlaces) (at : CellRef) : Type 0 where
  pub left : IsPassed blocked passed.left (column_toward 0 at)
  pub above : IsPassed blocked passed.above (column_toward 1 at)
  pub right : IsPassed blocked passed.right (column_toward 2 at)
  pub below : IsPassed blocked passed.below (column_toward 3 at)
  pub clear : (column : ℕ) → column_of at ≤ column → column < passed.clear_before → All (LiesApart column) blocked
