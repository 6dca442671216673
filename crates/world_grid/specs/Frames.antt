-- Frames: where a level's field lies among the game's numbers.
use Rattle.std.specs.Prelude.{◌≡◌, ℕ, ◌*◌, ◌^◌, ◌≤◌, ◌<◌, ℤ, pos, ◌+ℤ◌, ◌*ℤ◌, ◌≤ℤ◌}
use Rattle.std.specs.Float.{Float}
use Rattle.std.specs.Int.RustNames.{unsigned_abs}
use Rattle.world_grid.specs.declared.grid_step.GridStep.{GridStep}
use Rattle.world_grid.specs.declared.frame.FramedField.{FramedField}
use Rattle.world_grid.specs.declared.frame.Stretch.{Stretch}
use Rattle.world_grid.specs.declared.frame.WorldPoint.{WorldPoint}
use Rattle.world_grid.specs.Grid.{IsSteps, IsStepOf}

-- The columns from one number of sixteenths to another: the first begins `part` sixteenths before the lower end and `rest` before the upper
-- one; they are the fewest that reach the upper end, but one at least, and 1024 at most.
pub record IsStretch (low high : ℤ) (stretch : Stretch) : Type 0 where
  pub part : ℕ
  pub rest : ℕ
  pub low_is : low ≡ pos 16 *ℤ stretch.first +ℤ pos part
  pub high_is : high ≡ pos 16 *ℤ stretch.first +ℤ pos rest
  pub first : part < 16
  pub order : part ≤ rest
  pub reaches : rest ≤ 16 * stretch.count
  pub some : 1 ≤ stretch.count
  pub fewest : (fewer : ℕ) → 1 ≤ fewer → rest ≤ 16 * fewer → stretch.count ≤ fewer
  pub most : stretch.count ≤ 1024

-- both ends are fewer than 2^23 steps from 0
pub record AreSteps (low high : Float) (step : GridStep) (from to : ℤ) : Type 0 where
  pub low_is : IsSteps low step from
  pub low_near : unsigned_abs from < 2 ^ 23
  pub high_is : IsSteps high step to
  pub high_near : unsigned_abs to < 2 ^ 23

-- the columns from one float to another
pub record IsStretchBetween (low high : Float) (cell : GridStep) (stretch : Stretch) : Type 0 where
  pub from : ℤ
  pub to : ℤ
  pub ends : AreSteps low high cell from to
  pub is : IsStretch from to stretch

-- a height lies no lower than another one and 8190 units above it at most
pub record IsWithinHeight (low high : ℤ) : Type 0 where
  pub order : low ≤ℤ high
  pub within : high ≤ℤ (low +ℤ pos 8190)

-- the height of the lower float, where a field that begins there has the higher one in it
pub record IsFloorOf (low high : Float) (unit : GridStep) (y : ℤ) : Type 0 where
  pub to : ℤ
  pub ends : AreSteps low high unit y to
  pub is : IsWithinHeight y to

-- a frame's field holds two places, in its sizes: it begins at the last whole cell that is not behind the lower one, and at its height
pub record IsFieldOf (cell_size cell_height : Float) (low high : WorldPoint) (field : FramedField) : Type 0 where
  pub size : field.frame.cell_size ≡ cell_size
  pub height : field.frame.cell_height ≡ cell_height
  pub cell : GridStep
  pub is_cell : IsStepOf cell_size 4 cell
  pub unit : GridStep
  pub is_unit : IsStepOf cell_height 0 unit
  pub across : IsStretchBetween low.x high.x cell (record { first = field.frame.x; count = field.width })
  pub along : IsStretchBetween low.z high.z cell (record { first = field.frame.z; count = field.depth })
  pub floor : IsFloorOf low.y high.y unit field.frame.y
