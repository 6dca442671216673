-- Places of the game in a frame.
use Rattle.std.specs.Prelude.{◌≡◌, ◌^◌, ◌<◌, ℤ, pos, ◌+ℤ◌, ◌*ℤ◌}
use Rattle.std.specs.Float.{Float}
use Rattle.std.specs.Int.RustNames.{unsigned_abs}
use Rattle.world_grid.specs.declared.grid_step.GridStep.{GridStep}
use Rattle.world_grid.specs.declared.frame.Frame.{Frame}
use Rattle.world_grid.specs.declared.frame.WorldPoint.{WorldPoint}
use Rattle.world_grid.specs.declared.place.FramePlace.{FramePlace}
use Rattle.world_grid.specs.Grid.{IsSteps, IsStepOf, told_of}

-- a float is n steps behind a number of them; both are fewer than 2^23 steps from 0
pub record IsOffset (x : Float) (step : GridStep) (from n : ℤ) : Type 0 where
  pub begins : unsigned_abs from < 2 ^ 23
  pub is : IsSteps x step (from +ℤ n)
  pub near : unsigned_abs (from +ℤ n) < 2 ^ 23

-- a point of the game lies at a place of a frame: x and z in sixteenths of a cell from its corner, y in height units
pub record IsPlaceOf (frame : Frame) (at : WorldPoint) (place : FramePlace) : Type 0 where
  pub cell : GridStep
  pub is_cell : IsStepOf frame.cell_size 4 cell
  pub unit : GridStep
  pub is_unit : IsStepOf frame.cell_height 0 unit
  pub across : IsOffset at.x cell (pos 16 *ℤ frame.x) place.x
  pub up : IsOffset at.y unit frame.y place.y
  pub along : IsOffset at.z cell (pos 16 *ℤ frame.z) place.z

-- the numbers of a point are the floats nearest to those of a place
pub record IsToldAt (frame : Frame) (place : FramePlace) (at : WorldPoint) : Type 0 where
  pub cell : GridStep
  pub is_cell : IsStepOf frame.cell_size 4 cell
  pub unit : GridStep
  pub is_unit : IsStepOf frame.cell_height 0 unit
  pub across : at.x ≡ told_of (pos 16 *ℤ frame.x +ℤ place.x) cell
  pub up : at.y ≡ told_of (frame.y +ℤ place.y) unit
  pub along : at.z ≡ told_of (pos 16 *ℤ frame.z +ℤ place.z) cell
