-- The axes of a level's field, and the numbers of the game on them.
use Rattle.std.specs.Prelude.{◌≡◌, ℕ, ◌+◌, ◌^◌, ◌≤◌, ◌<◌, ℤ, pos, ◌+ℤ◌, ◌-ℤ◌, ◌*ℤ◌}
use Rattle.std.specs.Float.{Float}
use Rattle.std.specs.Int.RustNames.{unsigned_abs}
use Rattle.world_grid.specs.declared.frame.Frame.{Frame}
use Rattle.world_grid.specs.Grid.{IsSteps, IsStepOf}
use Rattle.mesh_input.specs.declared.grid.MeshAxis.{MeshAxis}
use Rattle.mesh_input.specs.declared.grid.MeshGrid.{MeshGrid}
use Rattle.mesh_input.specs.declared.grid.AxisPlace.{AxisPlace}

-- an axis in steps of which 2^finer are a size: it begins so many steps from 0 of the game's numbers and has so many numbers
pub record IsAxisOf (size : Float) (finer : ℕ) (begin : ℤ) (last : ℕ) (axis : MeshAxis) : Type 0 where
  pub step : IsStepOf size finer axis.step
  pub fine : IsStepOf size (finer + 8) axis.fine
  pub begins : axis.begin ≡ begin
  pub near : unsigned_abs begin < 2 ^ 23
  pub ends : axis.last ≡ last

-- The axes of a frame's field. A corner may lie as far from the frame's own as the largest field reaches: 1024 cells, and 8190 height units.
pub record IsGridOf (frame : Frame) (grid : MeshGrid) : Type 0 where
  pub x : IsAxisOf frame.cell_size 4 (pos 16 *ℤ frame.x) 16384 grid.x
  pub y : IsAxisOf frame.cell_height 0 frame.y 8190 grid.y
  pub z : IsAxisOf frame.cell_size 4 (pos 16 *ℤ frame.z) 16384 grid.z

-- a float is a number of an axis: so many steps behind its beginning, in the field, and fewer than 2^23 from 0
pub record IsOnAxis (x : Float) (axis : MeshAxis) (n : ℕ) : Type 0 where
  pub steps : IsSteps x axis.step (axis.begin +ℤ pos n)
  pub near : unsigned_abs (axis.begin +ℤ pos n) < 2 ^ 23
  pub inside : n ≤ axis.last

-- a float is some number of an axis
pub record LiesOnAxis (x : Float) (axis : MeshAxis) : Type 0 where
  pub at : ℕ
  pub is : IsOnAxis x axis at

-- two floats are so many fine steps apart, each by the multiple of a fine step that is nearest to it
pub record IsFineChange (from to : Float) (axis : MeshAxis) (change : ℤ) : Type 0 where
  pub begins : ℤ
  pub from_is : IsSteps from axis.fine begins
  pub to_is : IsSteps to axis.fine (begins +ℤ change)

-- a float lies so many fine steps behind the place half a step before the beginning of an axis
pub record IsFineAt (x : Float) (axis : MeshAxis) (fine : ℕ) : Type 0 where
  pub steps : IsSteps x axis.fine (pos 256 *ℤ axis.begin +ℤ pos fine -ℤ pos 128)

-- a float lies at a place of an axis, by its number and on the fine grid
pub record IsPlaceOn (x : Float) (axis : MeshAxis) (place : AxisPlace) : Type 0 where
  pub number : IsOnAxis x axis place.number
  pub fine : IsFineAt x axis place.fine
