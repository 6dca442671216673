-- Places: the tiles along one axis whose closed squares reach a coordinate.
use Rattle.std.specs.Prelude.{ℕ, ◌+◌, ◌*◌, ◌<◌, ◌≤◌, ℤ, pos, ◌≤ℤ◌}
use Rattle.mesh_locate.specs.declared.nearest.AxisTiles.{AxisTiles}

-- the tile at a place along one axis reaches a coordinate: it lies on the tile's side, or at one of its two ends
pub record Reaches (side place : ℕ) (at : ℤ) : Type 0 where
  pub begins : pos (side * place) ≤ℤ at
  pub ends : at ≤ℤ pos (side * (place + 1))

-- a place is one of some successive ones
pub record IsOneOf (places : AxisTiles) (place : ℕ) : Type 0 where
  pub first : places.first ≤ place
  pub end : place < places.end
