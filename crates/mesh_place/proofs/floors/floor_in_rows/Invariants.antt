use Rattle.mesh_place.specs.Floors.{IsFloorToward}
use Rattle.mesh_place.proofs.floors.floor_in_rows.Given as goal

-- the floor of the rows so far
abbrev pub invariant-loop-row : goal.invariant-loop-row
invariant-loop-row l = IsFloorToward l.storey l.aim l.first l.row l.best
