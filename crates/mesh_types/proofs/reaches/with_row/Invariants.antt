use Rattle.std.proofs.Common.{take}
use Rattle.std.specs.Prelude.{All}
use Rattle.mesh_types.specs.Reaches.{IsBetween, IsWithin}
use Rattle.mesh_types.proofs.reaches.with_row.Given as goal

-- the reach holds the first one and the floors so far
abbrev pub invariant-loop-floor : goal.invariant-loop-floor
invariant-loop-floor l = record {
  wider : IsWithin l.fn.reach l.wide;
  there : All (IsBetween l.wide) (take l.floor-index l.floors);
}
