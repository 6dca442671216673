use Rattle.std.proofs.Common.{take}
use Rattle.tri_raster.proofs.GroupLaws.{HasArea}
use Rattle.tri_raster.proofs.group.area_of.Given as goal

-- the greatest area so far
abbrev pub invariant-loop-shadow : goal.invariant-loop-shadow
invariant-loop-shadow l = HasArea l.climb l.top (take l.shadow-index l.group) l.area
