use Rattle.std.proofs.Common.{◌≡◌, map, take}
use Rattle.mono_regions.specs.Indices.{level_at}
use Rattle.mono_regions.proofs.region_chains.levels.Given as goal

-- the levels of the cells so far
abbrev pub invariant-loop-at : goal.invariant-loop-at
invariant-loop-at l = l.levels.items ≡ map (level_at l.cells) (take l.at-index l.run)
