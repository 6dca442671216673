use Rattle.std.proofs.Common.{◌≡◌, map, take}
use Rattle.mono_regions.specs.Indices.{strip_at, index_runs}
use Rattle.mono_regions.proofs.region_chains.strips_along.Given as goal

-- the strips so far
abbrev pub invariant-loop-number : goal.invariant-loop-number
invariant-loop-number l = l.strips.items ≡ map (strip_at l.cells) (take l.number (index_runs l.cells))
