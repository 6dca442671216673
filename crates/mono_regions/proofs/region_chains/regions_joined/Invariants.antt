use Rattle.std.proofs.Common.{◌≡◌, map}
use Rattle.mono_regions.proofs.Gathered.{begins_below, region_at}
use Rattle.mono_regions.proofs.region_chains.regions_joined.Given as goal

-- the regions that begin at the strips so far
abbrev pub invariant-loop-first : goal.invariant-loop-first
invariant-loop-first l = l.regions.items ≡ map (region_at l.cells) (begins_below l.cells l.first)
