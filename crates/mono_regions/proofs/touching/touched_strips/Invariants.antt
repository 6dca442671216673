use Rattle.std.proofs.Common.{◌≡◌, map}
use Rattle.std.specs.List.{range_with_len}
use Rattle.nav_ground.specs.Directions.{number}
use Rattle.mono_regions.specs.Joining.{touched_from}
use Rattle.mono_regions.proofs.touching.touched_strips.Given as goal

-- what the strips so far touch
abbrev pub invariant-loop-number : goal.invariant-loop-number
invariant-loop-number l = l.seen.items ≡ map (touched_from l.cells (number l.dir)) (range_with_len 0 l.number)
