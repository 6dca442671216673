use Rattle.std.proofs.Common.{◌≡◌, take}
use Rattle.nav_ground.specs.Directions.{number}
use Rattle.mono_regions.specs.Seeing.{touched_by}
use Rattle.mono_regions.proofs.touching.touched.Given as goal

-- what the cells so far touch
abbrev pub invariant-loop-at : goal.invariant-loop-at
invariant-loop-at l = l.seen ≡ touched_by l.cells (number l.dir) (take l.at-index l.run)
