use Rattle.std.proofs.Common.{◌≡◌, map, take}
use Rattle.way_handle.specs.Reading.{turn_of}
use Rattle.way_handle.proofs.reading.turns_of.Given as goal

-- the turns so far
abbrev pub invariant-loop-turn : goal.invariant-loop-turn
invariant-loop-turn l = l.list.items ≡ map turn_of (take l.turn-index l.turns)
