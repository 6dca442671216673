-- The portals so far stand in a row up to the corner of the wall.
use Rattle.bench_calls.proofs.Walls.{IsWall}
use Rattle.bench_calls.proofs.shapes.turn.Given as goal

abbrev pub invariant-loop : goal.invariant-loop
invariant-loop l = IsWall l.portals.items l.counter l.before l.slope l.across l.high
