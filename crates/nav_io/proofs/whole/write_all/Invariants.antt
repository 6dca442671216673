use Rattle.std.proofs.Common.{◌-◌, length}
use Rattle.nav_io.proofs.Turns.{WritesSoFar}
use Rattle.nav_io.proofs.whole.write_all.Given as goal

abbrev pub invariant-rest : goal.invariant-rest
invariant-rest g l =
    WritesSoFar (g.K.Sink.held l.initial.sink) (g.K.Sink.held l.sink) (g.K.Sink.faults l.initial.sink) (g.K.Sink.faults l.sink) l.bytes l.at

abbrev pub decreases-rest : goal.decreases-rest
decreases-rest g l = length l.bytes - l.at
