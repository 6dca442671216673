use Rattle.std.proofs.Common.{◌+◌, ◌-◌, vec_len}
use Rattle.nav_io.proofs.Turns.{ReadsSoFar}
use Rattle.nav_io.proofs.whole.read_all.Given as goal

abbrev pub invariant-pieces : goal.invariant-pieces
invariant-pieces g l =
    ReadsSoFar (g.S.Source.left l.initial.source) (g.S.Source.left l.source) (g.S.Source.faults l.initial.source) (g.S.Source.faults l.source) l.bytes.items l.most

abbrev pub decreases-pieces : goal.decreases-pieces
decreases-pieces g l = l.most + 1 - vec_len l.bytes
