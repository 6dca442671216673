use Rattle.std.proofs.Common.{length}
use Rattle.nav_script.proofs.ReaderLaws.{Keeps}
use Rattle.nav_script.proofs.reader.read_lines.Given as goal

abbrev pub invariant-loop-line : goal.invariant-loop-line
invariant-loop-line l = Keeps l.way l.header.lanes l.header.workers l.first_line l.text l.rest l.progress

abbrev pub decreases-loop-line : goal.decreases-loop-line
decreases-loop-line l = length l.rest
