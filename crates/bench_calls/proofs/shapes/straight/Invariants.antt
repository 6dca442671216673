-- The portals so far stand in a row up to the next column.
use Rattle.std.proofs.Common.{◌≡◌, ◌*◌, pos, negsuc, ◌-ℤ◌, length}
use Rattle.bench_calls.specs.Rows.{IsRow}
use Rattle.bench_calls.proofs.shapes.straight.Given as goal

abbrev pub invariant-loop-place : goal.invariant-loop-place
invariant-loop-place l = (length l.portals.items ≡ l.place) × IsRow (negsuc 65535) (pos (16 * l.place) -ℤ pos 65536) l.portals.items
