use Rattle.std.proofs.Common.{◌≡◌, ◌+◌, ◌++◌, length}
use Rattle.std.specs.List.{enumerate_from, flat_map}
use Rattle.std.specs.Vec.Iter.{into_iter_items, into_iter_len}
use Rattle.nav_live.specs.LiveRecord.{lane_lines}
use Rattle.nav_live.proofs.run.write_lanes.Given as goal

-- what is written so far and the lines of the lanes left are the whole; so many lanes were written
abbrev pub invariant-loop-told : goal.invariant-loop-told
invariant-loop-told l = record {
  whole : l.text.items ++ flat_map lane_lines (enumerate_from l.lane (into_iter_items l.rest)) ≡ l.fn.text.items ++ flat_map lane_lines (enumerate_from 0 l.fn.lanes.items);
  count : l.lane + length (into_iter_items l.rest) ≡ length l.fn.lanes.items;
}

abbrev pub decreases-loop-told : goal.decreases-loop-told
decreases-loop-told l = into_iter_len l.rest
