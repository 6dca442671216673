use Rattle.std.proofs.Common.{◌∙◌, ap, arith, length, sym}
use Rattle.std.specs.Vec.Iter.{into_iter_items}
use Rattle.nav_live.specs.LiveRecord.{lane_lines}
use Rattle.nav_live.proofs.EndLaws.{none_left}
use Rattle.nav_live.proofs.Writing.{lane_written, last_counted, next_counted}
use Rattle.nav_live.proofs.run.write_lanes.Goals as goal

pub loop-told-preserved : goal.loop-told-preserved
loop-told-preserved c = record {
  whole = next_counted _ _ _ c.loop-told.lane c.loop-told.text.items _ lane_lines _ c.in-Some.ensures.cases.0 c.loop-told.invariant.whole
      (lane_written _ _ _ _ _ c.loop-told.lane c.in_ok-write_lane.ensures.ok c.in_ok-extend_from_slice.ensures.items c.as_slice.ensures);
  count = omega (arith, c.loop-told.invariant.count, ap length c.in-Some.ensures.cases.0);
}

pub returns : goal.returns
returns c =
    last_counted (into_iter_items c.loop-told.rest) c.loop-told.lane _ _ lane_lines
    (none_left (into_iter_items c.loop-told.rest) (sym c.loop-told.rest.rest.ok.0 ∙ c.in_default.ensures.cases.0)) c.loop-told.invariant.whole
