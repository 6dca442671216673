use Rattle.std.proofs.Common.{ap, arith, length}
use Rattle.nav_live.proofs.Writing.{live_written}
use Rattle.nav_live.proofs.run.write_live.Goals as goal

pub write_entries-requires : goal.write_entries-requires
write_entries-requires c = omega (arith, ap length c.entries.ensures.entries, c.entries.ensures.rules.few)

pub returns : goal.returns
returns c =
    live_written c.args.book.now.state c.args.lanes.items _ _ _ _ _ _ _ _ _ _ c.new-text.ensures.items c.requires.shown c.length.ensures c.length-2.ensures c.entries.ensures.entries
    c.mesh_counts-polygons.ensures.polygons c.mesh_counts-polygons.ensures.links c.in_ok-write_history.ensures.ok c.in_ok-write_entries.ensures
    c.in_ok-write_lanes.ensures c.in_ok-write_final.ensures.ok
