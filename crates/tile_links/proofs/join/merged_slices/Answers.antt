use Rattle.std.proofs.Common.{pos}
use Rattle.mesh_types.specs.declared.links.Link.{Link}
use Rattle.tile_links.proofs.MergedLinks.{one_more_merged}
use Rattle.tile_links.proofs.join.merged_slices.Goals as goal

-- a link of zeros
abbrev blank : Link
blank = record {
  from = record { tile = 0; index = 0 };
  edge = 0;
  to = record { tile = 0; index = 0 };
  portal = record { left = record { x = pos 0; z = pos 0 }; right = record { x = pos 0; z = pos 0 } };
}

pub loop-link-preserved : goal.loop-link-preserved
loop-link-preserved c = record {
  within = c.in_ok-taken.ensures.next;
  gained = one_more_merged c.args.known.now c.args.found.now c.loop-link.links.items c.push_earlier.new.links.items c.push.new.self.items
      c.loop-link.link-index c.loop-link.taken c.in_ok-taken.taken blank c.loop-link-test.true c.loop-link.invariant.gained c.in_ok-taken.ensures.moved
      c.in_ok-push.ensures.items;
}
