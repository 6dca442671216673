use Rattle.std.proofs.Common.{[]}
use Rattle.std.specs.List.{flat_map, range_with_len}
use Rattle.mesh_types.specs.StripLinks.{strip_links_over}
use Rattle.strip_mesh.specs.Indexed.{runs_in}
use Rattle.strip_mesh.proofs.Steps.{one_more_gathered}
use Rattle.strip_mesh.proofs.inner.links.Goals as goal

pub loop-strip-preserved : goal.loop-strip-preserved
loop-strip-preserved c =
    one_more_gathered (λ s. flat_map (strip_links_over c.args.strips.now.free.tile (runs_in c.args.strips.now) s) (range_with_len 0 4)) c.loop-strip.strip []
    c.loop-strip.links.items c.push_links.new.links.items c.loop-strip.invariant c.in_ok-push_links.ensures
