use Rattle.std.proofs.Common.{[]}
use Rattle.std.specs.List.{flat_map, range_with_len}
use Rattle.mesh_types.specs.StripRim.{strip_rim_over}
use Rattle.strip_mesh.specs.Indexed.{runs_in}
use Rattle.strip_mesh.proofs.Steps.{one_more_gathered}
use Rattle.strip_mesh.proofs.rim.rim.Goals as goal

pub loop-strip-preserved : goal.loop-strip-preserved
loop-strip-preserved c =
    one_more_gathered (λ s. flat_map (strip_rim_over c.args.window.now (runs_in c.args.strips.now) s) (range_with_len 0 4)) c.loop-strip.strip []
    c.loop-strip.rim.items c.push_rim.new.rim.items c.loop-strip.invariant c.in_ok-push_rim.ensures
