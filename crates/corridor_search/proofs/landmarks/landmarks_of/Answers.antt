use Rattle.std.proofs.Common.{◌∙◌}
use Rattle.corridor_search.proofs.Gaps.{no-landmarks}
use Rattle.corridor_search.proofs.landmarks.landmarks_of.Goals as goal

pub returns-in_ok-tiles : goal.returns-in_ok-tiles
returns-in_ok-tiles c = no-landmarks c.args.mesh.now _ (c.in_ok-tiles.ensures ∙ c.new.ensures.items)
