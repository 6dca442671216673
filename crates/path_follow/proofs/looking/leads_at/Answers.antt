use Rattle.path_follow.proofs.Ahead.{leads-iff}
use Rattle.path_follow.proofs.looking.leads_at.Goals as goal

pub returns : goal.returns
returns c =
    leads-iff c.args.mesh.now c.args.following.now c.args.place c.as_slice-links.result.now _ c.nth_polygon-at.result c.leaves.result c.as_slice-links.ensures
    c.requires.there c.nth_polygon-at.ensures c.leaves.ensures
