use Rattle.wall_slide.proofs.EndLaws.{is_motion}
use Rattle.wall_slide.proofs.LeavingLinks.{portal_ends}
use Rattle.wall_slide.proofs.around.is_passed.Goals as goal

pub touches-requires-clause-motion : goal.touches-requires-clause-motion
touches-requires-clause-motion c = is_motion c.args.mesh.now c.args.asked.now c.requires.sound c.requires.start

pub touches-requires-clause-right : goal.touches-requires-clause-right
touches-requires-clause-right c = (portal_ends c.args.mesh.now c.args.link.now c.requires.sound c.requires.link).right

pub touches-requires-clause-left : goal.touches-requires-clause-left
touches-requires-clause-left c = (portal_ends c.args.mesh.now c.args.link.now c.requires.sound c.requires.link).left
