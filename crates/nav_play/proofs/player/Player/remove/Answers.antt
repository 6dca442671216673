use Rattle.nav_play.proofs.Arms.{remove_played}
use Rattle.nav_play.proofs.player.Player.remove.Goals as goal

pub returns : goal.returns
returns c s = remove_played _ _ _ s c.requires c.in_ok-request.ensures.requested
