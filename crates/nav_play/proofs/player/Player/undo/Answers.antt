use Rattle.nav_play.proofs.Arms.{undo_played}
use Rattle.nav_play.proofs.player.Player.undo.Goals as goal

pub returns : goal.returns
returns c s = undo_played _ _ _ _ _ s c.number-dropped.ensures (c.remove.ensures s)
