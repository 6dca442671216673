use Rattle.std.proofs.Common.{refl}
use Rattle.nav_play.proofs.Arms.{jump_played}
use Rattle.nav_play.proofs.player.Player.declare.Goals as goal

pub returns : goal.returns
returns c s = jump_played _ _ _ s c.requires.steady c.requires.room c.requires.points c.in_ok-push.ensures.ok refl refl refl refl refl refl
