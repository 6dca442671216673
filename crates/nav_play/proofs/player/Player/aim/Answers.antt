use Rattle.std.proofs.Common.{refl}
use Rattle.nav_play.proofs.Arms.{aim_played}
use Rattle.nav_play.proofs.player.Player.aim.Goals as goal

pub returns : goal.returns
returns c s = aim_played _ _ _ _ s c.requires c.write_step.ensures.ok c.aim-k.ensures.did.length c.aim-k.ensures.did.aimed refl refl refl refl refl
