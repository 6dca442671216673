use Rattle.std.proofs.Common.{refl}
use Rattle.nav_play.proofs.Arms.{add_played, lane_kept}
use Rattle.nav_play.proofs.player.Player.add.Goals as goal

pub push-requires : goal.push-requires
push-requires c = lane_kept _ _ _ _ c.requires.steady.lane c.in_ok-number.ensures.requested.lane c.in_ok-number.ensures.requested.adds

pub returns : goal.returns
returns c s =
    add_played _ _ _ _ _ _ s c.requires.steady c.in_ok-number.ensures.requested c.in_ok-number.ensures.number c.push.ensures.ok refl refl refl refl refl refl
