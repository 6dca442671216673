use Rattle.std.proofs.Common.{refl}
use Rattle.nav_play.proofs.Arms.{ask_played}
use Rattle.nav_play.proofs.player.Player.ask.Goals as goal

pub returns : goal.returns
returns c s =
    ask_played _ _ _ _ _ _ s c.requires.steady c.in_ok-k.ensures.right c.in_ok-k.ensures.low_cost c.in_ok-k.ensures.published c.write_answer.ensures.ok
    c.count.ensures c.in_ok-k.ensures.same refl refl refl refl
