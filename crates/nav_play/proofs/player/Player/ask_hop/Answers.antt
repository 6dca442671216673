use Rattle.std.proofs.Common.{refl}
use Rattle.nav_play.proofs.Arms.{hop_played}
use Rattle.nav_play.proofs.player.Player.ask_hop.Goals as goal

pub ask_by-requires : goal.ask_by-requires
ask_by-requires c = record { question = record { from = c.requires.from; to = c.requires.to; jumps = c.requires.steady.jumps } }

pub returns : goal.returns
returns c s =
    hop_played _ _ _ _ _ _ _ _ _ s c.requires.steady c.in_ok-k.ensures.right c.in_ok-k.ensures.published c.write_hop.ensures.ok refl refl refl refl refl refl
