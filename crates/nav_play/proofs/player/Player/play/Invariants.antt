use Rattle.nav_play.specs.Players.{IsSteady, player_state}
use Rattle.nav_play.proofs.Playing.{IsPlaying}
use Rattle.nav_play.proofs.player.Player.play.Given as goal

-- the lines so far are played
abbrev pub invariant-loop-line : goal.invariant-loop-line
invariant-loop-line g l = record {
  playing : IsPlaying (player_state l.fn.self) l.fn.script.lines l.line-index (player_state l.self) l.self.text.items l.self.totals l.fn.steps l.steps;
  steady : IsSteady l.self;
}
