use Rattle.nav_play.proofs.Parts.{first_part}
use Rattle.nav_play.proofs.run.play_to_end.Goals as goal

pub returns-in_err-player-clause-most : goal.returns-in_err-player-clause-most
returns-in_err-player-clause-most g c = first_part _ _ _ _ c.begin.ensures.most
