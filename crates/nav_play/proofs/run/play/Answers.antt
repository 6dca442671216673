use Rattle.nav_play.proofs.OneTotals.{one_totals}
use Rattle.nav_play.proofs.run.play.Goals as goal

pub returns-clause-only : goal.returns-clause-only
returns-clause-only g c other are = one_totals _ _ other _ are c.in_ok-book.ensures.totals
