use Rattle.nav_live.proofs.TouchedLaws.{first_touched}
use Rattle.nav_live.proofs.book.LiveBook.new.Goals as goal

pub invariant_of-result : goal.invariant_of-result
invariant_of-result c = first_touched c.requires.0 c.args.book c.requires.1
