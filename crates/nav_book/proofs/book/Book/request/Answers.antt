use Rattle.nav_book.proofs.Showing.{shown_request}
use Rattle.nav_book.proofs.book.Book.request.Goals as goal

pub invariant_of-self : goal.invariant_of-self
invariant_of-self c =
    shown_request c.self.inside.level c.self.inside.press c.self.invariant c.request.result c.args.lane c.args.request _ c.request.ensures.appended
    c.request.ensures.refused c.request.ensures.rules

pub returns-clause-did : goal.returns-clause-did
returns-clause-did c = rw (← c.self.view_is) c.request.ensures
