-- What contracts see of a book.
use Rattle.logbook.specs.Pages.{Book}
use Rattle.build_queue.specs.BookState.{BookState}

-- a book: its state, of which each call is a step, and the pair of its press and its eyes, which a renewal alone
-- changes
pub record BookView : Type 0 where
  pub state : BookState
  pub pair : Book
