-- What no act on a book changes.
use Rattle.logbook.specs.Pages.{Book}
use Rattle.nav_ground.specs.declared.history.Ground.{Ground}
use Rattle.nav_book.specs.Views.{BookView}

-- the ground of a book, and the pair of its press and its eyes
pub record RootView : Type 0 where
  pub ground : Ground
  pub pair : Book

-- what no act on this book changes
abbrev pub root_of : BookView → RootView
root_of book = record { ground = book.state.ground; pair = book.pair }
