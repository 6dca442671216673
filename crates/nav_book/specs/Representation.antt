-- What the fields of a book keep at every moment.
use Rattle.std.specs.Prelude.{◌≡◌}
use Rattle.nav_version.specs.Pairs.{PressView}
use Rattle.build_queue.specs.BookState.{BookState, IsBook}
use Rattle.nav_book.specs.declared.book.Book.TheInside.{Inside}
use Rattle.nav_book.specs.Results.{published_entries}
use Rattle.nav_book.specs.Views.{BookView}

-- what a book is seen as
abbrev pub view_of : Inside → BookView
view_of inside = record { state = inside.level; pair = inside.press.pair }

-- the state keeps its rules, and the press shows the ground with the published entries
pub record IsShown (state : BookState) (press : PressView) : Type 0 where
  pub rules : IsBook state
  pub level : press.ground ≡ state.ground
  pub entries : press.entries ≡ published_entries state

abbrev pub IsKept : Inside → Type 0
IsKept inside = IsShown inside.level inside.press
