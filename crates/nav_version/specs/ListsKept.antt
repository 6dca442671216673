-- What contracts see of the fields of a told list and of the history, and what these keep between two calls.
use Rattle.std.specs.Prelude.{◌≡◌, length}
use Rattle.nav_version.specs.declared.rule.Told.TheInside as told
use Rattle.nav_version.specs.declared.entries.PublishedHistory.TheInside as history
use Rattle.nav_version.specs.Lists.{ToldView}
use Rattle.nav_version.specs.Histories.{word_of}

abbrev pub told_view : told.Inside → ToldView
told_view inside = record { pair = inside.seen.book; entries = inside.seen.log }

-- a told list has its length
abbrev pub IsToldKept : told.Inside → Type 0
IsToldKept inside = inside.length ≡ length inside.seen.log

abbrev pub history_view : history.Inside → ToldView
history_view inside = record { pair = inside.seen.book; entries = inside.seen.log }

-- the word is this book's, and the length that of the list
pub record IsHistoryKept (inside : history.Inside) : Type 0 where
  pub word : inside.word ≡ word_of inside.seen.book
  pub length : inside.length ≡ length inside.seen.log
