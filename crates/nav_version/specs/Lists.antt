-- Lists of entries that were published in one pair.
use Rattle.std.specs.Prelude.{List}
use Rattle.logbook.specs.Pages.{Book}
use Rattle.nav_ground.specs.declared.history.Entry.{Entry}

-- a list that was published: its pair, and its entries
pub record ToldView : Type 0 where
  pub pair : Book
  pub entries : List Entry
