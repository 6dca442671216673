-- Renewal: a history that begins again with the obstacles that are alive.
use Rattle.std.specs.Prelude.{◌≡◌, ℕ, ◌+◌, false, List, length, replicate, slice_get, Some}
use Rattle.std.specs.Option.{option_map}
use Rattle.nav_ground.specs.declared.history.Entry.{Entry}
use Rattle.nav_ground.specs.declared.history.Reply.TheVariants.{Added}
use Rattle.nav_ground.specs.History.{alive_after, entry_at}
use Rattle.build_queue.specs.BookState.{BookState}

-- the whole history is published
pub record IsAllShown (state : BookState) : Type 0 where
  pub shown : state.published ≡ length state.history

-- the entry that added an obstacle, once more: it adds the obstacle under another number
abbrev pub under : ℕ → Entry → Entry
under number entry = record entry { reply = Added number }

-- a list of entries adds the obstacles with these numbers once more, in order, each under the number of its place, from 1
pub record AddsAgain (before : List Entry) (numbers : List ℕ) (after : List Entry) : Type 0 where
  pub each : length after ≡ length numbers
  pub again : (place number : ℕ) → slice_get numbers place ≡ Some number → slice_get after place ≡ option_map (under (place + 1)) (entry_at before number)

-- a state is another one renewed: its history adds again, in order of their numbers, the obstacles that were alive; all of it is aimed at and
-- published; no tile is claimed; the ground and the builds are the same
pub record IsRenewed (before after : BookState) : Type 0 where
  pub history : AddsAgain before.history (alive_after before.history (length before.history)) after.history
  pub target : after.target ≡ length after.history
  pub published : after.published ≡ length after.history
  pub free : after.claimed ≡ replicate (length before.claimed) false
  pub ground : after.ground ≡ before.ground
  pub stored : after.stored ≡ before.stored
