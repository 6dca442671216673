-- Why a lane ends before its last line.
use Rattle.std.specs.Prelude.{◌≡◌, ◌<◌, true, List, length, count_by, ⊤}
use Rattle.turn_lock.specs.Locks.{LockId, PassView}
use Rattle.nav_ground.specs.declared.history.Entry.{Entry}
use Rattle.nav_ground.specs.History.{history_limit}
use Rattle.nav_script.specs.declared.script.Line.{Line}
use Rattle.nav_script.specs.Lanes.{is_request}
use Rattle.nav_live.specs.Roots.{RootView}
use Rattle.nav_live.specs.declared.lane.LaneEnd.{LaneEnd}
use Rattle.nav_live.specs.declared.lane.LaneEnd.TheVariants.{NoMemory, HistoryFull}
use Rattle.nav_live.specs.LaneEntries.{entries_made}
use Rattle.nav_live.specs.Lanes.{SawOthers}

-- a line found the history full: it makes a request, which left no entry, and the pass has seen as many entries as a history can have
pub record FindsFull (lock : LockId RootView) (line : Line) (before after : PassView RootView Entry) : Type 0 where
  pub asks : is_request line ≡ true
  pub saw : SawOthers lock before after
  pub full : length after.seen ≡ history_limit

-- why a line was not run: the history was full, or memory was refused, of which nothing more is said
abbrev pub IsStoppedAt : LockId RootView → Line → PassView RootView Entry → PassView RootView Entry → LaneEnd → Type 0
IsStoppedAt lock line before after NoMemory = ⊤
IsStoppedAt lock line before after HistoryFull = FindsFull lock line before after

-- a lane with these lines has met a full history: its pass has seen as many entries as a history can have, and fewer of them are its own than its
-- lines make requests
pub record HasMetFull (list : List Line) (pass : PassView RootView Entry) : Type 0 where
  pub full : length pass.seen ≡ history_limit
  pub fewer : length (entries_made pass.number pass.seen) < count_by is_request list

-- why a lane with these lines has ended before its last line: the history was full, or memory was refused, of which nothing more is said
abbrev pub IsStopped : List Line → PassView RootView Entry → LaneEnd → Type 0
IsStopped list pass NoMemory = ⊤
IsStopped list pass HistoryFull = HasMetFull list pass
