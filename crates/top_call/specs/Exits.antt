-- How a program ends: the run that it made, and its exit status.
use Rattle.std.specs.Prelude.{◌≡◌, ℕ, ◌⊎◌, List, String}
use Rattle.std.specs.declared.alloc.Global.{Global}
use Rattle.top_call.specs.declared.words.Status.{Status}
use Rattle.top_call.specs.declared.words.Status.TheVariants as statuses
use Rattle.top_call.specs.Courses.{HasRun}
use Rattle.top_call.specs.Outsides.{Outside}
use Rattle.top_call.specs.Statuses.{status_number}

-- a run on some words was made, or there was no memory for the words and nothing was done
abbrev pub HasRunOnSome : (before after : Outside) → Status → Type 0
HasRunOnSome before after status =
    ((words : List (String Global)) × HasRun words before after status) ⊎ ((status ≡ statuses.OutOfMemory) × (after ≡ before))

-- it did that, and the exit status is the number of how it ended
pub record HasExited (before after : Outside) (exit : ℕ) : Type 0 where
  pub status : Status
  pub number : exit ≡ status_number status
  pub ran : HasRunOnSome before after status
