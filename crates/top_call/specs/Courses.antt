-- How a run goes, by the status that it ends with: what the clauses of the top call say but `took`, `unread` and `steps`.
use Rattle.std.specs.Prelude.{◌≡◌, ℕ, ◌+◌, List, String}
use Rattle.std.specs.declared.alloc.Global.{Global}
use Rattle.std.specs.Io.KnownBytes.{Appends, Keeps}
use Rattle.nav_io.specs.Causes.{Rose, TookMany}
use Rattle.nav_record.specs.FrameTexts.{usage_text, too_long_text}
use Rattle.top_call.specs.declared.words.Status.{Status}
use Rattle.top_call.specs.declared.words.Status.TheVariants as statuses
use Rattle.top_call.specs.Inputs.{input_limit}
use Rattle.top_call.specs.Outcomes.{HasDone, HasTold, HasToldMany, HasBroken}
use Rattle.top_call.specs.Outsides.{Outside}
use Rattle.top_call.specs.Words.{IsForm, IsReadForm}

-- what a run on these words has done between two moments, once it ended with this status
abbrev pub HasRun : List (String Global) → (before after : Outside) → Status → Type 0
HasRun words before after statuses.Ok = HasDone words before after
HasRun words before after statuses.BadText = HasTold words before after
HasRun words before after statuses.Usage = (¬ IsForm words) × Appends before.held after.held usage_text × (after.left ≡ before.left)
HasRun words before after statuses.ReadFault = IsReadForm words × Rose before.read_faults after.read_faults × Keeps before.held after.held
HasRun words before after statuses.WriteFault = Rose before.write_faults after.write_faults × HasBroken words before after
HasRun words before after statuses.TooLong =
    IsReadForm words × TookMany before.left after.left (input_limit + 1) × Appends before.held after.held too_long_text
HasRun words before after statuses.OutOfMemory = IsForm words × Keeps before.held after.held
HasRun words before after statuses.TooManySpans = HasToldMany words before after
