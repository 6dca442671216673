-- The exit statuses.
use Rattle.std.specs.Prelude.{ℕ}
use Rattle.top_call.specs.declared.words.Status.{Status}
use Rattle.top_call.specs.declared.words.Status.TheVariants as statuses

-- the number of a status
abbrev pub status_number : Status → ℕ
status_number statuses.Ok = 0
status_number statuses.BadText = 1
status_number statuses.Usage = 2
status_number statuses.ReadFault = 3
status_number statuses.WriteFault = 4
status_number statuses.TooLong = 5
status_number statuses.OutOfMemory = 6
status_number statuses.TooManySpans = 7
