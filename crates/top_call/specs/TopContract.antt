-- What the top call promises of the status that it ends with, for the words that it runs on and the outside before and after it.
use Rattle.std.specs.Prelude.{◌≡◌, ℕ, ◌+◌, ◌≤◌, ◌⊎◌, List, length, IfSome, String}
use Rattle.std.specs.declared.alloc.Global.{Global}
use Rattle.std.specs.Io.KnownBytes.{Appends, Keeps}
use Rattle.nav_io.specs.Causes.{Rose, TookMany, HasMore}
use Rattle.nav_record.specs.FrameTexts.{usage_text, too_long_text}
use Rattle.nav_script.specs.declared.script.Way.{Way}
use Rattle.top_call.specs.declared.words.Status.{Status}
use Rattle.top_call.specs.declared.words.Status.TheVariants as statuses
use Rattle.top_call.specs.Inputs.{IsInputFor, input_limit}
use Rattle.top_call.specs.Outcomes.{HasDone, HasTold, HasToldMany, HasBroken}
use Rattle.top_call.specs.Outsides.{Outside}
use Rattle.top_call.specs.Triangles.{IsLevel, HasFewSpans, HasTooManySpans}
use Rattle.top_call.specs.Words.{IsForm, IsGen, IsRasterForm, IsReadForm, IsWayForm}

-- each status tells what was done
pub record TellsWhatWasDone (words : List (String Global)) (before after : Outside) (status : Status) : Type 0 where
  -- a text of what was read, or the summary of the made input, whole, to the sink that held what it held
  pub ok : status ≡ statuses.Ok → HasDone words before after
  -- each refusal has its cause, and the sink holds what is due
  pub bad_text : status ≡ statuses.BadText → HasTold words before after
  pub usage : status ≡ statuses.Usage → (¬ IsForm words) × Appends before.held after.held usage_text × (after.left ≡ before.left)
  pub read_fault : status ≡ statuses.ReadFault → IsReadForm words × Rose before.read_faults after.read_faults × Keeps before.held after.held
  pub write_fault : status ≡ statuses.WriteFault → Rose before.write_faults after.write_faults × HasBroken words before after
  pub too_long : status ≡ statuses.TooLong
      → IsReadForm words × TookMany before.left after.left (input_limit + 1) × Appends before.held after.held too_long_text
  pub too_many : status ≡ statuses.TooManySpans → HasToldMany words before after
  pub no_memory : status ≡ statuses.OutOfMemory → Keeps before.held after.held

-- no read and no write has failed
abbrev pub UnlessFailed : (before after : Outside) → Type 0 → Type 0
UnlessFailed before after Goal = (¬ Rose before.read_faults after.read_faults) → (¬ Rose before.write_faults after.write_faults) → Goal

-- which status comes where nothing fails but memory
pub record ComesAsDue (words : List (String Global)) (before after : Outside) (status : Status) : Type 0 where
  pub no_form : (¬ IsForm words) → (status ≡ statuses.Usage) ⊎ (status ≡ statuses.WriteFault)
  -- more bytes than an input may have
  pub more : IsReadForm words → HasMore before.left input_limit
      → UnlessFailed before after ((status ≡ statuses.TooLong) ⊎ (status ≡ statuses.OutOfMemory))
  -- an input for `play` or `live`, and a text that is none
  pub complete : IfSome before.left (λ input. (way : Way) → IsWayForm way words → IsInputFor way input → length input ≤ input_limit
      → UnlessFailed before after ((status ≡ statuses.Ok) ⊎ (status ≡ statuses.OutOfMemory)))
  pub wrong : IfSome before.left (λ input. (way : Way) → IsWayForm way words → (¬ IsInputFor way input) → length input ≤ input_limit
      → UnlessFailed before after ((status ≡ statuses.BadText) ⊎ (status ≡ statuses.OutOfMemory)))
  -- a triangle text for `raster` with few spans, a text that is none, and one with too many spans
  pub raster_complete : IfSome before.left (λ input. IsRasterForm words → HasFewSpans input → length input ≤ input_limit
      → UnlessFailed before after ((status ≡ statuses.Ok) ⊎ (status ≡ statuses.OutOfMemory)))
  pub raster_wrong : IfSome before.left (λ input. IsRasterForm words → (¬ IsLevel input) → length input ≤ input_limit
      → UnlessFailed before after ((status ≡ statuses.BadText) ⊎ (status ≡ statuses.OutOfMemory)))
  pub raster_many : IfSome before.left (λ input. IsRasterForm words → HasTooManySpans input → length input ≤ input_limit
      → UnlessFailed before after ((status ≡ statuses.TooManySpans) ⊎ (status ≡ statuses.OutOfMemory)))
  -- a made input
  pub made : IsGen words → (¬ Rose before.write_faults after.write_faults) → (status ≡ statuses.Ok) ⊎ (status ≡ statuses.OutOfMemory)
