-- What a run did: what it read from the source, and what it wrote to the sink.
use Rattle.std.specs.Prelude.{◌≡◌, ℕ, ◌+◌, ◌≤◌, ◌⊎◌, List, length, Option, String}
use Rattle.std.specs.declared.alloc.Global.{Global}
use Rattle.std.specs.Io.KnownBytes.{Appends}
use Rattle.nav_io.specs.Causes.{GivesAll, TookMany, AppendsPrefix}
use Rattle.nav_record.specs.FrameTexts.{fault_text, usage_text, too_long_text}
use Rattle.nav_script.specs.declared.script.Way.{Way}
use Rattle.nav_text.specs.declared.fault.TextFault.{TextFault}
use Rattle.top_call.specs.Inputs.{IsInputFor, IsRunText, IsFault, input_limit}
use Rattle.top_call.specs.Made.{IsMadeSummary}
use Rattle.top_call.specs.Outsides.{Outside}
use Rattle.top_call.specs.Triangles.{IsFieldDue, IsTriFaultDue, IsManyDue}
use Rattle.top_call.specs.Words.{IsForm, IsGen, IsReadForm, IsWayForm}

-- the words ask for an input to be run some way, and the whole of it was read
pub record HasReadInput (words : List (String Global)) (before after : Option (List ℕ)) : Type 0 where
  pub way : Way
  pub form : IsWayForm way words
  pub input : List ℕ
  pub read : GivesAll before after input
  pub short : length input ≤ input_limit

-- and this text is one of it for that way: a play text for the word `play`, a live text for the word `live`
pub record IsTextDue (words : List (String Global)) (before after : Option (List ℕ)) (text : List ℕ) : Type 0 where
  pub read : HasReadInput words before after
  pub ran : IsRunText read.way read.input text

-- or this text tells its fault: it is no input for that way
pub record IsFaultDue (words : List (String Global)) (before after : Option (List ℕ)) (text : List ℕ) : Type 0 where
  pub read : HasReadInput words before after
  pub fault : TextFault
  pub wrong : IsFault read.way read.input fault
  pub told : text ≡ fault_text fault
  pub no_input : ¬ IsInputFor read.way read.input

-- the words ask for a made input, and this text is its summary; nothing was read
pub record IsSummaryDue (words : List (String Global)) (before after : Option (List ℕ)) (text : List ℕ) : Type 0 where
  pub gen : IsGen words
  pub unread : after ≡ before
  pub summary : IsMadeSummary gen.number gen.size text

-- the text is what the run owed its sink: after words in no form the usage line, with nothing read; after the word `play` or `live` the line
-- that says that too many bytes were read, or a text or the fault of the whole input; after the word `raster` that line, or the field of the whole
-- input, its fault, or that it has too many spans; after `gen NUMBER SIZE` the summary, with nothing read
abbrev pub IsDue : List (String Global) → Option (List ℕ) → Option (List ℕ) → List ℕ → Type 0
IsDue words before after text =
    ((¬ IsForm words) × (after ≡ before) × (text ≡ usage_text))
    ⊎ (IsSummaryDue words before after text
    ⊎ ((IsReadForm words × TookMany before after (input_limit + 1) × (text ≡ too_long_text))
    ⊎ (IsTextDue words before after text ⊎ (IsFaultDue words before after text
    ⊎ (IsFieldDue words before after text ⊎ (IsTriFaultDue words before after text ⊎ IsManyDue words before after text))))))

-- a text that was due was written whole, to the sink that held what it held
pub record HasWritten (IsOwed : List ℕ → Type 0) (held_before held_after : Option (List ℕ)) : Type 0 where
  pub text : List ℕ
  pub due : IsOwed text
  pub written : Appends held_before held_after text

-- what the words ask for was written: a text of what was read, the summary of a made input, or the field of triangles
abbrev pub HasDone : List (String Global) → (before after : Outside) → Type 0
HasDone words before after =
    HasWritten (IsTextDue words before.left after.left) before.held after.held
    ⊎ (HasWritten (IsSummaryDue words before.left after.left) before.held after.held
    ⊎ HasWritten (IsFieldDue words before.left after.left) before.held after.held)

-- the line of the fault of what was read was written, and what was read is not what the words ask for: no input for the way to run it, or no
-- triangle text
abbrev pub HasTold : List (String Global) → (before after : Outside) → Type 0
HasTold words before after =
    HasWritten (IsFaultDue words before.left after.left) before.held after.held
    ⊎ HasWritten (IsTriFaultDue words before.left after.left) before.held after.held

-- the line that tells of too many spans was written
abbrev pub HasToldMany : List (String Global) → (before after : Outside) → Type 0
HasToldMany words before after = HasWritten (IsManyDue words before.left after.left) before.held after.held

-- a part of what was due was written, and not all of it
pub record HasBroken (words : List (String Global)) (before after : Outside) : Type 0 where
  pub text : List ℕ
  pub due : IsDue words before.left after.left text
  pub written : AppendsPrefix before.held after.held text
