-- What a run of the program comes to: what is due after an input, and what is read and written.
use Rattle.std.specs.Prelude.{◌≡◌, ℕ, ◌+◌, ◌≤◌, ◌⊎◌, List, length, Option, ⊤}
use Rattle.std.specs.Io.KnownBytes.{Appends, Keeps}
use Rattle.nav_ground.specs.declared.setting.Setting.{Setting}
use Rattle.nav_ground.specs.declared.field.Field.{Field}
use Rattle.nav_io.specs.Causes.{AppendsPrefix, GivesAll, Rose, TookMany}
use Rattle.nav_record.specs.FrameTexts.{fault_text, too_long_text}
use Rattle.top_call.specs.declared.words.Status.{Status}
use Rattle.top_call.specs.declared.words.Status.TheVariants as statuses
use Rattle.top_call.specs.Answers.{TellsFault}
use Rattle.top_call.specs.Inputs.{IsInput, IsInputFor, input_limit}
use Rattle.nav_play.specs.Scenes.{IsSceneText}
use Rattle.nav_script.specs.declared.script.Script.{Script}
use Rattle.nav_script.specs.declared.script.Way.TheVariants.{Play}
use Rattle.nav_text.specs.declared.fault.TextFault.{TextFault}
use Rattle.navd_scene.specs.declared.course.Due.{Due}
use Rattle.navd_scene.specs.declared.course.Due.TheVariants.{Scene, Fault, OutOfMemory}

-- the input is one that can be played, and the text is a play text of it with the scene behind it
pub record IsSceneOf (input text : List ℕ) : Type 0 where
  pub setting : Setting
  pub field : Field
  pub script : Script
  pub there : IsInput Play input setting field script
  pub written : IsSceneText setting field script text

-- what is due is right: a scene is one of the input, and a fault line tells a fault of it
abbrev pub IsRight : List ℕ → Due → Type 0
IsRight input (Scene text) = IsSceneOf input text.items
IsRight input (Fault text) = TellsFault Play input text.items
IsRight input OutOfMemory = ⊤

-- it is a scene, unless memory ran out
abbrev pub IsSceneUnless : Due → Type 0
IsSceneUnless (Scene text) = ⊤
IsSceneUnless (Fault text) = ⊥
IsSceneUnless OutOfMemory = ⊤

-- it is the line of this fault, unless memory ran out
abbrev pub IsLineOf : TextFault → Due → Type 0
IsLineOf fault (Scene text) = ⊥
IsLineOf fault (Fault text) = text.items ≡ fault_text fault
IsLineOf fault OutOfMemory = ⊤

-- the whole of the source was read, and this text is a scene of that
pub record IsDrawn (before after : Option (List ℕ)) (text : List ℕ) : Type 0 where
  pub input : List ℕ
  pub read : GivesAll before after input
  pub short : length input ≤ input_limit
  pub drawn : IsSceneOf input text

-- the whole of the source was read, that is no input for a play, and this text tells its fault
pub record IsRefused (before after : Option (List ℕ)) (text : List ℕ) : Type 0 where
  pub input : List ℕ
  pub read : GivesAll before after input
  pub short : length input ≤ input_limit
  pub no_input : ¬ IsInputFor Play input
  pub told : TellsFault Play input text

-- the text is what the run owes its sink: a scene, the fault of what was read, or the line that says that too many bytes were read
abbrev pub IsDue : Option (List ℕ) → Option (List ℕ) → List ℕ → Type 0
IsDue before after text =
    IsDrawn before after text ⊎ (IsRefused before after text ⊎ (TookMany before after (input_limit + 1) × (text ≡ too_long_text)))

-- a scene of what was read was written, to the sink that held what it held
pub record HasDrawn (before after held_before held_after : Option (List ℕ)) : Type 0 where
  pub text : List ℕ
  pub due : IsDrawn before after text
  pub written : Appends held_before held_after text

-- the line of the fault of what was read, which is no input for a play, was written
pub record HasTold (before after held_before held_after : Option (List ℕ)) : Type 0 where
  pub text : List ℕ
  pub due : IsRefused before after text
  pub written : Appends held_before held_after text

-- a part of what was due was written, and not all of it
pub record HasBroken (before after held_before held_after : Option (List ℕ)) : Type 0 where
  pub text : List ℕ
  pub due : IsDue before after text
  pub written : AppendsPrefix held_before held_after text

-- what a run has done, once it ended with this status: the bytes that were left in the source and the bytes that the sink held, before and
-- after, and how often reading and writing had failed
abbrev pub HasRun : (before after : Option (List ℕ)) → (reads_before reads_after : ℕ) → (held_before held_after : Option (List ℕ))
    → (writes_before writes_after : ℕ) → Status → Type 0
HasRun before after reads_before reads_after held_before held_after writes_before writes_after statuses.Ok =
    HasDrawn before after held_before held_after
HasRun before after reads_before reads_after held_before held_after writes_before writes_after statuses.BadText =
    HasTold before after held_before held_after
HasRun before after reads_before reads_after held_before held_after writes_before writes_after statuses.Usage = ⊥
HasRun before after reads_before reads_after held_before held_after writes_before writes_after statuses.ReadFault =
    Rose reads_before reads_after × Keeps held_before held_after
HasRun before after reads_before reads_after held_before held_after writes_before writes_after statuses.WriteFault =
    Rose writes_before writes_after × HasBroken before after held_before held_after
HasRun before after reads_before reads_after held_before held_after writes_before writes_after statuses.TooLong =
    TookMany before after (input_limit + 1) × Appends held_before held_after too_long_text
HasRun before after reads_before reads_after held_before held_after writes_before writes_after statuses.OutOfMemory = Keeps held_before held_after
HasRun before after reads_before reads_after held_before held_after writes_before writes_after statuses.TooManySpans = ⊥
