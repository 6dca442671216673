-- Step counts: how many steps a run takes at most.
use Rattle.std.specs.Prelude.{◌≡◌, ℕ, ◌*◌, ◌⊎◌, List, Option, String}
use Rattle.nav_ground.specs.declared.setting.Setting.{Setting}
use Rattle.nav_ground.specs.declared.field.Field.{Field}
use Rattle.nav_ground.specs.Tiling.{tile_count}
use Rattle.nav_play.specs.Work.{builds_of}
use Rattle.nav_script.specs.declared.script.Script.{Script}
use Rattle.nav_script.specs.declared.script.Way.{Way}
use Rattle.nav_script.specs.declared.script.Way.TheVariants.{Play, Live}
use Rattle.nav_base.specs.Counts.{HasRisenAtMost}
use Rattle.std.specs.declared.alloc.Global.{Global}
use Rattle.top_call.specs.declared.words.InputKind.{InputKind}
use Rattle.top_call.specs.declared.words.InputKind.TheVariants as kinds
use Rattle.top_call.specs.Inputs.{IsInputFor}
use Rattle.top_call.specs.Made.{made_builds}
use Rattle.top_call.specs.Outcomes.{HasReadInput}
use Rattle.top_call.specs.Words.{IsGen}

-- how many steps a run of a script over a field takes at most: a play one for each tile at its beginning, and one for each claim that gives a
-- tile; a live run one for each tile before its threads and one for each after their join, since each thread counts its own
abbrev pub builds_for : Way → Setting → Field → Script → ℕ
builds_for Play setting field script = builds_of setting field script
builds_for Live setting field script = 2 * tile_count setting

-- the input is in the grammar for this way to run it, and no more steps were taken than its run may take
pub record IsRunStepped (way : Way) (input : List ℕ) (before after : ℕ) : Type 0 where
  pub fits : IsInputFor way input
  pub steps : HasRisenAtMost (builds_for way fits.setting fits.field fits.script) before after

-- no step was taken, or those of the run of an input
abbrev pub HasStepped : Way → List ℕ → ℕ → ℕ → Type 0
HasStepped way input before after = (after ≡ before) ⊎ IsRunStepped way input before after

-- so many steps for what an input is read as: none for triangles
abbrev pub HasAnswerStepped : InputKind → List ℕ → ℕ → ℕ → Type 0
HasAnswerStepped (kinds.Script way) input before after = HasStepped way input before after
HasAnswerStepped kinds.Triangles input before after = after ≡ before

-- no step was taken; or the words ask for an input to be run some way, the whole of it was read, and no more steps were taken than its run may take;
-- or they ask for a made input, and no more steps were taken than its play may take
abbrev pub HasRunStepped : List (String Global) → (left_before left_after : Option (List ℕ)) → (before after : ℕ) → Type 0
HasRunStepped words left_before left_after before after =
    (after ≡ before) ⊎ (((read : HasReadInput words left_before left_after) × IsRunStepped read.way read.input before after)
    ⊎ ((gen : IsGen words) × HasRisenAtMost (made_builds gen.number gen.size) before after))
