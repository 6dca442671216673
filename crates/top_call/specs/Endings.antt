-- How a run ends once its text is made.
use Rattle.std.specs.Prelude.{◌≡◌, ℕ, ◌⊎◌, List, Option}
use Rattle.std.specs.Io.KnownBytes.{Appends}
use Rattle.nav_io.specs.Causes.{Rose, AppendsPrefix}
use Rattle.top_call.specs.declared.words.Status.{Status}
use Rattle.top_call.specs.declared.words.Status.TheVariants as statuses

-- all of the text was written and the status is the one that was due, or the sink's count of faults rose and a front part was written
abbrev pub HasEnded : Option (List ℕ) → Option (List ℕ) → ℕ → ℕ → List ℕ → Status → Status → Type 0
HasEnded before after faults_before faults_after text due status =
    ((status ≡ due) × Appends before after text)
    ⊎ ((status ≡ statuses.WriteFault) × Rose faults_before faults_after × AppendsPrefix before after text)
