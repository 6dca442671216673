-- What a made input is answered with: the summary of its play.
use Rattle.std.specs.Prelude.{◌≡◌, ℕ, List, length}
use Rattle.nav_gen.specs.MadeField.{made_setting, made_field}
use Rattle.nav_gen.specs.MadeScript.{made_script}
use Rattle.nav_gen.specs.MadeText.{made_text}
use Rattle.nav_gen.specs.Summary.{summary_text}
use Rattle.nav_play.specs.PlayTotals.{AreTotals}
use Rattle.nav_play.specs.Work.{builds_of}
use Rattle.nav_record.specs.declared.step.Totals.{Totals}
use Rattle.nav_text.specs.Lines.{lines}

-- the summary of the input that a number and a size determine: how many bytes and lines it has, and the totals of its play, which has no others
pub record IsMadeSummary (number size : ℕ) (text : List ℕ) : Type 0 where
  pub totals : Totals
  pub come : AreTotals (made_setting size) (made_field number size) (made_script number size) totals
  pub only : (other : Totals) → AreTotals (made_setting size) (made_field number size) (made_script number size) other → other ≡ totals
  pub spelled : text ≡ summary_text number size (length (made_text number size)) (length (lines (made_text number size))) totals

-- how many steps the play of a made input may take
abbrev pub made_builds : (number size : ℕ) → ℕ
made_builds number size = builds_of (made_setting size) (made_field number size) (made_script number size)
