-- The totals of a play: how far it came, and what its `path` lines were answered.
use Rattle.std.specs.Prelude.{◌≡◌, ℕ, Bool, false, true, List, [], ◌∷◌, length}
use Rattle.std.specs.List.{count_by, sum_by}
use Rattle.nav_base.specs.declared.point.Question.{Question}
use Rattle.nav_base.specs.declared.point.Question.TheVariants as questions
use Rattle.nav_ground.specs.declared.setting.Setting.{Setting}
use Rattle.nav_ground.specs.declared.field.Field.{Field}
use Rattle.mesh_types.specs.declared.answers.Answer.{Answer}
use Rattle.mesh_types.specs.declared.answers.Answer.TheVariants.{Path, NoStart, NoGoal, NoPath}
use Rattle.mesh_types.specs.declared.mesh.Mesh.{Mesh}
use Rattle.mesh_types.specs.Right.{IsRight}
use Rattle.mesh_types.specs.Soundness.{link_count, polygon_count}
use Rattle.nav_book.specs.Results.{published_mesh}
use Rattle.nav_record.specs.declared.step.Totals.{Totals}
use Rattle.nav_script.specs.declared.script.Line.{Line}
use Rattle.nav_script.specs.declared.script.Line.TheVariants.{Ask}
use Rattle.nav_script.specs.declared.script.Script.{Script}
use Rattle.nav_play.specs.PlayStates.{PlayState, first_state_of, state_after_all}
use Rattle.nav_play.specs.PlayRecord.{AreSaid}

-- one right answer
pub record IsOneRight (mesh : Mesh) (question : Question) (given : List Answer) : Type 0 where
  pub answer : Answer
  pub right : IsRight mesh question answer
  pub alone : given ≡ answer ∷ []

-- the answers to a question that count: a question for a path has one right answer, and no other counts
abbrev pub IsPathAnswer : Mesh → Question → List Answer → Type 0
IsPathAnswer mesh (questions.Path from from_y to to_y) given = IsOneRight mesh (questions.Path from from_y to to_y) given
IsPathAnswer mesh _ given = given ≡ []

-- the answers of a line that count: that of a `path` line, in the mesh that is published then
abbrev pub IsCounted : PlayState → Line → List Answer → Type 0
IsCounted state (Ask question) given = IsPathAnswer (published_mesh state.book) question given
IsCounted state _ given = given ≡ []

-- the kinds of answers
abbrev pub is_path : Answer → Bool
is_path (Path found) = true
is_path _ = false

-- an answer is that no path leads there
abbrev pub is_no_path : Answer → Bool
is_no_path NoPath = true
is_no_path _ = false

-- an answer is that no polygon holds the start
abbrev pub is_no_start : Answer → Bool
is_no_start NoStart = true
is_no_start _ = false

-- an answer is that no polygon holds the goal
abbrev pub is_no_goal : Answer → Bool
is_no_goal NoGoal = true
is_no_goal _ = false

-- what the path costs that was found
abbrev pub cost_of : Answer → ℕ
cost_of (Path found) = found.cost
cost_of _ = 0

-- the totals count the answers of each kind, and add up the costs of the paths that were found
pub record CountAnswers (given : List Answer) (totals : Totals) : Type 0 where
  pub paths : totals.paths ≡ count_by is_path given
  pub no_path : totals.nopath ≡ count_by is_no_path given
  pub no_start : totals.nostart ≡ count_by is_no_start given
  pub no_goal : totals.nogoal ≡ count_by is_no_goal given
  pub cost : totals.cost ≡ sum_by cost_of given

-- the totals tell how far a play came: the entries, how many of them are published, and the polygons and links of the mesh that is
pub record TellEnd (state : PlayState) (totals : Totals) : Type 0 where
  pub entries : totals.entries ≡ length state.book.history
  pub published : totals.published ≡ state.book.published
  pub polys : totals.polys ≡ polygon_count (published_mesh state.book).tiles
  pub links : totals.links ≡ link_count (published_mesh state.book)

-- these are totals of lines from a state on: they count right answers to the `path` lines, and tell how far the play came. Whether the
-- answers are those that are written does not matter: all right answers give the same totals
pub record AreTotalsFrom (state : PlayState) (lines : List Line) (totals : Totals) : Type 0 where
  pub given : List Answer
  pub right : AreSaid IsCounted state lines given
  pub counted : CountAnswers given totals
  pub ends : TellEnd (state_after_all state lines) totals

-- and these of the play of a script over a field
abbrev pub AreTotals : Setting → Field → Script → Totals → Type 0
AreTotals setting field script totals = AreTotalsFrom (first_state_of setting field script) script.lines totals
