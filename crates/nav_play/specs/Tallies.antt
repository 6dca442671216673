-- The running totals of a play under way, one answer after another, with the rest still 0. What totals mean is said in PlayTotals.
use Rattle.std.specs.Prelude.{◌≡◌, ◌+◌, ◌<◌, ◌≤◌, ◌^◌, length}
use Rattle.nav_base.specs.declared.point.Question.{Question}
use Rattle.nav_base.specs.declared.point.Question.TheVariants as questions
use Rattle.mesh_types.specs.declared.answers.Answer.{Answer}
use Rattle.mesh_types.specs.declared.answers.Answer.TheVariants.{Floors, Path, NoStart, NoGoal, NoPath, Reached, Wall}
use Rattle.mesh_types.specs.Right.{IsRight}
use Rattle.mesh_types.specs.Soundness.{link_count, polygon_count}
use Rattle.nav_query.specs.Questions.{HasLowCost}
use Rattle.build_queue.specs.BookState.{BookState}
use Rattle.nav_book.specs.Results.{published_mesh}
use Rattle.nav_record.specs.declared.step.Totals.{Totals}
use Rattle.nav_script.specs.declared.script.Line.{Line}
use Rattle.nav_script.specs.declared.script.Line.TheVariants.{Ask}
use Rattle.nav_play.specs.PlayStates.{PlayState}

-- nothing is counted
abbrev pub no_answers : Totals
no_answers = record { entries = 0; published = 0; paths = 0; nopath = 0; nostart = 0; nogoal = 0; cost = 0; polys = 0; links = 0 }

-- one answer more to a question for a path
abbrev pub totals_with : Totals → Answer → Totals
totals_with totals (Path found) = record totals { paths = totals.paths + 1; cost = totals.cost + found.cost }
totals_with totals NoPath = record totals { nopath = totals.nopath + 1 }
totals_with totals NoStart = record totals { nostart = totals.nostart + 1 }
totals_with totals NoGoal = record totals { nogoal = totals.nogoal + 1 }
totals_with totals (Floors floors) = totals
totals_with totals (Reached at) = totals
totals_with totals (Wall a b num den) = totals

-- an answer to any question: only those to questions for paths are counted
abbrev pub totals_after : Totals → Question → Answer → Totals
totals_after totals (questions.Path from from_y to to_y) answer = totals_with totals answer
totals_after totals (questions.Floor x z) answer = totals
totals_after totals (questions.Ray from from_y to) answer = totals

-- the answer to a question is counted: a right answer with a low cost
pub record HasCountedAnswer (book : BookState) (question : Question) (before after : Totals) : Type 0 where
  pub answer : Answer
  pub right : IsRight (published_mesh book) question answer
  pub low : HasLowCost answer
  pub counted : after ≡ totals_after before question answer

-- what a line was answered is counted
abbrev pub HasCounted : PlayState → Line → Totals → Totals → Type 0
HasCounted state (Ask question) before after = HasCountedAnswer state.book question before after
HasCounted state _ before after = after ≡ before

-- there is room for one answer more, whose cost is low
pub record HasRoom (totals : Totals) : Type 0 where
  pub paths : totals.paths < 2 ^ 31
  pub nopath : totals.nopath < 2 ^ 31
  pub nostart : totals.nostart < 2 ^ 31
  pub nogoal : totals.nogoal < 2 ^ 31
  pub cost : totals.cost + 2 ^ 45 ≤ 2 ^ 64

-- the totals at the end: those of the answers, and how far the book came
abbrev pub totals_at : BookState → Totals → Totals
totals_at book totals = record totals {
  entries = length book.history;
  published = book.published;
  polys = polygon_count (published_mesh book).tiles;
  links = link_count (published_mesh book);
}
