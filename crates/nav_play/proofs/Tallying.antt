-- The totals of the answers so far.
use Rattle.std.proofs.Common.{◌≡◌, ℕ, zero, suc, ◌+◌, ◌*◌, ◌<◌, ◌≤◌, List, [], ◌∷◌, ◌++◌, length, drop, ap, ◌∙◌, sym, refl, arith, All, length-append}
use Rattle.std.specs.Prelude.{cond}
use Rattle.std.specs.List.{fold, sum_by}
use Rattle.std.proofs.lemmas.List.Elements.{All-append, All-nil, All-weaker}
use Rattle.std.proofs.lemmas.List.Sums.{count_by-le-length, fold-append, sum_by-cons, sum_by-le}
use Rattle.nav_base.specs.declared.point.Question.{Question}
use Rattle.nav_base.specs.declared.point.Question.TheVariants as questions
use Rattle.mesh_types.specs.declared.answers.Answer.{Answer}
use Rattle.mesh_types.specs.declared.answers.Answer.TheVariants as kinds
use Rattle.nav_query.specs.Questions.{HasLowCost}
use Rattle.nav_script.specs.declared.script.Line.{Line}
use Rattle.nav_script.specs.declared.script.Line.TheVariants.{Ask}
use Rattle.nav_record.specs.declared.step.Totals.{Totals}
use Rattle.nav_play.specs.PlayStates.{PlayState, state_after}
use Rattle.nav_play.specs.PlayTotals.{CountAnswers, IsCounted, cost_of, is_no_goal, is_no_path, is_no_start, is_path}
use Rattle.nav_play.specs.Tallies.{HasCounted, HasCountedAnswer, HasRoom, no_answers, totals_with}
use Rattle.nav_play.proofs.Lists.{none_more}
use Rattle.nav_play.proofs.Runs.{IsUnderWay, begun, goes_on}

-- what a line was answered, as answers that are counted
pub record AddsAnswers (state : PlayState) (line : Line) (before after : Totals) : Type 0 where
  pub said : List Answer
  pub fits : IsCounted state line said
  pub counted : after ≡ fold totals_with before said
  pub few : length said ≤ 1
  pub low : All HasLowCost said

one_low : (answer : Answer) → HasLowCost answer → All HasLowCost (answer ∷ [])
one_low answer low zero d there = low
one_low answer low (suc k) d there = absurd (omega (arith, there))

answer_counted : (state : PlayState) (question : Question) (before after : Totals) → HasCountedAnswer state.book question before after
    → AddsAnswers state (Ask question) before after
answer_counted state (questions.Path from from_y to to_y) before after has = record {
  said = has.answer ∷ [];
  fits = record { answer = has.answer; right = has.right; alone = refl };
  counted = has.counted;
  few = omega arith;
  low = one_low has.answer has.low;
}
answer_counted state (questions.Floor x z) before after has =
    record { said = []; fits = refl; counted = has.counted; few = omega arith; low = All-nil HasLowCost }
answer_counted state (questions.Ray from from_y to) before after has =
    record { said = []; fits = refl; counted = has.counted; few = omega arith; low = All-nil HasLowCost }

-- a line that counts no answer
no_answer : (state : PlayState) (line : Line) (before after : Totals) → IsCounted state line [] → after ≡ before → AddsAnswers state line before after
no_answer state line before after fits same = record { said = []; fits = fits; counted = same; few = omega arith; low = All-nil HasLowCost }

pub adds_answers : (state : PlayState) (line : Line) (before after : Totals) → HasCounted state line before after → AddsAnswers state line before after
adds_answers state (Ask question) before after has = answer_counted state question before after has
adds_answers state line before after same = no_answer state line before after refl same

-- the totals are those of answers that are right, one at most for each line so far
pub record IsTallied (first : PlayState) (lines : List Line) (done : ℕ) (state : PlayState) (totals : Totals) : Type 0 where
  pub given : List Answer
  pub way : IsUnderWay IsCounted first lines done state given
  pub is : totals ≡ fold totals_with no_answers given
  pub few : length given ≤ done
  pub low : All HasLowCost given

pub tally_begun : (first : PlayState) (lines : List Line) (state : PlayState) (totals : Totals) → state ≡ first → totals ≡ no_answers
    → IsTallied first lines 0 state totals
tally_begun first lines state totals same none = record {
  given = [];
  way = begun IsCounted first lines state [] same refl;
  is = none;
  few = omega arith;
  low = All-nil HasLowCost;
}

pub tally_goes_on : (first : PlayState) (lines : List Line) (done : ℕ) (state next : PlayState) (totals more : Totals) (this : Line)
    → IsTallied first lines done state totals
    → drop done lines ≡ this ∷ drop (done + 1) lines
    → HasCounted state this totals more
    → next ≡ state_after state this
    → IsTallied first lines (done + 1) next more
tally_goes_on first lines done state next totals more this so_far left has next_is =
    let adds = adds_answers state this totals more has in
    record {
      given = so_far.given ++ adds.said;
      way = goes_on IsCounted first lines done state next so_far.given (so_far.given ++ adds.said) this so_far.way left
          (record { said = adds.said; written = refl; fits = adds.fits }) next_is;
      is = adds.counted ∙ ap (λ (t : Totals). fold totals_with t adds.said) so_far.is ∙ sym (fold-append totals_with no_answers so_far.given adds.said);
      few = omega (arith, so_far.few, adds.few, length-append so_far.given adds.said);
      low = All-append HasLowCost so_far.given adds.said so_far.low adds.low;
    }

-- a number that each answer raises by its own part is the sum of these parts
tally_sum : (f : Totals → ℕ) (g : Answer → ℕ) → ((t : Totals) (a : Answer) → f (totals_with t a) ≡ f t + g a)
    → (t : Totals) (given : List Answer) → f (fold totals_with t given) ≡ f t + sum_by g given
tally_sum f g step t [] = omega arith
tally_sum f g step t (a ∷ given) =
    let one = step t a in
    let all = sum_by-cons g a given in
    tally_sum f g step (totals_with t a) given ∙ omega (arith, one, all)

-- and from none of it on
tally_total : (f : Totals → ℕ) (g : Answer → ℕ) → ((t : Totals) (a : Answer) → f (totals_with t a) ≡ f t + g a) → f no_answers ≡ 0
    → (totals : Totals) (given : List Answer) → totals ≡ fold totals_with no_answers given → f totals ≡ sum_by g given
tally_total f g step none totals given is =
    let all = tally_sum f g step no_answers given in
    ap f is ∙ omega (arith, all, none)

paths_step : (t : Totals) (a : Answer) → (totals_with t a).paths ≡ t.paths + (cond (is_path a) 1 0)
paths_step t (kinds.Path found) = refl
paths_step t kinds.NoPath = none_more _
paths_step t kinds.NoStart = none_more _
paths_step t kinds.NoGoal = none_more _
paths_step t (kinds.Floors floors) = none_more _
paths_step t (kinds.Reached at) = none_more _
paths_step t (kinds.Wall a b num den) = none_more _

no_path_step : (t : Totals) (a : Answer) → (totals_with t a).nopath ≡ t.nopath + (cond (is_no_path a) 1 0)
no_path_step t (kinds.Path found) = none_more _
no_path_step t kinds.NoPath = refl
no_path_step t kinds.NoStart = none_more _
no_path_step t kinds.NoGoal = none_more _
no_path_step t (kinds.Floors floors) = none_more _
no_path_step t (kinds.Reached at) = none_more _
no_path_step t (kinds.Wall a b num den) = none_more _

no_start_step : (t : Totals) (a : Answer) → (totals_with t a).nostart ≡ t.nostart + (cond (is_no_start a) 1 0)
no_start_step t (kinds.Path found) = none_more _
no_start_step t kinds.NoPath = none_more _
no_start_step t kinds.NoStart = refl
no_start_step t kinds.NoGoal = none_more _
no_start_step t (kinds.Floors floors) = none_more _
no_start_step t (kinds.Reached at) = none_more _
no_start_step t (kinds.Wall a b num den) = none_more _

no_goal_step : (t : Totals) (a : Answer) → (totals_with t a).nogoal ≡ t.nogoal + (cond (is_no_goal a) 1 0)
no_goal_step t (kinds.Path found) = none_more _
no_goal_step t kinds.NoPath = none_more _
no_goal_step t kinds.NoStart = none_more _
no_goal_step t kinds.NoGoal = refl
no_goal_step t (kinds.Floors floors) = none_more _
no_goal_step t (kinds.Reached at) = none_more _
no_goal_step t (kinds.Wall a b num den) = none_more _

cost_step : (t : Totals) (a : Answer) → (totals_with t a).cost ≡ t.cost + cost_of a
cost_step t (kinds.Path found) = refl
cost_step t kinds.NoPath = none_more _
cost_step t kinds.NoStart = none_more _
cost_step t kinds.NoGoal = none_more _
cost_step t (kinds.Floors floors) = none_more _
cost_step t (kinds.Reached at) = none_more _
cost_step t (kinds.Wall a b num den) = none_more _

-- they count the answers
pub counts : (given : List Answer) (totals : Totals) → totals ≡ fold totals_with no_answers given → CountAnswers given totals
counts given totals is = record {
  paths = tally_total (λ t. t.paths) (λ a. cond (is_path a) 1 0) paths_step refl totals given is;
  no_path = tally_total (λ t. t.nopath) (λ a. cond (is_no_path a) 1 0) no_path_step refl totals given is;
  no_start = tally_total (λ t. t.nostart) (λ a. cond (is_no_start a) 1 0) no_start_step refl totals given is;
  no_goal = tally_total (λ t. t.nogoal) (λ a. cond (is_no_goal a) 1 0) no_goal_step refl totals given is;
  cost = tally_total (λ t. t.cost) cost_of cost_step refl totals given is;
}

-- a low cost
low_cost : (a : Answer) → HasLowCost a → cost_of a ≤ 35184372088832
low_cost (kinds.Path found) low = omega (arith, low)
low_cost kinds.NoPath low = omega arith
low_cost kinds.NoStart low = omega arith
low_cost kinds.NoGoal low = omega arith
low_cost (kinds.Floors floors) low = omega arith
low_cost (kinds.Reached at) low = omega arith
low_cost (kinds.Wall a b num den) low = omega arith

-- before each of at most 300000 lines there is room for one answer more
pub room : (first : PlayState) (lines : List Line) (done : ℕ) (state : PlayState) (totals : Totals) → IsTallied first lines done state totals → done < 300000
    → HasRoom totals
room first lines done state totals so_far few_lines =
    let counted = counts so_far.given totals so_far.is in
    let costs : sum_by cost_of so_far.given ≤ length so_far.given * 35184372088832 =
    sum_by-le cost_of 35184372088832 so_far.given (All-weaker HasLowCost (λ a. cost_of a ≤ 35184372088832) low_cost so_far.given so_far.low) in
    record {
      paths = omega (arith, counted.paths, count_by-le-length is_path so_far.given, so_far.few, few_lines);
      nopath = omega (arith, counted.no_path, count_by-le-length is_no_path so_far.given, so_far.few, few_lines);
      nostart = omega (arith, counted.no_start, count_by-le-length is_no_start so_far.given, so_far.few, few_lines);
      nogoal = omega (arith, counted.no_goal, count_by-le-length is_no_goal so_far.given, so_far.few, few_lines);
      cost = omega (arith, counted.cost, costs, so_far.few, few_lines);
    }
