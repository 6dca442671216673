-- All totals of one play are the same.
use Rattle.std.proofs.Common.{◌≡◌, ℕ, ◌+◌, List, [], ◌∷◌, ap, ◌∙◌, sym, refl}
use Rattle.std.specs.Prelude.{cond}
use Rattle.std.specs.List.{sum_by}
use Rattle.std.proofs.lemmas.List.Sums.{sum_by-append, sum_by-cons}
use Rattle.nav_base.specs.declared.point.Question.{Question}
use Rattle.nav_base.specs.declared.point.Question.TheVariants as questions
use Rattle.mesh_types.specs.declared.answers.Answer.{Answer}
use Rattle.mesh_types.specs.declared.answers.Answer.TheVariants.{Floors, Path, NoStart, NoGoal, NoPath, Reached, Wall}
use Rattle.mesh_types.specs.declared.mesh.Mesh.{Mesh}
use Rattle.mesh_types.specs.Right.{AreAlike}
use Rattle.mesh_types.proofs.RightLaws.{alike}
use Rattle.nav_book.specs.Results.{published_mesh}
use Rattle.nav_record.specs.declared.step.Totals.{Totals}
use Rattle.nav_script.specs.declared.script.Line.{Line}
use Rattle.nav_script.specs.declared.script.Line.TheVariants.{Ask}
use Rattle.nav_play.specs.PlayStates.{PlayState, state_after}
use Rattle.nav_play.specs.PlayRecord.{AreSaid}
use Rattle.nav_play.specs.PlayTotals.{AreTotalsFrom, IsCounted, IsPathAnswer, cost_of, is_no_goal, is_no_path, is_no_start, is_path}

-- what two answers add to the counts is the same
record CountAlike (x y : Answer) : Type 0 where
  pub path : is_path x ≡ is_path y
  pub no_path : is_no_path x ≡ is_no_path y
  pub no_start : is_no_start x ≡ is_no_start y
  pub no_goal : is_no_goal x ≡ is_no_goal y
  pub cost : cost_of x ≡ cost_of y

alike_counts : (x y : Answer) → AreAlike x y → CountAlike x y
alike_counts (Floors f) (Floors f') same = record { path = refl; no_path = refl; no_start = refl; no_goal = refl; cost = refl }
alike_counts (Floors f) (Path p') same = elim same [ ]
alike_counts (Floors f) NoStart same = elim same [ ]
alike_counts (Floors f) NoGoal same = elim same [ ]
alike_counts (Floors f) NoPath same = elim same [ ]
alike_counts (Floors f) (Reached at') same = elim same [ ]
alike_counts (Floors f) (Wall a' b' m' n') same = elim same [ ]
alike_counts (Path p) (Floors f') same = elim same [ ]
alike_counts (Path p) (Path p') same = record { path = refl; no_path = refl; no_start = refl; no_goal = refl; cost = same.1 }
alike_counts (Path p) NoStart same = elim same [ ]
alike_counts (Path p) NoGoal same = elim same [ ]
alike_counts (Path p) NoPath same = elim same [ ]
alike_counts (Path p) (Reached at') same = elim same [ ]
alike_counts (Path p) (Wall a' b' m' n') same = elim same [ ]
alike_counts NoStart (Floors f') same = elim same [ ]
alike_counts NoStart (Path p') same = elim same [ ]
alike_counts NoStart NoStart same = record { path = refl; no_path = refl; no_start = refl; no_goal = refl; cost = refl }
alike_counts NoStart NoGoal same = elim same [ ]
alike_counts NoStart NoPath same = elim same [ ]
alike_counts NoStart (Reached at') same = elim same [ ]
alike_counts NoStart (Wall a' b' m' n') same = elim same [ ]
alike_counts NoGoal (Floors f') same = elim same [ ]
alike_counts NoGoal (Path p') same = elim same [ ]
alike_counts NoGoal NoStart same = elim same [ ]
alike_counts NoGoal NoGoal same = record { path = refl; no_path = refl; no_start = refl; no_goal = refl; cost = refl }
alike_counts NoGoal NoPath same = elim same [ ]
alike_counts NoGoal (Reached at') same = elim same [ ]
alike_counts NoGoal (Wall a' b' m' n') same = elim same [ ]
alike_counts NoPath (Floors f') same = elim same [ ]
alike_counts NoPath (Path p') same = elim same [ ]
alike_counts NoPath NoStart same = elim same [ ]
alike_counts NoPath NoGoal same = elim same [ ]
alike_counts NoPath NoPath same = record { path = refl; no_path = refl; no_start = refl; no_goal = refl; cost = refl }
alike_counts NoPath (Reached at') same = elim same [ ]
alike_counts NoPath (Wall a' b' m' n') same = elim same [ ]
alike_counts (Reached at) (Floors f') same = elim same [ ]
alike_counts (Reached at) (Path p') same = elim same [ ]
alike_counts (Reached at) NoStart same = elim same [ ]
alike_counts (Reached at) NoGoal same = elim same [ ]
alike_counts (Reached at) NoPath same = elim same [ ]
alike_counts (Reached at) (Reached at') same = record { path = refl; no_path = refl; no_start = refl; no_goal = refl; cost = refl }
alike_counts (Reached at) (Wall a' b' m' n') same = elim same [ ]
alike_counts (Wall a b m n) (Floors f') same = elim same [ ]
alike_counts (Wall a b m n) (Path p') same = elim same [ ]
alike_counts (Wall a b m n) NoStart same = elim same [ ]
alike_counts (Wall a b m n) NoGoal same = elim same [ ]
alike_counts (Wall a b m n) NoPath same = elim same [ ]
alike_counts (Wall a b m n) (Reached at') same = elim same [ ]
alike_counts (Wall a b m n) (Wall a' b' m' n') same = record { path = refl; no_path = refl; no_start = refl; no_goal = refl; cost = refl }

-- a part that right answers to one question agree on
abbrev Agrees : (Answer → ℕ) → Type 0
Agrees part = (x y : Answer) → CountAlike x y → part x ≡ part y

question_same : (part : Answer → ℕ) → Agrees part → (mesh : Mesh) (question : Question) (xs ys : List Answer) → IsPathAnswer mesh question xs
    → IsPathAnswer mesh question ys → sum_by part xs ≡ sum_by part ys
question_same part agrees mesh (questions.Path from from_y to to_y) xs ys one other =
    ap (sum_by part) one.alone
    ∙ sum_by-cons part one.answer []
    ∙ ap (λ (n : ℕ). n + sum_by part []) (agrees one.answer other.answer (alike_counts one.answer other.answer
    (alike mesh (questions.Path from from_y to to_y) one.answer other.answer one.right other.right)))
    ∙ sym (sum_by-cons part other.answer [])
    ∙ sym (ap (sum_by part) other.alone)
question_same part agrees mesh (questions.Floor x z) xs ys one other = ap (sum_by part) one ∙ sym (ap (sum_by part) other)
question_same part agrees mesh (questions.Ray from from_y to) xs ys one other = ap (sum_by part) one ∙ sym (ap (sum_by part) other)

line_same : (part : Answer → ℕ) → Agrees part → (state : PlayState) (line : Line) (xs ys : List Answer) → IsCounted state line xs → IsCounted state line ys
    → sum_by part xs ≡ sum_by part ys
line_same part agrees state (Ask question) xs ys one other = question_same part agrees (published_mesh state.book) question xs ys one other
line_same part agrees state _ xs ys one other = ap (sum_by part) one ∙ sym (ap (sum_by part) other)

answers_same : (part : Answer → ℕ) → Agrees part → (state : PlayState) (lines : List Line) (xs ys : List Answer) → AreSaid IsCounted state lines xs
    → AreSaid IsCounted state lines ys → sum_by part xs ≡ sum_by part ys
unfolding AreSaid
answers_same part agrees state [] xs ys one other = ap (sum_by part) one ∙ sym (ap (sum_by part) other)
answers_same part agrees state (line ∷ lines) xs ys one other =
    let here = line_same part agrees state line one.said other.said one.said_fits other.said_fits in
    let behind = answers_same part agrees (state_after state line) lines one.rest other.rest one.rest_fits other.rest_fits in
    ap (sum_by part) one.parts ∙ sum_by-append part one.said one.rest
    ∙ (λ i. here i + behind i)
    ∙ sym (ap (sum_by part) other.parts ∙ sum_by-append part other.said other.rest)

-- two totals with the same numbers are the same
same_totals : (x y : Totals) → x.entries ≡ y.entries → x.published ≡ y.published → x.paths ≡ y.paths → x.nopath ≡ y.nopath → x.nostart ≡ y.nostart
    → x.nogoal ≡ y.nogoal → x.cost ≡ y.cost → x.polys ≡ y.polys → x.links ≡ y.links → x ≡ y
same_totals x y entries published paths nopath nostart nogoal cost polys links = λ i. record {
  entries = entries i;
  published = published i;
  paths = paths i;
  nopath = nopath i;
  nostart = nostart i;
  nogoal = nogoal i;
  cost = cost i;
  polys = polys i;
  links = links i;
}

-- all totals of the same lines from the same state are the same
pub one_totals : (state : PlayState) (lines : List Line) (x y : Totals) → AreTotalsFrom state lines x → AreTotalsFrom state lines y → x ≡ y
one_totals state lines x y one other =
    let same : (part : Answer → ℕ) → Agrees part → sum_by part one.given ≡ sum_by part other.given =
    λ part agrees. answers_same part agrees state lines one.given other.given one.right other.right in
    same_totals x y
    (one.ends.entries ∙ sym other.ends.entries)
    (one.ends.published ∙ sym other.ends.published)
    (one.counted.paths ∙ same (λ x. cond (is_path x) 1 0) (λ x y s. ap (λ b. cond b 1 0) s.path) ∙ sym other.counted.paths)
    (one.counted.no_path ∙ same (λ x. cond (is_no_path x) 1 0) (λ x y s. ap (λ b. cond b 1 0) s.no_path) ∙ sym other.counted.no_path)
    (one.counted.no_start ∙ same (λ x. cond (is_no_start x) 1 0) (λ x y s. ap (λ b. cond b 1 0) s.no_start) ∙ sym other.counted.no_start)
    (one.counted.no_goal ∙ same (λ x. cond (is_no_goal x) 1 0) (λ x y s. ap (λ b. cond b 1 0) s.no_goal) ∙ sym other.counted.no_goal)
    (one.counted.cost ∙ same cost_of (λ x y s. s.cost) ∙ sym other.counted.cost)
    (one.ends.polys ∙ sym other.ends.polys)
    (one.ends.links ∙ sym other.ends.links)
