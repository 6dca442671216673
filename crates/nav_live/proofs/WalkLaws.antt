-- What lines of a walker were told stays right while the history grows, and one line more keeps the rules.
use Rattle.std.proofs.Common.{◌≡◌, ◌∙◌, refl, sym, ap, subst, ℕ, ◌≤◌, List, [], ◌∷◌, ◌++◌, length, Option, Some, None, fold, arith, length-append}
use Rattle.std.specs.Prelude.{⊤}
use Rattle.std.proofs.lemmas.List.Elements.{All-head, All-tail}
use Rattle.std.proofs.lemmas.List.Sums.{fold_push}
use mathlib.Core.List.{IsPrefix}
use Rattle.nav_base.specs.declared.point.Point.{Point}
use Rattle.nav_ground.specs.declared.history.Entry.{Entry}
use Rattle.nav_ground.specs.declared.history.Ground.{Ground}
use Rattle.mesh_types.specs.declared.answers.WalkAnswer.{WalkAnswer}
use Rattle.mesh_types.specs.declared.answers.WalkAnswer.TheVariants.{Walking, NoStart, NoGoal, NoPath}
use Rattle.mesh_types.specs.Builds.{build_of}
use Rattle.mesh_types.specs.WholeMesh.{poly_at}
use Rattle.agent_walks.specs.declared.walkers.Walker.{Walker}
use Rattle.agent_walks.specs.Marches.{IsMarched, IsSent}
use Rattle.agent_walks.specs.Walkers.{IsUnderWay, walker_of}
use Rattle.nav_script.specs.declared.script.Line.{Line}
use Rattle.nav_script.specs.declared.script.Line.TheVariants.{Send, March}
use Rattle.nav_book.proofs.GroundTiles.{build_of-append}
use Rattle.nav_live.specs.declared.lane.LineAnswer.{LineAnswer}
use Rattle.nav_live.specs.declared.lane.LineAnswer.TheVariants.{Walked, NoWalker}
use Rattle.nav_live.specs.LaneEntries.{Spoken}
use Rattle.nav_live.specs.LaneWalkers.{Standing, AreMoved, IsMarchOf, IsMarchTold, IsMoved, IsSentTo, last_standing, standing_after, standing_of, standing_with}
use Rattle.nav_live.specs.LaneRecords.{IsSaid}
use Rattle.nav_live.specs.Lanes.{AreAnswers, IsWalkerOf, KeepsWalker}

-- the length at which a walker was last placed is one of the history
abbrev IsKnown : List Entry → Option Standing → Type 0
IsKnown history None = ⊤
IsKnown history (Some standing) = standing.k ≤ length history

known_of : (history : List Entry) (k : ℕ) (goal : Point) (goal_y : ℕ) (answer : WalkAnswer) → k ≤ length history → IsKnown history (standing_of k goal goal_y answer)
known_of history k goal goal_y (Walking at point y cost links) within = within
known_of history k goal goal_y NoStart within = tt
known_of history k goal goal_y NoGoal within = tt
known_of history k goal goal_y NoPath within = tt

known_after : (ground : Ground) (history : List Entry) (standing : Option Standing) (line : Line) (said : LineAnswer) → IsKnown history standing → IsSaid ground history line said
    → IsKnown history (standing_after standing line said)
known_after ground history standing (Send from from_y to to_y) (Walked k answer) known is = known_of history k to to_y answer is
known_after ground history (Some standing) (March far) (Walked k answer) known is = known_of history k standing.goal standing.goal_y answer is
known_after ground history None (March far) (Walked k answer) known is = tt
known_after ground history standing _ _ known is = known

sent_later : (ground : Ground) (history more : List Entry) (from : Point) (from_y : ℕ) (to : Point) (to_y : ℕ) (said : LineAnswer)
    → IsSaid ground history (Send from from_y to to_y) said → IsSentTo ground history from from_y to to_y said → IsSentTo ground (history ++ more) from from_y to to_y said
sent_later ground history more from from_y to to_y (Walked k answer) is sent =
    subst (λ mesh. IsSent mesh from from_y to to_y answer) (sym (build_of-append ground history more k is)) sent
sent_later ground history more from from_y to to_y _ is sent = absurd is

march_later : (ground : Ground) (history more : List Entry) (standing : Standing) (far k : ℕ) (answer : WalkAnswer) → standing.k ≤ length history → k ≤ length history
    → IsMarchOf ground history standing far k answer → IsMarchOf ground (history ++ more) standing far k answer
march_later ground history more standing far k answer known within is = record {
  polygon = is.polygon;
  there = ap (λ mesh. poly_at mesh standing.at) (build_of-append ground history more standing.k known) ∙ is.there;
  marched =
      subst (λ mesh. IsMarched mesh standing.point is.polygon.low standing.goal standing.goal_y far answer)
      (sym (build_of-append ground history more k within)) is.marched;
}

marched_later : (ground : Ground) (history more : List Entry) (far : ℕ) (standing : Option Standing) (said : LineAnswer) → IsKnown history standing
    → IsSaid ground history (March far) said → IsMarchTold ground history far standing said → IsMarchTold ground (history ++ more) far standing said
marched_later ground history more far (Some standing) (Walked k answer) known is told = march_later ground history more standing far k answer known is told
marched_later ground history more far None NoWalker known is told = tt
marched_later ground history more far _ _ known is told = absurd told

moved_later : (ground : Ground) (history more : List Entry) (standing : Option Standing) (line : Line) (said : LineAnswer) → IsKnown history standing
    → IsSaid ground history line said → IsMoved ground history standing line said → IsMoved ground (history ++ more) standing line said
moved_later ground history more standing (Send from from_y to to_y) said known is moved = sent_later ground history more from from_y to to_y said is moved
moved_later ground history more standing (March far) said known is moved = marched_later ground history more far standing said known is moved
moved_later ground history more standing _ said known is moved = moved

all_moved_later : (ground : Ground) (history more : List Entry) (standing : Option Standing) (spoken : List Spoken) → IsKnown history standing
    → AreAnswers ground history spoken → AreMoved ground history standing spoken → AreMoved ground (history ++ more) standing spoken
all_moved_later ground history more standing [] known are moved = tt
all_moved_later ground history more standing (one ∷ rest) known are moved =
    let P : Spoken → Type 0 = λ one. IsSaid ground history one.0 one.1 in
    let is = All-head P one rest are in (
      moved_later ground history more standing one.0 one.1 known is moved.0,
      all_moved_later ground history more (standing_with standing one) rest (known_after ground history standing one.0 one.1 known is) (All-tail P one rest are) moved.1,
    )

walker_later : (ground : Ground) (history more : List Entry) (standing : Option Standing) (walker : Option Walker) → IsWalkerOf ground history standing walker
    → IsWalkerOf ground (history ++ more) standing walker
walker_later ground history more (Some standing) (Some walker) is = record {
  within = omega (arith, is.within, length-append history more);
  k = is.k;
  at = is.at;
  point = is.point;
  goal = is.goal;
  goal_y = is.goal_y;
  polygon = is.polygon;
  there = ap (λ mesh. poly_at mesh standing.at) (build_of-append ground history more standing.k is.within) ∙ is.there;
  floor = is.floor;
}
walker_later ground history more None None is = tt
walker_later ground history more _ _ is = absurd is

-- what lines of a walker were told, and the walker that they leave, are so in every longer history
pub walks_later : (ground : Ground) (history longer : List Entry) (spoken : List Spoken) (walker : Option Walker) → IsPrefix history longer
    → AreAnswers ground history spoken → KeepsWalker ground history spoken walker → KeepsWalker ground longer spoken walker
walks_later ground history longer spoken walker p are keeps =
    subst (λ list. KeepsWalker ground list spoken walker) p.1 (record {
      moved = all_moved_later ground history p.0 None spoken tt are keeps.moved;
      stands = walker_later ground history p.0 (last_standing spoken) walker keeps.stands;
    })

moved_and : (ground : Ground) (history : List Entry) (standing : Option Standing) (spoken : List Spoken) (one : Spoken) → AreMoved ground history standing spoken
    → IsMoved ground history (fold standing_with standing spoken) one.0 one.1 → AreMoved ground history standing (spoken ++ one ∷ [])
moved_and ground history standing [] one are moved = (moved, tt)
moved_and ground history standing (first ∷ more) one are moved = (are.0, moved_and ground history (standing_with standing first) more one are.1 moved)

-- one line more, which was told of the walker what it may be told, and leaves this one
pub walks_and : (ground : Ground) (history : List Entry) (spoken : List Spoken) (one : Spoken) (walker after : Option Walker) → KeepsWalker ground history spoken walker
    → IsMoved ground history (last_standing spoken) one.0 one.1 → IsWalkerOf ground history (standing_with (last_standing spoken) one) after
    → KeepsWalker ground history (spoken ++ one ∷ []) after
walks_and ground history spoken one walker after keeps moved stands = record {
  moved = moved_and ground history None spoken one keeps.moved moved;
  stands = subst (λ standing. IsWalkerOf ground history standing after) (sym (fold_push standing_with None spoken one)) stands;
}

-- a line that has nothing to do with walkers leaves the one that there is
abbrev pub LeavesWalker : Spoken → Type 0
LeavesWalker one =
    ((standing : Option Standing) → standing_with standing one ≡ standing)
    × ((ground : Ground) (history : List Entry) (standing : Option Standing) → IsMoved ground history standing one.0 one.1)

pub walks_past : (ground : Ground) (history longer : List Entry) (spoken : List Spoken) (one : Spoken) (walker after : Option Walker) → IsPrefix history longer
    → AreAnswers ground history spoken → KeepsWalker ground history spoken walker → after ≡ walker → LeavesWalker one
    → KeepsWalker ground longer (spoken ++ one ∷ []) after
walks_past ground history longer spoken one walker after p are keeps same leaves =
    let there = walks_later ground history longer spoken walker p are keeps in
    let stands = subst (λ w. IsWalkerOf ground longer (last_standing spoken) w) (sym same) there.stands in
    walks_and ground longer spoken one walker after there (leaves.1 ground longer (last_standing spoken))
    (subst (λ standing. IsWalkerOf ground longer standing after) (sym (leaves.0 (last_standing spoken))) stands)

-- the walker that an answer leaves is the one of which its lines speak
stands_of : (ground : Ground) (history : List Entry) (k : ℕ) (goal : Point) (goal_y : ℕ) (answer : WalkAnswer) (walker : Option Walker) → k ≤ length history
    → walker ≡ walker_of k goal goal_y answer → IsUnderWay (build_of ground history k) goal goal_y answer → IsWalkerOf ground history (standing_of k goal goal_y answer) walker
stands_of ground history k goal goal_y (Walking at point y cost links) walker within is way =
    subst (IsWalkerOf ground history (standing_of k goal goal_y (Walking at point y cost links))) (sym is) (record {
      within = within;
      k = refl;
      at = refl;
      point = refl;
      goal = refl;
      goal_y = refl;
      polygon = way.polygon;
      there = way.there;
      floor = way.floor;
    })
stands_of ground history k goal goal_y NoStart walker within is way = subst (IsWalkerOf ground history None) (sym is) tt
stands_of ground history k goal goal_y NoGoal walker within is way = subst (IsWalkerOf ground history None) (sym is) tt
stands_of ground history k goal goal_y NoPath walker within is way = subst (IsWalkerOf ground history None) (sym is) tt

-- a `send` more
pub walks_sent : (ground : Ground) (history : List Entry) (spoken : List Spoken) (walker after : Option Walker) (from : Point) (from_y : ℕ) (to : Point) (to_y k : ℕ)
    (answer : WalkAnswer) → KeepsWalker ground history spoken walker → k ≤ length history → IsSent (build_of ground history k) from from_y to to_y answer
    → after ≡ walker_of k to to_y answer → IsUnderWay (build_of ground history k) to to_y answer
    → KeepsWalker ground history (spoken ++ (Send from from_y to to_y, Walked k answer) ∷ []) after
walks_sent ground history spoken walker after from from_y to to_y k answer keeps within sent is way =
    walks_and ground history spoken (Send from from_y to to_y, Walked k answer) walker after keeps sent (stands_of ground history k to to_y answer after within is way)

-- what a march of the walker of which lines speak is told
told_march : (ground : Ground) (history : List Entry) (standing : Option Standing) (walker : Walker) (far k : ℕ) (answer : WalkAnswer)
    → IsWalkerOf ground history standing (Some walker)
    → IsMarched (build_of ground history k) walker.point walker.y walker.goal walker.goal_y far answer → IsMarchTold ground history far standing (Walked k answer)
told_march ground history (Some standing) walker far k answer is marched =
    let mesh = build_of ground history k in
    let low = is.polygon.low in record {
      polygon = is.polygon;
      there = is.there;
      marched =
          subst (λ point. IsMarched mesh point low standing.goal standing.goal_y far answer) is.point
          (subst (λ y. IsMarched mesh walker.point y standing.goal standing.goal_y far answer) is.floor
          (subst (λ goal. IsMarched mesh walker.point walker.y goal standing.goal_y far answer) is.goal
          (subst (λ goal_y. IsMarched mesh walker.point walker.y walker.goal goal_y far answer) is.goal_y marched)));
    }
told_march ground history None walker far k answer is marched = absurd is

-- and the walker that it leaves
left_by_march : (ground : Ground) (history : List Entry) (standing : Option Standing) (walker : Walker) (after : Option Walker) (far k : ℕ) (answer : WalkAnswer)
    → IsWalkerOf ground history standing (Some walker) → k ≤ length history → after ≡ walker_of k walker.goal walker.goal_y answer
    → IsUnderWay (build_of ground history k) walker.goal walker.goal_y answer → IsWalkerOf ground history (standing_after standing (March far) (Walked k answer)) after
left_by_march ground history (Some standing) walker after far k answer was within is way =
    stands_of ground history k standing.goal standing.goal_y answer after within
    (is ∙ ap (λ goal. walker_of k goal walker.goal_y answer) was.goal ∙ ap (λ goal_y. walker_of k standing.goal goal_y answer) was.goal_y)
    (subst (λ goal. IsUnderWay (build_of ground history k) goal standing.goal_y answer) was.goal
    (subst (λ goal_y. IsUnderWay (build_of ground history k) walker.goal goal_y answer) was.goal_y way))
left_by_march ground history None walker after far k answer was within is way = absurd was

-- a march more
pub walks_marched : (ground : Ground) (history : List Entry) (spoken : List Spoken) (walker : Walker) (after : Option Walker) (far k : ℕ) (answer : WalkAnswer)
    → KeepsWalker ground history spoken (Some walker) → k ≤ length history
    → IsMarched (build_of ground history k) walker.point walker.y walker.goal walker.goal_y far answer
    → after ≡ walker_of k walker.goal walker.goal_y answer → IsUnderWay (build_of ground history k) walker.goal walker.goal_y answer
    → KeepsWalker ground history (spoken ++ (March far, Walked k answer) ∷ []) after
walks_marched ground history spoken walker after far k answer keeps within marched is way =
    walks_and ground history spoken (March far, Walked k answer) (Some walker) after keeps
    (told_march ground history (last_standing spoken) walker far k answer keeps.stands marched)
    (left_by_march ground history (last_standing spoken) walker after far k answer keeps.stands within is way)

none_told : (ground : Ground) (history : List Entry) (far : ℕ) (standing : Option Standing) → IsWalkerOf ground history standing None → IsMarchTold ground history far standing NoWalker
none_told ground history far None is = tt
none_told ground history far (Some standing) is = absurd is

-- a march more where there is no walker
pub walks_not : (ground : Ground) (history : List Entry) (spoken : List Spoken) (far : ℕ) → KeepsWalker ground history spoken None
    → KeepsWalker ground history (spoken ++ (March far, NoWalker) ∷ []) None
walks_not ground history spoken far keeps =
    walks_and ground history spoken (March far, NoWalker) None None keeps (none_told ground history far (last_standing spoken) keeps.stands) keeps.stands
