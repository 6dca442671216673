-- Whole: who sees nobody is alone, has its wish at the head of its list, and is named in the order, so it goes as it wishes.
use Rattle.std.proofs.Common.{◌≡◌, ℕ, ◌+◌, ◌<◌, ◌≤◌, List, length, get_or, subst, ap, ◌∙◌, inl, inr, arith}
use Rattle.std.specs.Prelude.{Bool, max, slice_get, Some}
use Rattle.std.proofs.lemmas.Option.{slice_get_within, slice_get-get_or}
use Rattle.nav_base.specs.declared.point.Point.{Point}
use Rattle.nav_base.specs.Point.{IsWithin, from_to}
use Rattle.mesh_types.specs.declared.mesh.Mesh.{Mesh}
use Rattle.crowd_moves.specs.declared.agents.CrowdAgent.{CrowdAgent}
use Rattle.crowd_moves.specs.declared.agents.CrowdMove.{CrowdMove}
use Rattle.crowd_moves.specs.Contacts.{begin_at}
use Rattle.crowd_moves.specs.Pairs.{IsNear}
use Rattle.crowd_moves.specs.Steps.{IsAlone}
use Rattle.crowd_moves.specs.Wishes.{DoLoneGo}
use Rattle.crowd_moves.proofs.PairLaws.{within_more}
use Rattle.crowd_moves.proofs.StepLaws.{no_agent}
use Rattle.crowd_filter.specs.CrowdAgents.{MayWalk}
use Rattle.crowd_filter.specs.CrowdSteps.{ArePlacedAnew, IsCrowdStep}
use Rattle.crowd_filter.specs.Placing.{IsPlacedAnew}
use Rattle.crowd_step.specs.declared.steering.Steering.{Steering}
use Rattle.crowd_step.specs.Lists.{AreListed}
use Rattle.crowd_step.specs.Orders.{AreNamed}
use Rattle.crowd_step.specs.Steered.{DoLoneGoWhole, IsInSight, IsSteeredStep, SeesNobody}

-- an agent of the same sizes at the same place
record IsSame (a b : CrowdAgent) : Type 0 where
  pub at : b.at ≡ a.at
  pub radius : b.radius ≡ a.radius
  pub speed : b.speed ≡ a.speed

same_placed : (mesh : Mesh) (a b : CrowdAgent) → IsPlacedAnew mesh a b → IsSame a b
same_placed mesh a b (inl kept) = record {
  at = ap (λ (x : CrowdAgent). x.at) kept.placed;
  radius = ap (λ (x : CrowdAgent). x.radius) kept.placed;
  speed = ap (λ (x : CrowdAgent). x.speed) kept.placed;
}
same_placed mesh a b (inr (inl over)) = record {
  at = ap (λ (x : CrowdAgent). x.at) over.placed;
  radius = ap (λ (x : CrowdAgent). x.radius) over.placed;
  speed = ap (λ (x : CrowdAgent). x.speed) over.placed;
}
same_placed mesh a b (inr (inr stranded)) = record {
  at = ap (λ (x : CrowdAgent). x.at) stranded.placed;
  radius = ap (λ (x : CrowdAgent). x.radius) stranded.placed;
  speed = ap (λ (x : CrowdAgent). x.speed) stranded.placed;
}

-- two that are near are in sight of each other, also as they were before they were placed
in_sight : (sight : ℕ) (a b x y : CrowdAgent) → IsSame a x → IsSame b y → IsNear x y → IsInSight sight a b
in_sight sight a b x y same same' near =
    within_more (from_to a.at b.at) (a.radius + b.radius + a.speed + b.speed) (max sight (a.radius + b.radius + a.speed + b.speed))
    (most sight (a.radius + b.radius + a.speed + b.speed))
    (subst (λ (n : ℕ). IsWithin n (from_to a.at b.at)) (sums same.radius same'.radius same.speed same'.speed)
    (subst (λ (p : Point). IsWithin (x.radius + y.radius + x.speed + y.speed) (from_to p b.at)) same.at
    (subst (λ (p : Point). IsWithin (x.radius + y.radius + x.speed + y.speed) (from_to x.at p)) same'.at near)))
  where
    most : (m n : ℕ) → n ≤ max m n
    most m n = omega arith

    sums : x.radius ≡ a.radius → y.radius ≡ b.radius → x.speed ≡ a.speed → y.speed ≡ b.speed
        → x.radius + y.radius + x.speed + y.speed ≡ a.radius + b.radius + a.speed + b.speed
    sums e f g h = omega (arith, e, f, g, h)

module _ (mesh : Mesh) (sight : ℕ) (before placed : List CrowdAgent) (places : ArePlacedAnew mesh before placed) where
  there : (i : ℕ) (x : CrowdAgent) → slice_get placed i ≡ Some x → slice_get before i ≡ Some (get_or before i no_agent)
  there i x is = slice_get-get_or before i no_agent (omega (arith, slice_get_within placed i x is, places.one_each))

  same_there : (i : ℕ) (x : CrowdAgent) → slice_get placed i ≡ Some x → IsSame (get_or before i no_agent) x
  same_there i x is = same_placed mesh (get_or before i no_agent) x (places.each i (get_or before i no_agent) x (there i x is) is)

  alone : (i : ℕ) → SeesNobody sight before i → IsAlone placed i
  alone i sees = λ j x y other is_x is_y near.
      sees j (get_or before i no_agent) (get_or before j no_agent) other (there i x is_x) (there j y is_y)
      (in_sight sight (get_or before i no_agent) (get_or before j no_agent) x y (same_there i x is_x) (same_there j y is_y) near)

  pub go_whole : (steering : List Steering) (order first : List ℕ) (vectors : List Point) (moves : List CrowdMove) → AreNamed (length before) order
      → AreListed sight before steering first vectors (length before) → DoLoneGo (MayWalk mesh) placed order first vectors moves (length order)
      → DoLoneGoWhole mesh sight steering before placed moves
  go_whole steering order first vectors moves named listed lone = λ i own a m is_own is_a is_m sees may.
      let inside : i < length before = omega (arith, slice_get_within placed i a is_a, places.one_each) in
      let name = named i inside in
      lone name.0 i a name.1 (slice_get-get_or order name.0 i name.1 ∙ ap Some name.2) is_a (alone i sees) (begin_at first i) own.wish m
      (record {
        listed = listed.lone i own inside is_own sees;
        holds = may;
        none_before = λ l other from below is p. absurd (omega (arith, from, below));
      }) is_m

-- a step by these lists is one of a crowd that steers itself
pub steered : (mesh : Mesh) (sight : ℕ) (steering : List Steering) (before after : List CrowdAgent) (order first : List ℕ) (vectors : List Point)
    (settles : Bool) → AreNamed (length before) order → AreListed sight before steering first vectors (length before)
    → IsCrowdStep mesh order first vectors before after settles → IsSteeredStep mesh sight steering before after
steered mesh sight steering before after order first vectors settles named listed step = record {
  order = order;
  first = first;
  vectors = vectors;
  settles = settles;
  step = step;
  whole = go_whole mesh sight before step.placed step.places steering order first vectors step.moves named listed step.granted.lone;
}
