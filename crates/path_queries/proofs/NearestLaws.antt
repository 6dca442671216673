-- What is answered to the question for the nearest goal, from what a search says of the polygons of its goals. Without a limit it is
-- determined but for which of equally cheap goals it is.
use Rattle.std.proofs.Common.{◌≡◌, ℕ, ◌<◌, List, length, sym, subst, inl, inr, arith}
use Rattle.std.specs.Prelude.{Contains, slice_index_or}
use Rattle.std.proofs.lemmas.List.{length-map}
use Rattle.std.proofs.lemmas.List.Elements.{All-contains}
use Rattle.mesh_types.specs.declared.answers.Corner.{Corner}
use Rattle.mesh_types.specs.declared.answers.Corridor.{Corridor}
use Rattle.mesh_types.specs.declared.answers.PathFound.{PathFound}
use Rattle.mesh_types.specs.declared.links.Link.{Link}
use Rattle.mesh_types.specs.declared.links.PolyRef.{PolyRef}
use Rattle.mesh_types.specs.declared.mesh.Mesh.{Mesh}
use Rattle.mesh_types.specs.Located.{IsLocated}
use Rattle.mesh_types.specs.Right.{portals_of}
use Rattle.mesh_types.specs.Soundness.{IsSound}
use Rattle.mesh_types.specs.Taut.{IsTaut}
use Rattle.mesh_types.proofs.RightLaws.{one_located}
use Rattle.graph_search.specs.declared.exploring.Limits.{Limits}
use Rattle.path_queries.specs.declared.nearest.HeldGoal.{HeldGoal}
use Rattle.path_queries.specs.declared.nearest.NearestAnswer.{NearestAnswer}
use Rattle.path_queries.specs.declared.nearest.NearestAnswer.TheVariants.{Found, Limit, NoStart, NoGoal, NoPath}
use Rattle.path_queries.specs.declared.nearest.NearestQuery.{NearestQuery}
use Rattle.path_queries.specs.Filters.{AllowedTo}
use Rattle.path_queries.specs.HeldGoals.{AreHeldGoals, polygons_held}
use Rattle.path_queries.specs.NearestGoals.{AreAlikeNearest, CanAskNearest, HasNoGoals, HasNoWayToGoals, HasSeenNone, IsGoalIn, IsNearestGoal, IsNearestWay, goal_at}
use Rattle.path_queries.specs.Reaches.{ArePlanLimits, IsBeyondSeen, IsNearest, IsReach}
use Rattle.path_queries.specs.declared.reach.Reach.TheVariants as reaches
use Rattle.path_queries.proofs.HeldLaws.{polygon-held}
use Rattle.path_queries.proofs.WayParts.{ArePulled, pulled}

module _ (mesh : Mesh) (query : NearestQuery) (first : PolyRef) (start : IsLocated mesh query.from query.from_y first) (held : List HeldGoal)
    (are : AreHeldGoals mesh query.goals held) where
  abbrev pub limits : Limits
  limits = record { key = query.most_cost; count = 18446744073709551615 }

  -- the first of the goals that are held
  pub record HasHeld : Type 0 where
    pub which : ℕ
    pub last : PolyRef
    pub goal : IsGoalIn mesh query.goals which last

  abbrev no_goal : HeldGoal
  no_goal = record { which = 0; at = record { tile = 0; index = 0 } }

  pub some-held : 0 < length held → HasHeld
  some-held some = record { which = (slice_index_or held 0 no_goal).which; last = (slice_index_or held 0 no_goal).at; goal = are.each 0 no_goal some }

  -- no walk to a goal
  pub apart-goals : 0 < length held → IsReach mesh query.filter first (polygons_held held) limits reaches.Apart → HasNoWayToGoals mesh query
  apart-goals some apart =
      let one = some-held some in
      record {
        first = first;
        start = start;
        which = one.which;
        last = one.last;
        goal = one.goal;
        no_walk = λ other at links is allowed. apart at links (polygon-held mesh query.goals held are other at is) allowed;
      }

  -- an end at the limit
  pub seen-none : (seen : ℕ) → 0 < length held → IsBeyondSeen mesh query.filter first (polygons_held held) limits seen → HasSeenNone mesh query seen
  seen-none seen some is =
      let one = some-held some in
      record {
        first = first;
        start = start;
        which = one.which;
        last = one.last;
        goal = one.goal;
        beyond = λ other at links goal allowed. is.beyond at links (polygon-held mesh query.goals held are other at goal) allowed;
        deep = is.past (omega arith);
        limited = by_limit is.limited;
      }
    where
      by_limit : ArePlanLimits query.most_cost 18446744073709551615 → query.most_cost < 18446744073709551615
      by_limit (inl cost) = cost
      by_limit (inr many) = absurd (omega (arith, many))

  -- the goal that was found
  pub goal-found : (which : ℕ) (at : PolyRef) → Contains held (record { which = which; at = at }) → IsGoalIn mesh query.goals which at
  goal-found which at is =
      All-contains (λ (goal : HeldGoal). IsGoalIn mesh query.goals goal.which goal.at) held (record { which = which; at = at }) are.each is

  module _ (which : ℕ) (at : PolyRef) (has : Contains held (record { which = which; at = at })) (corridor : Corridor)
      (is : IsNearest mesh query.filter first (polygons_held held) limits at corridor) where
    -- the portals of a way can be pulled
    pub nearest-pulled : IsSound mesh → CanAskNearest query → ArePulled query.from (portals_of corridor.links) (goal_at query.goals which).point
    nearest-pulled sound can =
        let goal = goal_at query.goals which in
        let found = goal-found which at has in
        pulled mesh query.from query.from_y goal.point goal.y first at corridor.links sound can.from (can.goals which _ found.there) start found.located
        is.cheapest.allowed.walks

    pub nearest-few : length (portals_of corridor.links) < 4294967295
    nearest-few = omega (arith, is.few, length-map corridor.links (λ (link : Link). link.portal))

    pub nearest-way : (turns : List Corner) → IsTaut query.from (portals_of corridor.links) (goal_at query.goals which).point turns
        → IsNearestWay mesh query which at (record { first = first; cost = corridor.cost; links = corridor.links; turns = turns })
    nearest-way turns taut = record {
      start = start;
      goal = goal-found which at has;
      cheapest = is.cheapest;
      none_less = λ other at' links goal allowed. is.none_less at' links (polygon-held mesh query.goals held are other at' goal) allowed;
      taut = taut;
      within_cost = is.within_cost;
    }

-- ---- right answers are alike

module _ (mesh : Mesh) (query : NearestQuery) where
  same-first : (a b : PolyRef) → IsLocated mesh query.from query.from_y a → IsLocated mesh query.from query.from_y b → a ≡ b
  same-first a b is is' = one_located mesh query.from query.from_y a b is is'

  both-found : (j k : ℕ) (u v : PolyRef) (a b : PathFound) → IsNearestWay mesh query j u a → IsNearestWay mesh query k v b → (a.first ≡ b.first) × (a.cost ≡ b.cost)
  both-found j k u v a b is is' =
      let first = same-first a.first b.first is.start is'.start in
      let to = subst (λ (at : PolyRef). AllowedTo mesh query.filter.areas at a.links u) first is.cheapest.allowed in
      let to' = subst (λ (at : PolyRef). AllowedTo mesh query.filter.areas at b.links v) (sym first) is'.cheapest.allowed in
      (first, omega (arith, is.none_less k v b.links is'.goal to', is'.none_less j u a.links is.goal to, is.cheapest.cost, is'.cheapest.cost))

  found-apart : (k : ℕ) (v : PolyRef) (b : PathFound) → HasNoWayToGoals mesh query → IsNearestWay mesh query k v b → ⊥
  found-apart k v b none is =
      let first = same-first b.first none.first is.start none.start in
      none.no_walk k v b.links is.goal (subst (λ (at : PolyRef). AllowedTo mesh query.filter.areas at b.links v) first is.cheapest.allowed)

  goal-nowhere : (which : ℕ) (at : PolyRef) → HasNoGoals mesh query → IsGoalIn mesh query.goals which at → ⊥
  goal-nowhere which at none is = none.none which is.there at is.located.holding

  not-seen : (seen : ℕ) → query.most_cost ≡ 18446744073709551615 → HasSeenNone mesh query seen → ⊥
  not-seen seen free is = omega (arith, free, is.limited)

  pub alike-nearest : query.most_cost ≡ 18446744073709551615 → (a b : NearestAnswer) → IsNearestGoal query mesh a → IsNearestGoal query mesh b → AreAlikeNearest a b
  alike-nearest free NoStart NoStart r s = tt
  alike-nearest free NoStart NoGoal r s = absurd (r s.first s.start.holding)
  alike-nearest free NoStart NoPath r s = absurd (r s.first s.start.holding)
  alike-nearest free NoStart (Found k v b) r s = absurd (r b.first s.start.holding)
  alike-nearest free NoGoal NoStart r s = absurd (s r.first r.start.holding)
  alike-nearest free NoGoal NoGoal r s = tt
  alike-nearest free NoGoal NoPath r s = absurd (goal-nowhere s.which s.last r s.goal)
  alike-nearest free NoGoal (Found k v b) r s = absurd (goal-nowhere k v r s.goal)
  alike-nearest free NoPath NoStart r s = absurd (s r.first r.start.holding)
  alike-nearest free NoPath NoGoal r s = absurd (goal-nowhere r.which r.last s r.goal)
  alike-nearest free NoPath NoPath r s = tt
  alike-nearest free NoPath (Found k v b) r s = absurd (found-apart k v b r s)
  alike-nearest free (Found j u a) NoStart r s = absurd (s a.first r.start.holding)
  alike-nearest free (Found j u a) NoGoal r s = absurd (goal-nowhere j u s r.goal)
  alike-nearest free (Found j u a) NoPath r s = absurd (found-apart j u a s r)
  alike-nearest free (Found j u a) (Found k v b) r s = both-found j k u v a b r s
  alike-nearest free (Limit n) b r s = absurd (not-seen n free r)
  alike-nearest free NoStart (Limit n) r s = absurd (not-seen n free s)
  alike-nearest free NoGoal (Limit n) r s = absurd (not-seen n free s)
  alike-nearest free NoPath (Limit n) r s = absurd (not-seen n free s)
  alike-nearest free (Found j u a) (Limit n) r s = absurd (not-seen n free s)
