-- What is right for the question for a way is determined: its kind, its first polygon and its cost. With all areas open and no costs of
-- its own
-- these are those of a path.
use Rattle.std.proofs.Common.{◌≡◌, ◌∙◌, ℕ, List, [], ◌∷◌, ap, sym, subst, inl, inr, arith}
use Rattle.std.specs.Prelude.{All, Option, Some, None}
use Rattle.std.specs.Option.{option_map_or, unwrap_or}
use Rattle.std.proofs.lemmas.Option.{none-some, same_Some}
use Rattle.std.proofs.lemmas.List.Elements.{All-cons, All-nil}
use Rattle.mesh_types.specs.declared.answers.Answer.{Answer}
use Rattle.mesh_types.specs.declared.answers.Answer.TheVariants as paths
use Rattle.mesh_types.specs.declared.answers.PathFound.{PathFound}
use Rattle.mesh_types.specs.declared.links.Link.{Link}
use Rattle.mesh_types.specs.declared.links.PolyRef.{PolyRef}
use Rattle.mesh_types.specs.declared.mesh.Mesh.{Mesh}
use Rattle.mesh_types.specs.declared.polygon.Polygon.{Polygon}
use Rattle.mesh_types.specs.Corridors.{WalksTo, cost_of}
use Rattle.mesh_types.specs.Right.{HasNoPath, IsPath, IsRightPath}
use Rattle.mesh_types.specs.Soundness.{IsSound}
use Rattle.mesh_types.proofs.MeshLinks.{leads}
use Rattle.mesh_types.proofs.MeshPolygons.{placed}
use Rattle.mesh_types.proofs.RightLaws.{one_located}
use Rattle.path_queries.specs.declared.plans.PathQuery.{PathQuery}
use Rattle.path_queries.specs.declared.plans.PlanAnswer.{PlanAnswer}
use Rattle.path_queries.specs.declared.plans.PlanAnswer.TheVariants.{Whole, Nearest, Limit, NoStart, NoGoal, NoPath}
use Rattle.path_queries.specs.declared.plans.WayEnd.{WayEnd}
use Rattle.path_queries.specs.Filters.{AllowedTo, AreAllOpen, Enters, priced, with_costs}
use Rattle.path_queries.specs.PartialWays.{IsAllSeen, IsNoWorse, IsPartialWay, nearness_at, nearness_of}
use Rattle.path_queries.specs.Plans.{AreAlikePlans, HasNoLimits, HasNoWay, IsLimited, IsPlan, IsPlanAsPath, IsWay}
use Rattle.path_queries.specs.Reaches.{ArePlanLimits}

module _ (mesh : Mesh) (query : PathQuery) where
  -- two ways
  both_ways : (a b : PathFound) (end end' : WayEnd) → IsWay mesh query a end → IsWay mesh query b end' → (a.first ≡ b.first) × (a.cost ≡ b.cost)
  both_ways a b end end' is is' =
      let first = one_located mesh query.from query.from_y a.first b.first is.start is'.start in
      let last = one_located mesh query.goal query.goal_y end.polygon end'.polygon is.goal is'.goal in
      let walk = subst (λ (at : PolyRef). AllowedTo mesh query.filter.areas at a.links end'.polygon) first
      (subst (AllowedTo mesh query.filter.areas a.first a.links) last is.cheapest.allowed) in
      let walk' = subst (λ (at : PolyRef). AllowedTo mesh query.filter.areas at b.links end.polygon) (sym first)
      (subst (AllowedTo mesh query.filter.areas b.first b.links) (sym last) is'.cheapest.allowed) in
      (first, omega (arith, is.cheapest.least b.links walk', is'.cheapest.least a.links walk, is.cheapest.cost, is'.cheapest.cost))

  -- where no allowed walk joins the two places, there is no way
  no_way_there : (found : PathFound) (end : WayEnd) → HasNoWay mesh query → IsWay mesh query found end → ⊥
  no_way_there found end none is =
      let first = one_located mesh query.from query.from_y found.first none.first is.start none.start in
      let last = one_located mesh query.goal query.goal_y end.polygon none.last is.goal none.goal in
      none.no_walk found.links (subst (λ (at : PolyRef). AllowedTo mesh query.filter.areas at found.links none.last) first
      (subst (AllowedTo mesh query.filter.areas found.first found.links) last is.cheapest.allowed))

  -- without limits none ends a search
  not_limited : (seen : ℕ) → HasNoLimits query → IsLimited mesh query seen → ⊥
  not_limited seen none is = by_limit is.limited
    where
      by_limit : ArePlanLimits query.most_cost query.most_polygons → ⊥
      by_limit (inl cost) = omega (arith, cost, none.cost)
      by_limit (inr polygons) = omega (arith, polygons, none.polygons)

  -- where no partial way is asked for, none is told
  never_both : (rise : ℕ) → query.partial ≡ None → query.partial ≡ Some rise → ⊥
  never_both rise none some = none-some rise (sym none ∙ some)

  -- without limits a partial way has seen all
  all_seen : (found : PathFound) (end : WayEnd) (seen : ℕ) → HasNoLimits query → IsPartialWay mesh query found end seen → IsAllSeen seen
  all_seen found end seen none is = elim is.deep [
    | inl all ↦ all
    | inr cut ↦ absurd (by_limit cut.1)
  ]
    where
      by_limit : ArePlanLimits query.most_cost query.most_polygons → ⊥
      by_limit (inl cost) = omega (arith, cost, none.cost)
      by_limit (inr polygons) = omega (arith, polygons, none.polygons)

  -- so it is told where there is no way to the goal
  no_way_partly : (a b : PathFound) (end end' : WayEnd) (seen : ℕ) → HasNoLimits query → IsWay mesh query a end → IsPartialWay mesh query b end' seen → ⊥
  no_way_partly a b end end' seen free is is' =
      let first = one_located mesh query.from query.from_y a.first b.first is.start is'.start in
      let walk = subst (λ (at : PolyRef). AllowedTo mesh query.filter.areas at a.links end.polygon) first is.cheapest.allowed in
      let all = all_seen b end' seen free is' in
      let less = (is'.beyond end.polygon a.links is.goal walk).0 in
      omega (arith, all, less)

  -- and two of them come equally near at equal cost
  partly_alike : (a b : PathFound) (end end' : WayEnd) (seen seen' : ℕ) → HasNoLimits query → IsPartialWay mesh query a end seen
      → IsPartialWay mesh query b end' seen'
      → (a.first ≡ b.first) × (a.cost ≡ b.cost) × (nearness_at mesh query end ≡ nearness_at mesh query end')
  partly_alike a b end end' seen seen' free is is' =
      let first = one_located mesh query.from query.from_y a.first b.first is.start is'.start in
      let walk = subst (λ (at : PolyRef). AllowedTo mesh query.filter.areas at a.links end.polygon) first is.cheapest.allowed in
      let walk' = subst (λ (at : PolyRef). AllowedTo mesh query.filter.areas at b.links end'.polygon) (sym first) is'.cheapest.allowed in
      let ahead = is.no_worse end'.polygon b.links is'.last end'.point (record { there = is'.there; holds = is'.nearest_held.holds; allowed = walk' })
      (inl (all_seen a end seen free is)) in
      let back = is'.no_worse end.polygon a.links is.last end.point (record { there = is.there; holds = is.nearest_held.holds; allowed = walk })
      (inl (all_seen b end' seen' free is')) in
      let rise : is.rise ≡ is'.rise = same_Some is.rise is'.rise (sym is.asked ∙ is'.asked) in
      let back' = subst (λ (n : ℕ). IsNoWorse (nearness_of n query.goal query.goal_y is'.last end'.point) b.cost (nearness_of n query.goal query.goal_y is.last end.point)
      (cost_of (priced mesh query.filter) a.links)) (sym rise) back in
      let same = level (nearness_of is.rise query.goal query.goal_y is.last end.point) a.cost (nearness_of is.rise query.goal query.goal_y is'.last end'.point) b.cost
      _ _ is.cheapest.cost is'.cheapest.cost ahead back' in (
        first,
        same.1,
        near_at a end seen is ∙ same.0
            ∙ ap (λ (n : ℕ). nearness_of n query.goal query.goal_y is'.last end'.point) rise ∙ sym (near_at b end' seen' is'),
      )
    where
      level : (near cost near' cost' own own' : ℕ) → cost ≡ own → cost' ≡ own' → IsNoWorse near cost near' own' → IsNoWorse near' cost' near own
          → (near ≡ near') × (cost ≡ cost')
      level near cost near' cost' own own' is is' (inl less) (inl more) = absurd (omega (arith, less, more))
      level near cost near' cost' own own' is is' (inl less) (inr same) = absurd (omega (arith, less, same.0))
      level near cost near' cost' own own' is is' (inr same) (inl more) = absurd (omega (arith, same.0, more))
      level near cost near' cost' own own' is is' (inr same) (inr back) = (same.0, omega (arith, same.1, back.1, is, is'))

      near_at : (found : PathFound) (end : WayEnd) (seen : ℕ) → (is : IsPartialWay mesh query found end seen)
          → nearness_at mesh query end ≡ nearness_of is.rise query.goal query.goal_y is.last end.point
      near_at found end seen is =
          ap (λ (o : Option Polygon). option_map_or (λ (polygon : Polygon). nearness_of (unwrap_or query.partial 0) query.goal query.goal_y polygon end.point) o 0) is.there
          ∙ ap (λ (o : Option ℕ). nearness_of (unwrap_or o 0) query.goal query.goal_y is.last end.point) is.asked

  -- right answers to one question are alike
  pub alike_plans : HasNoLimits query → (a b : PlanAnswer) → IsPlan query mesh a → IsPlan query mesh b → AreAlikePlans query mesh a b
  alike_plans free NoStart NoStart r s = tt
  alike_plans free NoStart NoGoal r s = absurd (r s.1.first s.1.start.holding)
  alike_plans free NoStart NoPath r s = absurd (r s.first s.start.holding)
  alike_plans free NoStart (Whole g end) r s = absurd (r g.first s.start.holding)
  alike_plans free NoStart (Nearest g end n) r s = absurd (r g.first s.start.holding)
  alike_plans free NoGoal NoStart r s = absurd (s r.1.first r.1.start.holding)
  alike_plans free NoGoal NoGoal r s = tt
  alike_plans free NoGoal NoPath r s = absurd (r.1.no_goal s.last s.goal.holding)
  alike_plans free NoGoal (Whole g end) r s = absurd (r.1.no_goal end.polygon s.goal.holding)
  alike_plans free NoGoal (Nearest g end n) r s = absurd (never_both s.rise r.0 s.asked)
  alike_plans free NoPath NoStart r s = absurd (s r.first r.start.holding)
  alike_plans free NoPath NoGoal r s = absurd (s.1.no_goal r.last r.goal.holding)
  alike_plans free NoPath NoPath r s = tt
  alike_plans free NoPath (Whole g end) r s = absurd (no_way_there g end r s)
  alike_plans free NoPath (Nearest g end n) r s = absurd (never_both s.rise r.whole s.asked)
  alike_plans free (Whole f end) NoStart r s = absurd (s f.first r.start.holding)
  alike_plans free (Whole f end) NoGoal r s = absurd (s.1.no_goal end.polygon r.goal.holding)
  alike_plans free (Whole f end) NoPath r s = absurd (no_way_there f end s r)
  alike_plans free (Whole f end) (Whole g end') r s = both_ways f g end end' r s
  alike_plans free (Whole f end) (Nearest g end' n) r s = absurd (no_way_partly f g end end' n free r s)
  alike_plans free (Nearest f end n) NoStart r s = absurd (s f.first r.start.holding)
  alike_plans free (Nearest f end n) NoGoal r s = absurd (never_both r.rise s.0 r.asked)
  alike_plans free (Nearest f end n) NoPath r s = absurd (never_both r.rise s.whole r.asked)
  alike_plans free (Nearest f end n) (Whole g end') r s = absurd (no_way_partly g f end' end n free s r)
  alike_plans free (Nearest f end n) (Nearest g end' m) r s = partly_alike f g end end' n m free r s
  alike_plans free (Limit n) b r s = absurd (not_limited n free r)
  alike_plans free NoStart (Limit n) r s = absurd (not_limited n free s)
  alike_plans free NoGoal (Limit n) r s = absurd (not_limited n free s)
  alike_plans free NoPath (Limit n) r s = absurd (not_limited n free s)
  alike_plans free (Whole f end) (Limit n) r s = absurd (not_limited n free s)
  alike_plans free (Nearest f end m) (Limit n) r s = absurd (not_limited n free s)

-- ---- with all areas open

-- each walk is allowed
all_enter : (mesh : Mesh) (areas : ℕ) (from : PolyRef) (links : List Link) (to : PolyRef) → IsSound mesh → AreAllOpen areas
    → WalksTo mesh from links to
    → All (Enters mesh areas) links
all_enter mesh areas from [] to sound all walk = All-nil (Enters mesh areas)
all_enter mesh areas from (link ∷ links) to sound all walk =
    let lead = leads mesh link sound walk.0 in
    let area = (placed mesh link.to lead.enters sound lead.is_entered).rules.area in
    All-cons (Enters mesh areas) link links
    (record { polygon = lead.enters; there = lead.is_entered; area_open = all lead.enters.area area })
    (all_enter mesh areas link.to links to sound all walk.2)

module _ (mesh : Mesh) (query : PathQuery) (sound : IsSound mesh) (all : AreAllOpen query.filter.areas) where
  -- a way costs what a path does
  way_and_path : (f : PathFound) (end : WayEnd) (g : PathFound) → query.filter.costs ≡ None → IsWay mesh query f end
      → IsPath mesh query.from query.from_y query.goal query.goal_y g
      → (f.first ≡ g.first) × (f.cost ≡ g.cost)
  way_and_path f end g none is is' =
      let first = one_located mesh query.from query.from_y f.first g.first is.start is'.start in
      let last = one_located mesh query.goal query.goal_y end.polygon is'.last is.goal is'.goal in
      let walk = subst (λ (at : PolyRef). WalksTo mesh at f.links is'.last) first
      (subst (WalksTo mesh f.first f.links) last is.cheapest.allowed.walks) in
      let walk' = subst (λ (at : PolyRef). WalksTo mesh at g.links end.polygon) (sym first)
      (subst (WalksTo mesh g.first g.links) (sym last) is'.cheapest.walks) in
      let no_more = is.cheapest.least g.links
      (record { walks = walk'; enters = all_enter mesh query.filter.areas f.first g.links end.polygon sound all walk' }) in
      let no_less = is'.cheapest.least f.links walk in
      let own = own_cost f.links in
      let other = own_cost g.links in
      (first, omega (arith, no_more, no_less, own, other, is.cheapest.cost, is'.cheapest.cost))
    where
      -- the mesh with its own costs is the mesh
      own_cost : (links : List Link) → cost_of (priced mesh query.filter) links ≡ cost_of mesh links
      own_cost links = λ i. cost_of (with_costs (unwrap_or (none i) mesh.setting.costs) mesh) links

  no_way_no_path : (g : PathFound) → HasNoWay mesh query → IsPath mesh query.from query.from_y query.goal query.goal_y g → ⊥
  no_way_no_path g none is =
      let first = one_located mesh query.from query.from_y g.first none.first is.start none.start in
      let last = one_located mesh query.goal query.goal_y is.last none.last is.goal none.goal in
      let walk = subst (λ (at : PolyRef). WalksTo mesh at g.links none.last) first
      (subst (WalksTo mesh g.first g.links) last is.cheapest.walks) in
      none.no_walk g.links (record { walks = walk; enters = all_enter mesh query.filter.areas none.first g.links none.last sound all walk })

  no_path_no_way : (f : PathFound) (end : WayEnd) → IsWay mesh query f end → HasNoPath mesh query.from query.from_y query.goal query.goal_y → ⊥
  no_path_no_way f end is none =
      let first = one_located mesh query.from query.from_y f.first none.first is.start none.start in
      let last = one_located mesh query.goal query.goal_y end.polygon none.last is.goal none.goal in
      none.no_walk f.links (subst (λ (at : PolyRef). WalksTo mesh at f.links none.last) first
      (subst (WalksTo mesh f.first f.links) last is.cheapest.allowed.walks))

  -- where there is a path, no partial way is told
  no_partly_path : (f : PathFound) (end : WayEnd) (seen : ℕ) (g : PathFound) → HasNoLimits query → IsPartialWay mesh query f end seen
      → IsPath mesh query.from query.from_y query.goal query.goal_y g → ⊥
  no_partly_path f end seen g free is is' =
      let first = one_located mesh query.from query.from_y f.first g.first is.start is'.start in
      let walk = subst (λ (at : PolyRef). WalksTo mesh at g.links is'.last) (sym first) is'.cheapest.walks in
      let less = (is.beyond is'.last g.links is'.goal
      (record { walks = walk; enters = all_enter mesh query.filter.areas f.first g.links is'.last sound all walk })).0 in
      omega (arith, less, all_seen mesh query f end seen free is)

  -- a right answer is like the right answers to the question for a path
  pub plan_as_path : HasNoLimits query → (a : PlanAnswer) (b : Answer) → query.filter.costs ≡ None → IsPlan query mesh a
      → IsRightPath mesh query.from query.from_y query.goal query.goal_y b
      → IsPlanAsPath a b
  plan_as_path free NoStart paths.NoStart none r s = tt
  plan_as_path free NoStart paths.NoGoal none r s = absurd (r s.first s.start.holding)
  plan_as_path free NoStart paths.NoPath none r s = absurd (r s.first s.start.holding)
  plan_as_path free NoStart (paths.Path g) none r s = absurd (r g.first s.start.holding)
  plan_as_path free NoStart (paths.Floors floors) none r s = absurd s
  plan_as_path free NoStart (paths.Reached at) none r s = absurd s
  plan_as_path free NoStart (paths.Wall u v m n) none r s = absurd s
  plan_as_path free NoGoal paths.NoStart none r s = absurd (s r.1.first r.1.start.holding)
  plan_as_path free NoGoal paths.NoGoal none r s = tt
  plan_as_path free NoGoal paths.NoPath none r s = absurd (r.1.no_goal s.last s.goal.holding)
  plan_as_path free NoGoal (paths.Path g) none r s = absurd (r.1.no_goal s.last s.goal.holding)
  plan_as_path free NoGoal (paths.Floors floors) none r s = absurd s
  plan_as_path free NoGoal (paths.Reached at) none r s = absurd s
  plan_as_path free NoGoal (paths.Wall u v m n) none r s = absurd s
  plan_as_path free NoPath paths.NoStart none r s = absurd (s r.first r.start.holding)
  plan_as_path free NoPath paths.NoGoal none r s = absurd (s.no_goal r.last r.goal.holding)
  plan_as_path free NoPath paths.NoPath none r s = tt
  plan_as_path free NoPath (paths.Path g) none r s = absurd (no_way_no_path g r s)
  plan_as_path free NoPath (paths.Floors floors) none r s = absurd s
  plan_as_path free NoPath (paths.Reached at) none r s = absurd s
  plan_as_path free NoPath (paths.Wall u v m n) none r s = absurd s
  plan_as_path free (Whole f end) paths.NoStart none r s = absurd (s f.first r.start.holding)
  plan_as_path free (Whole f end) paths.NoGoal none r s = absurd (s.no_goal end.polygon r.goal.holding)
  plan_as_path free (Whole f end) paths.NoPath none r s = absurd (no_path_no_way f end r s)
  plan_as_path free (Whole f end) (paths.Path g) none r s = way_and_path f end g none r s
  plan_as_path free (Whole f end) (paths.Floors floors) none r s = absurd s
  plan_as_path free (Whole f end) (paths.Reached at) none r s = absurd s
  plan_as_path free (Whole f end) (paths.Wall u v m n) none r s = absurd s
  plan_as_path free (Nearest f end n) paths.NoStart none r s = absurd (s f.first r.start.holding)
  plan_as_path free (Nearest f end n) paths.NoGoal none r s = tt
  plan_as_path free (Nearest f end n) paths.NoPath none r s = tt
  plan_as_path free (Nearest f end n) (paths.Path g) none r s = absurd (no_partly_path f end n g free r s)
  plan_as_path free (Nearest f end n) (paths.Floors floors) none r s = absurd s
  plan_as_path free (Nearest f end n) (paths.Reached at) none r s = absurd s
  plan_as_path free (Nearest f end n) (paths.Wall u v m k) none r s = absurd s
  plan_as_path free (Limit n) b none r s = absurd (not_limited mesh query n free r)
