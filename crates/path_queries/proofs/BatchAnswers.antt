-- The answers to the questions for ways to one goal: one more behind those so far, and what each is.
use Rattle.std.proofs.Common.{◌≡◌, ℕ, ◌+◌, ◌<◌, ◌≤◌, List, [], ◌∷◌, ◌++◌, length, take, Some, ap, ◌∙◌, refl, sym, subst, arith}
use Rattle.std.specs.Prelude.{slice_index_or}
use Rattle.std.proofs.lemmas.List.{length-map, take_all, take_more}
use Rattle.std.proofs.lemmas.Option.{same_Some}
use Rattle.mesh_types.specs.declared.answers.Corner.{Corner}
use Rattle.mesh_types.specs.declared.links.Link.{Link}
use Rattle.mesh_types.specs.declared.links.PolyRef.{PolyRef}
use Rattle.mesh_types.specs.declared.mesh.Mesh.{Mesh}
use Rattle.mesh_types.specs.declared.polygon.Polygon.{Polygon}
use Rattle.mesh_types.specs.Located.{IsLocated}
use Rattle.mesh_types.specs.Right.{portals_of}
use Rattle.mesh_types.specs.Soundness.{IsSound}
use Rattle.mesh_types.specs.Taut.{IsTaut}
use Rattle.mesh_types.specs.WholeMesh.{poly_at}
use Rattle.corridor_search.specs.MeshGraphs.{IsThere}
use Rattle.path_queries.specs.declared.filters.Filter.{Filter}
use Rattle.path_queries.specs.declared.floods.Flooded.{Flooded}
use Rattle.path_queries.specs.declared.nearest.Goal.{Goal}
use Rattle.path_queries.specs.declared.plans.PlanAnswer.{PlanAnswer}
use Rattle.path_queries.specs.declared.plans.PlanAnswer.TheVariants.{NoPath, Whole}
use Rattle.path_queries.specs.Batches.{AreRightPlans, IsFloodToGoal, LeadToFirst, flooded_at, query_from}
use Rattle.path_queries.specs.Filters.{IsCheapestAllowed}
use Rattle.path_queries.specs.NearestGoals.{HasGoalCoordinates}
use Rattle.path_queries.specs.Plans.{IsRightPlan}
use Rattle.path_queries.proofs.BatchLaws.{flooded-is, none-there, walk-cheapest}
use Rattle.path_queries.proofs.WayParts.{ArePulled, located-there, pulled}

module _ (mesh : Mesh) (goal : Goal) (filter : Filter) where
  -- one more
  pub plans-more : (starts : List Goal) (answers : List PlanAnswer) (start : Goal) (answer : PlanAnswer)
      → AreRightPlans mesh goal filter starts answers → IsRightPlan (query_from goal filter start) mesh answer
      → AreRightPlans mesh goal filter (starts ++ start ∷ []) (answers ++ answer ∷ [])
  plans-more [] [] start answer right one = (one, tt)
  plans-more (s ∷ starts) (a ∷ answers) start answer right one = (right.0, plans-more starts answers start answer right.1 one)
  plans-more [] (a ∷ answers) start answer right one = absurd right
  plans-more (s ∷ starts) [] start answer right one = absurd right

  -- the answers to the starts up to a place, and one more
  pub plans-next : (starts : List Goal) (i : ℕ) (d : Goal) (answers next : List PlanAnswer) (answer : PlanAnswer) → i < length starts
      → AreRightPlans mesh goal filter (take i starts) answers
      → IsRightPlan (query_from goal filter (slice_index_or starts i d)) mesh answer → next ≡ answers ++ answer ∷ []
      → AreRightPlans mesh goal filter (take (i + 1) starts) next
  plans-next starts i d answers next answer there right one more =
      subst (AreRightPlans mesh goal filter (take (i + 1) starts)) (sym more)
      (subst (λ (ss : List Goal). AreRightPlans mesh goal filter ss (answers ++ answer ∷ [])) (sym (take_more starts i d there))
      (plans-more (take i starts) answers (slice_index_or starts i d) answer right one))

  pub plans-end : (starts : List Goal) (i : ℕ) (answers : List PlanAnswer) → length starts ≤ i
      → AreRightPlans mesh goal filter (take i starts) answers → AreRightPlans mesh goal filter starts answers
  plans-end starts i answers end right =
      subst (λ (ss : List Goal). AreRightPlans mesh goal filter ss answers) (take_all i starts end) right

module _ (mesh : Mesh) (goal : Goal) (filter : Filter) (list : List Flooded) (start : Goal) (first : PolyRef) (flood : IsFloodToGoal mesh goal filter list)
    (located : IsLocated mesh start.point start.y first) where
  -- the portals of the way can be pulled
  pub batch-pulled : (place : ℕ) (links : List Link) → IsSound mesh → HasGoalCoordinates start → HasGoalCoordinates goal → place < length list
      → (flooded_at list place).at ≡ first → LeadToFirst mesh list place links → ArePulled start.point (portals_of links) goal.point
  batch-pulled place links sound from to there is lead =
      pulled mesh start.point start.y goal.point goal.y first flood.last links sound from to located flood.located
      (walk-cheapest mesh filter flood.last _ list flood.flood.flood links place first there is lead).allowed.walks

  pub portals-few : (place : ℕ) (links : List Link) → place < length list → length links ≤ place → length (portals_of links) < 4294967295
  portals-few place links there few = omega (arith, there, few, flood.flood.few, length-map links (λ (link : Link). link.portal))

  -- the first polygon of the flood is the one that locates the goal
  first-is : {k : ℕ} → k < length list → flood.last ≡ (flooded_at list 0).at
  first-is {k} there =
      let head : 0 < length list = omega (arith, there) in
      ap (λ (e : Flooded). e.at) (same_Some _ _ (sym flood.flood.flood.begins ∙ flooded-is list 0 head))

  -- a way
  pub batch-way : (place : ℕ) (links : List Link) (turns : List Corner) (y : ℕ) → place < length list → (flooded_at list place).at ≡ first
      → LeadToFirst mesh list place links → length links ≤ place → IsTaut start.point (portals_of links) goal.point turns
      → ((polygon : Polygon) → poly_at mesh (flooded_at list 0).at ≡ Some polygon → y ≡ polygon.low)
      → IsRightPlan (query_from goal filter start) mesh
      (Whole (record { first = first; cost = (flooded_at list place).cost; links = links; turns = turns })
      (record { polygon = (flooded_at list 0).at; point = goal.point; y = y }))
  batch-way place links turns y there is lead few taut floor =
      let low = flood.flood.low place (flooded_at list place) (flooded-is list place there) in
      let last = first-is there in
      let ends = subst (IsThere mesh) last (located-there mesh goal.point goal.y flood.last flood.located) in (
        record {
          start = located;
          goal = subst (IsLocated mesh goal.point goal.y) last flood.located;
          at_goal = refl;
          last = ends.polygon;
          there = ends.is;
          floor = floor ends.polygon ends.is;
          cheapest =
              subst (λ (end : PolyRef). IsCheapestAllowed mesh filter first end (record { cost = (flooded_at list place).cost; links = links })) last
              (walk-cheapest mesh filter flood.last _ list flood.flood.flood links place first there is lead);
          taut = taut;
          within_cost = flood.flood.flood.each place (flooded_at list place) (flooded-is list place there);
          within_count = omega (arith, there, few, flood.flood.few);
        },
        low,
      )

  -- or none
  pub batch-none : ((place : ℕ) → place < length list → (flooded_at list place).at ≡ first → ⊥)
      → IsRightPlan (query_from goal filter start) mesh NoPath
  batch-none none = (
    record {
      whole = refl;
      first = first;
      start = located;
      last = flood.last;
      goal = flood.located;
      no_walk = λ links allowed.
          none-there mesh filter flood.last _ list flood.flood.flood first none (flood.flood.whole refl first links allowed);
    },
    tt,
  )
