-- Batches: which answers to the questions for ways from many places to one goal are right.
use Rattle.std.specs.Prelude.{◌≡◌, ℕ, ◌<◌, List, [], ◌∷◌, length, slice_index_or, None, ⊤}
use Rattle.mesh_types.specs.declared.links.Link.{Link}
use Rattle.mesh_types.specs.declared.links.PolyRef.{PolyRef}
use Rattle.mesh_types.specs.declared.mesh.Mesh.{Mesh}
use Rattle.mesh_types.specs.Corridors.{IsLinkOf}
use Rattle.mesh_types.specs.Located.{IsLocated}
use Rattle.path_queries.specs.declared.filters.Filter.{Filter}
use Rattle.path_queries.specs.declared.floods.Flooded.{Flooded}
use Rattle.path_queries.specs.declared.nearest.Goal.{Goal}
use Rattle.path_queries.specs.declared.plans.PathQuery.{PathQuery}
use Rattle.path_queries.specs.declared.plans.PlanAnswer.{PlanAnswer}
use Rattle.path_queries.specs.FloodsBack.{IsWholeFloodBack}
use Rattle.path_queries.specs.Plans.{IsRightPlan}

-- the question for a way from a place to the goal, through a filter and without limits
abbrev pub query_from : Goal → Filter → Goal → PathQuery
query_from goal filter start = record {
  from = start.point;
  from_y = start.y;
  goal = goal.point;
  goal_y = goal.y;
  filter = filter;
  most_cost = 18446744073709551615;
  most_polygons = 18446744073709551615;
  partial = None;
}

-- there is one answer for each start, in order, and each is right to the question for a way from there
abbrev pub AreRightPlans : Mesh → Goal → Filter → List Goal → List PlanAnswer → Type 0
AreRightPlans mesh goal filter [] [] = ⊤
AreRightPlans mesh goal filter (start ∷ starts) (answer ∷ answers) =
    IsRightPlan (query_from goal filter start) mesh answer × AreRightPlans mesh goal filter starts answers
AreRightPlans mesh goal filter _ _ = ⊥

-- a flood back, without a limit, from the polygon that locates the goal
pub record IsFloodToGoal (mesh : Mesh) (goal : Goal) (filter : Filter) (list : List Flooded) : Type 0 where
  pub last : PolyRef
  pub located : IsLocated mesh goal.point goal.y last
  pub flood : IsWholeFloodBack mesh filter last 18446744073709551615 list

-- stands for what is read where nothing stands
abbrev pub no_flooded : Flooded
no_flooded = record { at = record { tile = 0; index = 0 }; cost = 0; via = 0 }

abbrev pub flooded_at : List Flooded → ℕ → Flooded
flooded_at list place = slice_index_or list place no_flooded

-- a link of the mesh leads from one polygon to another
pub record IsLinkBetween (mesh : Mesh) (from to : PolyRef) (link : Link) : Type 0 where
  pub listed : IsLinkOf mesh link
  pub leaves : link.from ≡ from
  pub reaches : link.to ≡ to

-- from each polygon but the first a link leads to the one behind it, which is earlier in the list
abbrev pub AreLinked : Mesh → List Flooded → Type 0
AreLinked mesh list =
    (place : ℕ) → 0 < place → place < length list
    → ((flooded_at list place).via < place)
    × ((link : Link) × IsLinkBetween mesh (flooded_at list place).at (flooded_at list (flooded_at list place).via).at link)

-- links lead from the polygon at a place to the one behind it, and so on to the first
abbrev pub LeadToFirst : Mesh → List Flooded → ℕ → List Link → Type 0
LeadToFirst mesh list place [] = place ≡ 0
LeadToFirst mesh list place (link ∷ links) =
    let next = (flooded_at list place).via in
    (0 < place) × IsLinkBetween mesh (flooded_at list place).at (flooded_at list next).at link × LeadToFirst mesh list next links
