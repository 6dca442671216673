-- Plans over the border: which question for a way is asked, and what is told of its answer.
use Rattle.std.specs.Prelude.{ℕ, ◌≤◌, ◌==◌, if◌then◌else◌, List, length, map, Option, Some, None}
use Rattle.mesh_types.specs.declared.answers.PathFound.{PathFound}
use Rattle.path_queries.specs.declared.plans.PathQuery.{PathQuery}
use Rattle.path_queries.specs.declared.plans.PlanAnswer.{PlanAnswer}
use Rattle.path_queries.specs.declared.plans.PlanAnswer.TheVariants.{Whole, Nearest, Limit, NoStart, NoGoal, NoPath}
use Rattle.path_queries.specs.declared.plans.WayEnd.{WayEnd}
use Rattle.path_queries.specs.Plans.{CanPlan}
use Rattle.nav_handle.specs.declared.wire.NavdLink.{NavdLink}
use Rattle.nav_handle.specs.declared.wire.NavdTurn.{NavdTurn}
use Rattle.nav_handle.specs.Statuses as status
use Rattle.nav_handle.specs.Wire.{laid, link_told, point_of, point_told, polygon_told, turn_told}
use Rattle.way_handle.specs.declared.plans.NavdPlan.{NavdPlan}
use Rattle.way_handle.specs.Filtering.{filter_asked}

-- how many sixteenths a unit of height counts, where a way to the nearest place will do
abbrev pub partial_asked : NavdPlan → Option ℕ
partial_asked plan = if plan.partial == 0 then None else Some plan.rise

-- the question: from where to where, through the filter of these areas and costs, within the limits
abbrev pub plan_asked : NavdPlan → List ℕ → PathQuery
plan_asked plan costs = record {
  from = point_of plan.way.from;
  from_y = plan.way.from_y;
  goal = point_of plan.way.to;
  goal_y = plan.way.to_y;
  filter = filter_asked plan.areas costs;
  most_cost = plan.most_cost;
  most_polygons = plan.most_polygons;
  partial = partial_asked plan;
}

-- what a host asks may be asked: whether a way to the nearest place will do is said by 0 or 1
pub record CanAskPlan (plan : NavdPlan) (costs : List ℕ) : Type 0 where
  pub flag : plan.partial ≤ 1
  pub query : CanPlan (plan_asked plan costs)

-- the status of a way to the nearest place
abbrev pub partial : ℕ
partial = 19

-- how it ends with an answer
abbrev pub plan_ends : PlanAnswer → ℕ
plan_ends (Whole found end) = status.ok
plan_ends (Nearest found end seen) = partial
plan_ends (Limit seen) = status.limit
plan_ends NoStart = status.no_start
plan_ends NoGoal = status.no_goal
plan_ends NoPath = status.no_path

-- the host's places: for the way, and room for its links and for its turns
abbrev pub PlanRoom : Type 0
PlanRoom = NavdPlan × List NavdLink × List NavdTurn

-- a way is told with its end, and with its links and turns as far as there is room
abbrev pub told_way : PathFound → WayEnd → PlanRoom → PlanRoom
told_way found end room = (
  record room.0 {
    cost = found.cost;
    first = polygon_told found.first;
    last = polygon_told end.polygon;
    end = point_told end.point;
    end_y = end.y;
    links = length found.links;
    turns = length found.turns;
  },
  laid (map link_told found.links) room.1,
  laid (map turn_told found.turns) room.2,
)

-- and what is told of an answer: the way, and how far was seen where it does not lead to the goal; where a limit ended the search, how far was
-- seen; of another answer nothing
abbrev pub told_plan : PlanAnswer → PlanRoom → PlanRoom
told_plan (Whole found end) room = told_way found end room
told_plan (Nearest found end seen) room =
    let told = told_way found end room in
    (record told.0 { seen = seen }, told.1, told.2)
told_plan (Limit seen) room = (record room.0 { seen = seen }, room.1, room.2)
told_plan NoStart room = room
told_plan NoGoal room = room
told_plan NoPath room = room
