-- HeldGoals: the goals of a question that polygons hold, each with the polygon that locates it.
use Rattle.std.specs.Prelude.{ℕ, ◌<◌, ◌⊎◌, Bool, List, length, map, All, Contains}
use Rattle.std.specs.List.{filter}
use Rattle.mesh_types.specs.declared.links.PolyRef.{PolyRef}
use Rattle.mesh_types.specs.declared.mesh.Mesh.{Mesh}
use Rattle.mesh_types.specs.Right.{IsNowhere}
use Rattle.path_queries.specs.declared.nearest.Goal.{Goal}
use Rattle.path_queries.specs.declared.nearest.HeldGoal.{HeldGoal}
use Rattle.path_queries.specs.FilteredGraphs.{leads_on}
use Rattle.path_queries.specs.NearestGoals.{IsGoalIn, goal_at}

-- no polygon holds a goal, or it is one of those that are held
abbrev pub IsHeldOrNowhere : Mesh → List Goal → List HeldGoal → ℕ → Type 0
IsHeldOrNowhere mesh goals held which =
    IsNowhere mesh (goal_at goals which).point (goal_at goals which).y ⊎ ((at : PolyRef) × Contains held (record { which = which; at = at }))

-- each is located where it says, and each goal that a polygon holds is one of them
pub record AreHeldGoals (mesh : Mesh) (goals : List Goal) (held : List HeldGoal) : Type 0 where
  pub each : All (λ (goal : HeldGoal). IsGoalIn mesh goals goal.which goal.at) held
  pub all : (which : ℕ) → which < length goals → IsHeldOrNowhere mesh goals held which

-- the polygons of goals
abbrev pub polygons_held : List HeldGoal → List PolyRef
polygons_held held = map (λ (goal : HeldGoal). goal.at) held

-- walks may end at a goal: they may lead on from its polygon
abbrev pub is_open_goal : Mesh → ℕ → PolyRef → HeldGoal → Bool
is_open_goal mesh areas first goal = leads_on mesh areas first goal.at

-- the polygons of goals at which walks may end
abbrev pub polygons_open : Mesh → ℕ → PolyRef → List HeldGoal → List PolyRef
polygons_open mesh areas first held = polygons_held (filter (is_open_goal mesh areas first) held)
