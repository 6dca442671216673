-- What a reader has of a level.
use Rattle.std.specs.Prelude.{ℕ, List, Option, Some, None, IfSome, ⊤}
use Rattle.nav_ground.specs.Limits.{IsSetting}
use Rattle.mesh_types.specs.declared.mesh.Mesh.{Mesh}
use Rattle.mesh_types.specs.Passages.{IsTwoWay}
use Rattle.mesh_types.specs.Soundness.{IsSound}
use Rattle.build_queue.specs.BookState.{BookState}
use Rattle.nav_book.specs.LevelResults.{published_mesh}
pub use Rattle.path_queries.specs.Filters.{AreCosts, with_costs}
use Rattle.random_place.specs.Sums.{AreSpotSums}
use Rattle.nav_handle.specs.declared.view.MeshView.TheInside.{Inside}

-- a published length, the mesh that was published with it, and the costs of areas that the reader has of its own, if there are some: then they are
-- those of the mesh
pub record Seen : Type 0 where
  pub length : ℕ
  pub mesh : Mesh
  pub own : Option (List ℕ)

-- what a level shows now
abbrev pub shown_by : BookState → Seen
shown_by state = record { length = state.published; mesh = published_mesh state; own = None }

-- what is seen, with other costs
abbrev pub seen_at : List ℕ → Seen → Seen
seen_at costs seen = record { length = seen.length; mesh = with_costs costs seen.mesh; own = Some costs }

-- what a level shows now to a reader who may have costs of its own
abbrev pub shown_to : Option (List ℕ) → BookState → Seen
shown_to None state = shown_by state
shown_to (Some costs) state = seen_at costs (shown_by state)

-- what a view is seen as, and what it keeps
abbrev pub seen_of : Inside → Seen
seen_of inside = record { length = inside.length; mesh = inside.mesh; own = inside.own }

-- a table that it may have keeps its rules
abbrev pub MayCost : Option (List ℕ) → Type 0
MayCost None = ⊤
MayCost (Some costs) = AreCosts costs

pub record IsView (inside : Inside) : Type 0 where
  pub sound : IsSound inside.mesh
  pub setting : IsSetting inside.mesh.setting
  pub two_way : IsTwoWay inside.mesh
  pub own : MayCost inside.own
  pub sums : IfSome inside.sums (AreSpotSums inside.mesh)
