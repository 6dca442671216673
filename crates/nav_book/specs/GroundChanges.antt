-- The ground of a level changed: the tiles that are built for it, the mesh that is shown from then on, and what a change is answered.
use Rattle.std.specs.Prelude.{◌≡◌, ℕ, ◌<◌, true, List, [], length, get_or, Contains, Option, Some, None, is_some, Result, IfOk, OnOk, OnErr}
use Rattle.std.specs.Arc.{arc_value}
use Rattle.nav_ground.specs.declared.history.Ground.{Ground}
use Rattle.nav_ground.specs.declared.shape.Shape.{Shape}
use Rattle.nav_ground.specs.Tiling.{tile_count}
use Rattle.mesh_types.specs.declared.mesh.TileMesh.{TileMesh}
use Rattle.mesh_types.specs.Builds.{build_of}
use Rattle.mesh_types.specs.Soundness.{IsSound}
use Rattle.build_queue.specs.declared.live.Published.{Published}
use Rattle.build_queue.specs.BookState.{BookState, IsBook}
use Rattle.build_queue.specs.GroundSteps.{IsGroundFor, ground_changed}
use Rattle.build_queue.specs.Steps.{publication}
use Rattle.nav_book.specs.declared.next_ground.NextGround.{NextGround}
use Rattle.nav_book.specs.LevelResults.{tile_under}

-- one place a tile, of which the first so many tiles of a list have their mesh of a ground under the stored shapes, and none but tiles of the
-- list have one
pub record AreBuiltIn (ground : Ground) (stored : List (List Shape)) (tiles : List ℕ) (count : ℕ) (places : List (Option TileMesh)) : Type 0 where
  pub each : length places ≡ tile_count ground.setting
  pub right : (tile : ℕ) (mesh : TileMesh) → get_or places tile None ≡ Some mesh → mesh ≡ tile_under ground tile (get_or stored tile [])
  pub named : (tile : ℕ) (mesh : TileMesh) → get_or places tile None ≡ Some mesh → Contains tiles tile
  pub done : (place : ℕ) → place < count → is_some (get_or places (get_or tiles place 0) None) ≡ true

-- a ground that comes to be shown over a state: it fits, and its mesh is the one that a level opened over it shows once it has these entries
pub record IsNextGround (state : BookState) (ground : Ground) (next : NextGround) : Type 0 where
  pub own : arc_value next.ground ≡ ground
  pub again : arc_value next.again ≡ ground
  pub fits : IsGroundFor state.ground ground
  pub mesh : next.mesh ≡ build_of ground state.history state.published
  pub sound : IsSound next.mesh

-- `change_ground`: at rest, where a publish is answered `Same`, the ground is the new one from then on; else nothing changes
pub record IsChangeStep {E : Type 0} (old new : BookState) (ground : Ground) (result : Result Published E) : Type 0 where
  pub answer : IfOk result (λ answer. answer ≡ publication old)
  pub changed : OnOk result (new ≡ ground_changed (publication old) old ground)
  -- where memory is refused, nothing changes
  pub refused : OnErr result (new ≡ old)
  pub rules : IsBook new
