-- The steps of kinds: what each is answered, and the states after it.
use Rattle.std.specs.Prelude.{◌≡◌, ℕ, ◌<◌, ◌==◌, if◌then◌else◌, List, length, map, slice_get, Option, Some, None, IfSome}
use Rattle.nav_ground.specs.Tiling.{tile_count}
use Rattle.nav_ground.specs.declared.shape.Shape.{Shape}
use Rattle.mesh_types.specs.declared.mesh.TileMesh.{TileMesh}
use Rattle.build_queue.specs.BookState.{BookState}
use Rattle.build_queue.specs.Steps.{after_publish}
use Rattle.nav_book.specs.LevelResults.{tile_under}
use Rattle.agent_kinds.specs.declared.publish.KindsPublished.{KindsPublished}
use Rattle.agent_kinds.specs.declared.publish.KindsPublished.TheVariants.{New, Same, NotYet}
use Rattle.agent_kinds.specs.Firsts.{first_awaited}

-- what a publish is answered, from the first tile that is awaited and the lengths of any kind: not yet while a tile is awaited in one; else the
-- target is published, and was so before or is so from then on
abbrev pub publication_by : Option (ℕ × ℕ) → BookState → KindsPublished
publication_by (Some awaited) state = NotYet awaited.0 awaited.1
publication_by None state = if state.target == state.published then Same state.published else New state.target

-- a publish: in no kind while a tile is awaited in one
abbrev pub published_unless : Option (ℕ × ℕ) → List BookState → List BookState
published_unless (Some awaited) states = states
published_unless None states = map after_publish states

abbrev pub after_publish_all : List BookState → List BookState
after_publish_all states = published_unless (first_awaited states) states

-- there is such a kind, and it has such a tile
pub record IsTileOfKind (states : List BookState) (kind tile : ℕ) : Type 0 where
  pub kind_there : kind < length states
  pub tile_there : IfSome (slice_get states kind) (λ state. tile < tile_count state.ground.setting)

-- the mesh is that of a tile of a kind under a list of shapes
abbrev pub IsMeshOfKind : List BookState → ℕ → ℕ → List Shape → TileMesh → Type 0
IsMeshOfKind states kind tile shapes mesh = IfSome (slice_get states kind) (λ state. mesh ≡ tile_under state.ground tile shapes)
