-- What a book takes in and gives out besides: the builds of tiles.
use Rattle.std.specs.Prelude.{◌≡◌, ◌<◌}
use Rattle.nav_ground.specs.declared.history.Ground.{Ground}
use Rattle.nav_ground.specs.Tiling.{tile_count}
use Rattle.build_queue.specs.declared.live.Job.{Job}
use Rattle.nav_book.specs.declared.book.TileResult.{TileResult}
pub use Rattle.nav_book.specs.LevelResults.{published_entries, published_mesh, tile_under}

-- a result is a build: its tile is one of the ground, and its mesh is that of the tile under its list of shapes
pub record IsBuild (ground : Ground) (made : TileResult) : Type 0 where
  pub there : made.tile < tile_count ground.setting
  pub mesh : made.mesh ≡ tile_under ground made.tile made.shapes

-- the job of a tile that was built
abbrev pub job_built : TileResult → Job
job_built made = record { tile = made.tile; shapes = made.shapes }
