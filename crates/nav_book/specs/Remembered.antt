-- Builds of tiles that are remembered.
use Rattle.std.specs.Prelude.{◌≡◌, ◌≤◌, List, All, length}
use Rattle.nav_ground.specs.declared.history.Ground.{Ground}
use Rattle.nav_book.specs.declared.builds.CachedBuild.{CachedBuild}
use Rattle.nav_book.specs.LevelResults.{tile_under}

-- the mesh of a build is that of its job's tile under its job's shapes
abbrev pub IsBuildOf : Ground → CachedBuild → Type 0
IsBuildOf ground build = build.mesh ≡ tile_under ground build.job.tile build.job.shapes

-- such builds as they are kept: never more than 256
pub record AreKeptBuilds (ground : Ground) (builds : List CachedBuild) : Type 0 where
  pub right : All (IsBuildOf ground) builds
  pub few : length builds ≤ 256
