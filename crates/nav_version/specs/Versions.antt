-- What each version keeps.
use Rattle.std.specs.Prelude.{◌≡◌, ◌<◌, All, length}
use Rattle.std.specs.Arc.{arc_value}
use Rattle.nav_ground.specs.declared.history.Entry.{Entry}
use Rattle.nav_ground.specs.Grounds.{IsGround}
use Rattle.nav_ground.specs.History.{IsRequest}
use Rattle.mesh_types.specs.Builds.{build_of}
use Rattle.mesh_types.specs.Soundness.{IsSound}
use Rattle.nav_version.specs.declared.version.Version.{Version}

-- a version's mesh is that of its ground with the obstacles that are alive after its entries, which are fewer than a 32-bit count can reach;
-- its ground keeps the rules of grounds, the shape of each entry its limits, and its mesh is sound
pub record IsVersion (version : Version) : Type 0 where
  pub ground : IsGround (arc_value version.ground)
  pub few : length version.entries < 4294967295
  pub requests : All (λ (entry : Entry). IsRequest entry.request) version.entries
  pub mesh : version.mesh ≡ build_of (arc_value version.ground) version.entries (length version.entries)
  pub sound : IsSound version.mesh
