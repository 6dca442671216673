-- Walks of which a taut line can be pulled.
use Rattle.std.specs.Prelude.{◌<◌, List, length}
use Rattle.mesh_types.specs.declared.links.Link.{Link}
use Rattle.mesh_types.specs.declared.links.PolyRef.{PolyRef}
use Rattle.mesh_types.specs.declared.mesh.Mesh.{Mesh}
use Rattle.mesh_types.specs.Corridors.{WalksTo}

-- links are a walk from one polygon to another, and few enough that 32 bits number them
pub record IsShortWalk (mesh : Mesh) (first : PolyRef) (links : List Link) (last : PolyRef) : Type 0 where
  pub walks : WalksTo mesh first links last
  pub few : length links < 4294967295
