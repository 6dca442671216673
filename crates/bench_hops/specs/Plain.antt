-- A mesh that is searched without an estimate.
use Rattle.std.specs.Prelude.{ℕ}
use Rattle.nav_ground.specs.Limits.{IsSetting}
use Rattle.mesh_types.specs.declared.mesh.Mesh.{Mesh}
use Rattle.mesh_types.specs.Soundness.{IsSound}
use Rattle.graph_search.specs.declared.graph.Vertex.{Vertex}

pub record IsPlain (mesh : Mesh) : Type 0 where
  pub sound : IsSound mesh
  pub setting : IsSetting mesh.setting

abbrev pub no_estimate : Vertex → ℕ
no_estimate v = 0
