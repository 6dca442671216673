-- What does not come before an earlier find does not come before a later one.
use Rattle.std.specs.Prelude.{Option}
use Rattle.mesh_types.specs.declared.mesh.Mesh.{Mesh}
use Rattle.mesh_types.specs.declared.storeys.MeshPlace.{MeshPlace}
use Rattle.mesh_place.specs.declared.near.Near.{Near}
use Rattle.mesh_place.specs.Searches.{IsFound, IsFoundAmong, IsNotBefore}
use Rattle.mesh_place.proofs.SearchLaws.{skipped}

-- what was passed over by an earlier find is passed over by a later one
pub passed_since : (mesh : Mesh) (asked : Near) (old new : Option MeshPlace) (among : MeshPlace → Type 0) → IsFound mesh asked new
    → ((other : MeshPlace) → IsNotBefore mesh.setting.agent.climb asked other old → IsNotBefore mesh.setting.agent.climb asked other new)
    → IsFoundAmong mesh asked old old among → IsFoundAmong mesh asked new new among
passed_since mesh asked old new among found kept is =
    skipped mesh asked new among found (λ other stands near one. kept other (is.all other stands near one))
