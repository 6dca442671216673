use Rattle.mesh_types.specs.declared.storeys.MeshPlace.{MeshPlace}
use Rattle.mesh_place.proofs.SearchLaws.{passed}
use Rattle.mesh_place.proofs.tiles.likely_place.Goals as goal

pub returns-then-tile-len : goal.returns-then-tile-len
returns-then-tile-len c =
    passed c.args.mesh.now c.args.asked.now c.args.best (λ (other : MeshPlace). ⊥) c.requires.best (λ other stands near one. one)
