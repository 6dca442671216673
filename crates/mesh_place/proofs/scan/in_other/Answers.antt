use Rattle.std.proofs.Common.{◌≡◌, subst, sym}
use Rattle.std.specs.Prelude.{Option}
use Rattle.mesh_types.specs.declared.links.PolyRef.{PolyRef}
use Rattle.mesh_types.specs.declared.storeys.MeshPlace.{MeshPlace}
use Rattle.mesh_place.specs.Searches.{IsOf}
use Rattle.mesh_place.proofs.SearchLaws.{skipped}
use Rattle.mesh_place.proofs.scan.in_other.Goals as goal

pub returns-then-is_it : goal.returns-then-is_it
returns-then-is_it c =
    let at = c.args.at in
    skipped c.args.mesh.now c.args.asked.now c.args.best (λ (other : MeshPlace). other.polygon ≡ at) c.requires.best
    (λ other stands near one.
    c.requires.done other stands near (subst (λ (done : Option PolyRef). IsOf done other) (sym (c.is_it.ensures c.if-is_it.true)) one))
