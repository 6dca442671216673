-- A sound mesh may be searched without an estimate.
use Rattle.std.proofs.Common.{length, arith}
use Rattle.std.specs.Prelude.{pos}
use Rattle.std.proofs.lemmas.Nat.{mul-le}
use Rattle.mesh_types.specs.declared.mesh.Mesh.{Mesh}
use Rattle.nav_base.specs.declared.point.Point.{Point}
use Rattle.graph_search.specs.Walks.{IsSearchable}
use Rattle.corridor_search.specs.MeshGraphs.{vertices_of, arcs_from}
use Rattle.corridor_search.proofs.LinkWeights.{area_cost}
use Rattle.corridor_search.proofs.Searchable.{searchable, vertices-few}
use Rattle.bench_hops.specs.Plain.{IsPlain, no_estimate}

pub plain-searchable : (mesh : Mesh) → IsPlain mesh → IsSearchable (vertices_of mesh) (arcs_from mesh) no_estimate 2897000
plain-searchable mesh rules =
    let goal : Point = record { x = pos 0; z = pos 0 } in
    let s =
    searchable mesh goal 1
    (record { sound = rules.sound; setting = rules.setting; in_field = record { left = omega arith; right = omega arith; bottom = omega arith; top = omega arith } })
    (record { some = omega arith; each = λ area is. (area_cost mesh.setting area rules.setting is).0 }) in
    record {
      enters = s.enters;
      weights = s.weights;
      consistent = λ v member k d there. omega arith;
      few = s.few;
      small = λ v member. omega (arith, mul-le (length (vertices_of mesh)) 2897000 8000000 2897000 (vertices-few mesh rules.sound) (omega arith));
    }
