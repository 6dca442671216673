use Rattle.std.proofs.Common.{Contains, sym, subst}
use Rattle.corridor_search.specs.MeshGraphs.{vertices_of}
use Rattle.corridor_search.proofs.Vertices.{there-contains}
use Rattle.bench_hops.proofs.PlainSearch.{plain-searchable}
use Rattle.bench_hops.proofs.plain.steps_of_plain.Goals as goal

pub cheapest_walk-requires-clause-searchable : goal.cheapest_walk-requires-clause-searchable
cheapest_walk-requires-clause-searchable c = plain-searchable c.args.mesh.now (record { sound = c.requires.sound; setting = c.requires.setting })

pub cheapest_walk-requires-clause-there : goal.cheapest_walk-requires-clause-there
cheapest_walk-requires-clause-there c =
    subst (Contains (vertices_of c.args.mesh.now)) (sym c.vertex_at.ensures) (there-contains c.args.mesh.now c.args.from c.requires.from)
