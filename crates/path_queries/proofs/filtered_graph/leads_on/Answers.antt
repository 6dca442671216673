use Rattle.std.proofs.Common.{sym, arith}
use Rattle.corridor_search.proofs.Extents.{extent-rules}
use Rattle.path_queries.proofs.OpenAreas.{leads-where-open}
use Rattle.path_queries.proofs.filtered_graph.leads_on.Goals as goal

pub is_open-requires : goal.is_open-requires
is_open-requires c =
    let most = (extent-rules c.args.mesh.now c.args.at c.extent_there.result c.requires.sound c.requires.there c.extent_there.ensures).area.most
    in
    omega (arith, most)

pub returns-then-are_all_open : goal.returns-then-are_all_open
returns-then-are_all_open c =
    sym (leads-where-open c.args.mesh.now c.args.areas c.args.start c.args.at c.requires.sound c.requires.there (c.are_all_open.ensures c.if-are_all_open.true))
