use Rattle.std.proofs.Common.{refl, sym, arith}
use Rattle.corridor_search.specs.Estimates.{extent_at}
use Rattle.corridor_search.proofs.Extents.{extent-rules}
use Rattle.path_queries.proofs.back_graph.may_be_entered.Goals as goal

pub is_open-requires : goal.is_open-requires
is_open-requires c =
    let most = (extent-rules c.args.mesh.now c.args.at c.extent_there.result c.requires.sound c.requires.there c.extent_there.ensures).area.most
    in
    omega (arith, most)

pub returns-then-are_all_open : goal.returns-then-are_all_open
returns-then-are_all_open c =
    let mesh = c.args.mesh.now in
    let at = c.args.at in
    let rules = extent-rules mesh at (extent_at mesh at) c.requires.sound c.requires.there refl in
    sym (c.are_all_open.ensures c.if-are_all_open.true (extent_at mesh at).area rules.area)
