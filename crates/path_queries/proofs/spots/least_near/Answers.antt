use Rattle.std.proofs.Common.{◌∙◌, arith}
use Rattle.corridor_search.proofs.Extents.{extent-is, extent-rules}
use Rattle.corridor_search.proofs.Sound.{polygon-rules}
use Rattle.path_queries.proofs.SpotLaws.{box-most}
use Rattle.path_queries.proofs.spots.least_near.Goals as goal

pub box_gap-gap-requires-clause-low : goal.box_gap-gap-requires-clause-low
box_gap-gap-requires-clause-low c =
    (extent-rules c.args.mesh.now c.args.at c.extent_there.result c.requires.sound c.requires.there c.extent_there.ensures).box.low

pub box_gap-gap-requires-clause-high : goal.box_gap-gap-requires-clause-high
box_gap-gap-requires-clause-high c =
    (extent-rules c.args.mesh.now c.args.at c.extent_there.result c.requires.sound c.requires.there c.extent_there.ensures).box.high

pub square_rise-requires-clause-rules : goal.square_rise-requires-clause-rules
square_rise-requires-clause-rules c =
    polygon-rules c.args.mesh.now c.args.at c.polygon_there-polygon.result c.requires.sound c.polygon_there-polygon.ensures

pub overflow_add-result : goal.overflow_add-result
overflow_add-result c =
    let mesh = c.args.mesh.now in
    let polygon = c.polygon_there-polygon.result in
    let own = polygon-rules mesh c.args.at polygon c.requires.sound c.polygon_there-polygon.ensures in
    let most = box-most polygon c.extent_there.result own (c.extent_there.ensures ∙ extent-is mesh c.args.at polygon c.polygon_there-polygon.ensures)
    c.args.toward.goal c.requires.toward.point in
    record { fits = omega (arith, most, c.box_gap-gap.ensures, c.square_rise.ensures.bound) }
