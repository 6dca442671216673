use Rattle.std.proofs.Common.{sym, subst}
use Rattle.mesh_types.specs.FitTiles.{IsPolygon}
use Rattle.mesh_locate.proofs.Reached.{box_there}
use Rattle.mesh_place.proofs.ScanLaws.{low_area}
use Rattle.mesh_place.proofs.guesses.likely_of.Goals as goal

pub meets-requires-clause-low : goal.meets-requires-clause-low
meets-requires-clause-low c =
    (box_there c.args.polygons.now c.args.place c.extent-extent.result c.extent-extent.ensures c.requires.polygons c.requires.there).low

pub meets-requires-clause-high : goal.meets-requires-clause-high
meets-requires-clause-high c =
    (box_there c.args.polygons.now c.args.place c.extent-extent.result c.extent-extent.ensures c.requires.polygons c.requires.there).high

pub box_gap-gap-requires-clause-low : goal.box_gap-gap-requires-clause-low
box_gap-gap-requires-clause-low c =
    (box_there c.args.polygons.now c.args.place c.extent-extent.result c.extent-extent.ensures c.requires.polygons c.requires.there).low

pub box_gap-gap-requires-clause-high : goal.box_gap-gap-requires-clause-high
box_gap-gap-requires-clause-high c =
    (box_there c.args.polygons.now c.args.place c.extent-extent.result c.extent-extent.ensures c.requires.polygons c.requires.there).high

pub is_open-requires : goal.is_open-requires
is_open-requires c = low_area c.args.polygons.now c.args.place c.extent-extent.result c.extent-extent.ensures c.requires.polygons c.requires.there

pub square_outside-requires-clause-corners : goal.square_outside-requires-clause-corners
square_outside-requires-clause-corners c =
    let polygon = c.at-polygon.result in
    (subst IsPolygon (sym (c.at-polygon.ensures polygon)) (c.requires.polygons c.args.place polygon c.requires.there)).corners
