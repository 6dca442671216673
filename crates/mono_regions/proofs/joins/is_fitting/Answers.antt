use Rattle.std.proofs.Common.{◌≡◌, rules}
use Rattle.nav_ground.proofs.SmallCellLaws.{place_read}
use Rattle.mesh_types.specs.StripPolygons.{some_cell}
use Rattle.mono_regions.specs.Indices.{cell_at}
use Rattle.mono_regions.proofs.joins.is_fitting.Goals as goal

pub returns-else-is_named : goal.returns-else-is_named
returns-else-is_named c =
    let here : c.at.result ≡ (cell_at c.args.cells.now c.args.at).at =
    place_read c.args.cells.now c.args.at c.index-cells-at.result c.at.result c.requires.there c.index-cells-at.is c.at.ensures some_cell in
    search rules
