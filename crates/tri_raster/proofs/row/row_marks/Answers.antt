use Rattle.std.proofs.Common.{◌*◌, ◌+◌, [], refl}
use Rattle.tri_raster.specs.Spots.{corner_spots, edge_spots, row_spots}
use Rattle.tri_raster.proofs.Parts.{and_then}
use Rattle.tri_raster.proofs.row.row_marks.Goals as goal

pub returns-clause-items : goal.returns-clause-items
unfolding row_spots
returns-clause-items c =
    let tri = c.args.tri.now in
    let z = c.args.z in
    and_then _ (edge_spots tri.c tri.a (16 * z + 16)) _ _ (and_then _ (edge_spots tri.b tri.c (16 * z + 16)) _ _ (and_then _ (edge_spots tri.a tri.b (16 * z + 16)) _ _
    (and_then _ (edge_spots tri.c tri.a (16 * z)) _ _ (and_then _ (edge_spots tri.b tri.c (16 * z)) _ _ (and_then _ (edge_spots tri.a tri.b (16 * z)) _ _
    (and_then _ (corner_spots tri.c z) _ _ (and_then _ (corner_spots tri.b z) _ _ (and_then [] (corner_spots tri.a z) _ _ refl c.push_corner-count.ensures.items) c.push_corner-count-2.ensures.items)
    c.push_corner-count-3.ensures.items) c.push_edge-count.ensures.items) c.push_edge-count-2.ensures.items) c.push_edge-count-3.ensures.items)
    c.push_edge-count-4.ensures.items) c.push_edge-count-5.ensures.items) c.push_edge.ensures.items
