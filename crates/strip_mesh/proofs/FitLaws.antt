-- The mesh of a tile as strips is fit.
use Rattle.std.proofs.Common.{◌≡◌, ℕ, ◌+◌, ◌-◌, ◌<◌, ◌≤◌, length, List, [], map, get_or, ◌∙◌, sym, refl, subst, arith}
use Rattle.std.specs.Prelude.{All}
use Rattle.std.specs.List.{flat_map, range_with_len, between}
use Rattle.std.proofs.lemmas.List.{get_or_default, length-map}
use Rattle.std.proofs.lemmas.List.Elements.{All-map}
use Rattle.nav_ground.specs.declared.setting.Setting.{Setting}
use Rattle.nav_ground.specs.declared.cell.Cell.{Cell}
use Rattle.nav_ground.specs.declared.cell.FreeLayer.{FreeLayer}
use Rattle.nav_ground.specs.Cells.{IsCut, IsInTile}
use Rattle.nav_ground.specs.Tiling.{tile_window, IsInWindow}
use Rattle.mesh_types.specs.declared.region.LabelRun.{LabelRun}
use Rattle.mesh_types.specs.declared.links.Link.{Link}
use Rattle.mesh_types.specs.declared.polygon.Polygon.{Polygon}
use Rattle.mesh_types.specs.declared.mesh.RimEdge.{RimEdge}
use Rattle.mesh_types.specs.declared.mesh.TileMesh.{TileMesh}
use Rattle.mesh_types.specs.Runs.{runs_of, label_if}
use Rattle.mesh_types.specs.FitTiles.{IsPolygon, IsInSquare, IsInnerLink, IsRimOf, IsFit}
use Rattle.mesh_types.specs.StripPolygons.{strip_runs, strip_polygon}
use Rattle.mesh_types.specs.StripLinks.{strip_beyond, strip_link, strip_links, strip_links_over, outside_of}
use Rattle.mesh_types.specs.StripRim.{strip_rim, strip_rim_over, rim_edge}
use Rattle.mesh_types.specs.Crossings.{level_pair, is_crossing}
use Rattle.mesh_types.specs.StripMeshes.{strip_mesh_of}
use Rattle.mesh_types.proofs.RunLaws.{IsRunOf, runs_are_runs, part_length}
use Rattle.mesh_types.proofs.LinksInOrder.{All-ordered_links}
use Rattle.mesh_types.proofs.Gathered.{gathered_all}
use Rattle.strip_mesh.proofs.RowLaws.{IsRow, row_is, own_all}
use Rattle.strip_mesh.proofs.PolygonLaws.{polygon_sound, polygon_inside}
use Rattle.strip_mesh.proofs.LinkLaws.{link_leads, polygon_there}
use Rattle.strip_mesh.proofs.RimLaws.{part_at_side, rim_placed}

-- what holds of each strip's cells
pub each_row : (cells : List Cell) → IsCut cells → All IsRow (strip_runs cells)
each_row cells cut k d there = subst IsRow (get_or_default (strip_runs cells) k [] d there) (row_is cells cut k there)

each_inside : (setting : Setting) (free : FreeLayer) → IsCut free.cells → IsInTile setting free.tile free.cells
    → All (All (λ (cell : Cell). IsInWindow (tile_window setting free.tile) cell.at.x cell.at.z)) (strip_runs free.cells)
each_inside setting free cut in_tile k d there =
    let P : Cell → Type 0 = λ cell. IsInWindow (tile_window setting free.tile) cell.at.x cell.at.z in
    let Q : List Cell → Type 0 = All P in
    subst Q (get_or_default (strip_runs free.cells) k [] d there) (own_all free.cells P cut.rules in_tile.inside k there)

-- the links lead through their portals
links_fit : (setting : Setting) (free : FreeLayer) → IsCut free.cells → All (IsInnerLink (strip_mesh_of setting free)) (strip_links free.tile (strip_runs free.cells))
unfolding strip_mesh_of
links_fit setting free cut =
    let runs = strip_runs free.cells in
    let P : Link → Type 0 = IsInnerLink (strip_mesh_of setting free) in
    All-ordered_links P (flat_map (λ s. flat_map (strip_links_over free.tile runs s) (range_with_len 0 4)) (range_with_len 0 (length runs)))
    (gathered_all P (λ s. flat_map (strip_links_over free.tile runs s) (range_with_len 0 4)) 0 (length runs)
    (λ s least most. gathered_all P (strip_links_over free.tile runs s) 0 4
    (λ edge least' most'.
    let labels = map (strip_beyond runs s (outside_of edge)) (get_or runs s []) in
    All-map P (strip_link free.tile (get_or runs s []) s edge) (runs_of labels)
    (λ k d there. record {
      from_here = refl;
      to_here = refl;
      through = link_leads free.cells cut free.tile s edge (get_or (runs_of labels) k d) (omega (arith, most)) (omega (arith, most')) (runs_are_runs labels k d there);
    }))))

-- an entry of the rim
entry_fits : (setting : Setting) (free : FreeLayer) → IsCut free.cells → IsInTile setting free.tile free.cells
    → (s edge : ℕ) (part : LabelRun) → s < length (strip_runs free.cells) → edge < 4
    → IsRunOf (map (λ (cell : Cell). label_if (is_crossing (tile_window setting free.tile) (outside_of edge) cell)) (get_or (strip_runs free.cells) s [])) part
    → IsRimOf setting (strip_mesh_of setting free) (rim_edge s edge (get_or (strip_runs free.cells) s []) part)
unfolding strip_mesh_of
entry_fits setting free cut in_tile s edge part there small is =
    let window = tile_window setting free.tile in
    let runs = strip_runs free.cells in
    let own = get_or runs s [] in
    let crossing = λ (cell : Cell). label_if (is_crossing window (outside_of edge) cell) in
    let order : part.first ≤ part.last = is.order in
    let last-in : part.last < length own = omega (arith, is.inside, length-map own crossing) in
    let placed = rim_placed edge window own part.first part.last small (row_is free.cells cut s there) (each_inside setting free cut in_tile s [] there) order last-in
    (part_at_side window (outside_of edge) own part is part.first (omega arith) order (omega (arith, order, last-in)))
    (part_at_side window (outside_of edge) own part is part.last order (omega arith) last-in) in
    let many : length (map (level_pair (outside_of edge)) (between part.first (part.last + 1) own)) ≡ part.last + 1 - part.first =
    length-map (between part.first (part.last + 1) own) (level_pair (outside_of edge)) ∙ part_length own part.first part.last order last-in in
    record {
      side = omega arith;
      polygon = strip_polygon own;
      is_there = polygon_there runs s there;
      edge = small;
      lies = placed.0;
      runs = λ some. rw many placed.1;
    }

rim_fits : (setting : Setting) (free : FreeLayer) → IsCut free.cells → IsInTile setting free.tile free.cells
    → All (IsRimOf setting (strip_mesh_of setting free)) (strip_rim (tile_window setting free.tile) (strip_runs free.cells))
rim_fits setting free cut in_tile =
    let window = tile_window setting free.tile in
    let runs = strip_runs free.cells in
    let P : RimEdge → Type 0 = IsRimOf setting (strip_mesh_of setting free) in
    gathered_all P (λ s. flat_map (strip_rim_over window runs s) (range_with_len 0 4)) 0 (length runs)
    (λ s least most. gathered_all P (strip_rim_over window runs s) 0 4
    (λ edge least' most'.
    let labels = map (λ (cell : Cell). label_if (is_crossing window (outside_of edge) cell)) (get_or runs s []) in
    All-map P (rim_edge s edge (get_or runs s [])) (runs_of labels)
    (λ k d there. entry_fits setting free cut in_tile s edge (get_or (runs_of labels) k d) (omega (arith, most)) (omega (arith, most')) (runs_are_runs labels k d there))))

-- the mesh of a tile as strips is fit
pub strip_mesh_fits : (setting : Setting) (free : FreeLayer) → IsCut free.cells → IsInTile setting free.tile free.cells → IsFit setting (strip_mesh_of setting free)
unfolding strip_mesh_of
strip_mesh_fits setting free cut in_tile =
    let runs = strip_runs free.cells in
    let rows = each_row free.cells cut in
    let inside = each_inside setting free cut in_tile in
    record {
      of_tile = refl;
      free = cut;
      in_tile = in_tile;
      polys = All-map IsPolygon strip_polygon runs (λ k d there. polygon_sound (get_or runs k d) (rows k d there));
      square = All-map (λ (polygon : Polygon). All (IsInSquare (tile_window setting free.tile)) polygon.corners) strip_polygon runs
          (λ k d there. polygon_inside (tile_window setting free.tile) (get_or runs k d) (rows k d there) (inside k d there));
      links = links_fit setting free cut;
      rim = rim_fits setting free cut in_tile;
    }

-- the same of a mesh that is equal to it
pub fits : (setting : Setting) (free : FreeLayer) (tile : TileMesh) → IsCut free.cells → IsInTile setting free.tile free.cells
    → tile ≡ strip_mesh_of setting free → IsFit setting tile
fits setting free tile cut in_tile is = subst (IsFit setting) (sym is) (strip_mesh_fits setting free cut in_tile)
