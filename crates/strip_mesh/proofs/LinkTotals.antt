-- Tiles of strips are small: they have no more polygons than free cells, and few links.
use Rattle.std.proofs.Common.{ℕ, ◌*◌, ◌≤◌, true, List, [], map, length, get_or, refl, arith, Option}
use Rattle.std.specs.List.{sum_by, range_with_len, flat_map}
use Rattle.std.proofs.lemmas.List.{length-map}
use Rattle.std.proofs.lemmas.List.Concat.{length-flat_map}
use Rattle.std.proofs.lemmas.List.FromFn.{length-range_with_len}
use Rattle.std.proofs.lemmas.List.Sums.{sum_by-le, sum_by-le-sum_by, count_by-le-length}
use Rattle.nav_ground.specs.declared.setting.Setting.{Setting}
use Rattle.nav_ground.specs.declared.cell.Cell.{Cell}
use Rattle.nav_ground.specs.declared.cell.FreeLayer.{FreeLayer}
use Rattle.nav_ground.specs.Cells.{IsCut, IsInTile}
use Rattle.nav_ground.specs.Tiling.{tile_window}
use Rattle.nav_ground.proofs.Kept.{few_kept}
use Rattle.mesh_types.specs.declared.links.Link.{Link}
use Rattle.mesh_types.specs.Runs.{runs_of}
use Rattle.mesh_types.specs.Strips.{begins_strip, strip_cells}
use Rattle.mesh_types.specs.StripPolygons.{strip_runs, strip_polygon}
use Rattle.mesh_types.specs.StripLinks.{strip_beyond, strip_link, strip_links_over, strip_links, outside_of}
use Rattle.mesh_types.specs.StripMeshes.{strip_mesh_of}
use Rattle.mesh_types.proofs.LinkTotals.{IsSmall, length-ordered_links}
use Rattle.mesh_types.proofs.RunTotals.{few_runs}
use Rattle.mesh_types.proofs.Totals.{sum_by-one, sum_by-shared, sum_by-numbers}
use Rattle.strip_mesh.proofs.CellTotals.{strips_within}
use Rattle.strip_mesh.proofs.RimTotals.{few_positions, named_once}

-- over an edge a strip has at most one link a cell
few_over_edge : (tile : ℕ) (runs : List (List Cell)) (s edge : ℕ) → length (strip_links_over tile runs s edge) ≤ length (get_or runs s [])
few_over_edge tile runs s edge =
    let own : List Cell = get_or runs s [] in
    let labels : List (Option ℕ) = map (strip_beyond runs s (outside_of edge)) own in
    omega (
      arith,
      length-map (runs_of labels) (strip_link tile own s edge),
      few_runs labels (λ place. true) (λ place label there is. refl),
      count_by-le-length (λ place. true) (range_with_len 0 (length labels)),
      length-range_with_len 0 (length labels),
      length-map own (strip_beyond runs s (outside_of edge)),
    )

few_inner : (tile : ℕ) (cells : List Cell) → IsCut cells → length (strip_links tile (strip_runs cells)) ≤ 4 * length cells
few_inner tile cells cut =
    let runs : List (List Cell) = strip_runs cells in
    let over : ℕ → List Link = λ s. flat_map (strip_links_over tile runs s) (range_with_len 0 4) in
    let size : ℕ → ℕ → ℕ = λ s edge. length (strip_links_over tile runs s edge) in
    let ordered = length-ordered_links (flat_map over (range_with_len 0 (length runs))) in
    let by_strip = length-flat_map over (range_with_len 0 (length runs)) in
    let by_edge = sum_by-le-sum_by (λ s. length (over s)) (λ s. sum_by (size s) (range_with_len 0 4)) (range_with_len 0 (length runs))
    (λ s. omega (arith, length-flat_map (strip_links_over tile runs s) (range_with_len 0 4))) in
    let in_all : sum_by (λ own. length own) runs ≤ length cells =
    omega (arith, sum_by-le-sum_by (λ own. length own) (λ own. sum_by (λ cell. 1) own) runs (λ own. omega (arith, sum_by-one own)), strips_within cells cut (λ cell. 1), sum_by-one cells) in
    let shared = sum_by-shared size (λ edge. length cells) (range_with_len 0 (length runs)) (range_with_len 0 4)
    (λ k d there.
    let edge : ℕ = get_or (range_with_len 0 4) k d in
    omega (
      arith,
      sum_by-le-sum_by (λ s. size s edge) (λ s. length (get_or runs s [])) (range_with_len 0 (length runs)) (λ s. few_over_edge tile runs s edge),
      sum_by-numbers (λ own. length own) runs [],
      in_all,
    )) in
    let four : sum_by (λ edge. length cells) (range_with_len 0 4) ≤ 4 * length cells =
    sum_by-le (λ edge. length cells) (length cells) (range_with_len 0 4) (λ k d there. omega arith) in
    omega (arith, ordered, by_strip, by_edge, shared, four)

-- each strip begins at a free cell of its own
pub small_strips : (setting : Setting) (free : FreeLayer) → IsCut free.cells → IsInTile setting free.tile free.cells → IsSmall (strip_mesh_of setting free)
unfolding strip_mesh_of
small_strips setting free cut in_tile = record {
  polys = omega (
    arith,
    length-map (strip_runs free.cells) strip_polygon,
    few_kept (strip_cells free.cells) (begins_strip free.cells) free.cells,
  );
  links = record {
    inner = omega (arith, few_inner free.tile free.cells cut);
    positions = λ side. few_positions (tile_window setting free.tile) free.cells side cut;
    once = λ side position level small. named_once setting free side position level small cut in_tile;
  };
}
