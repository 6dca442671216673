-- Parts of strips, and the links along them.
use Rattle.std.proofs.Common.{◌≡◌, ℕ, ◌<◌, ◌≤◌, length, List, [], map, get_or, ap, ◌∙◌, sym, refl, subst, arith, Option}
use Rattle.std.specs.Prelude.{All}
use Rattle.std.specs.List.{range_with_len, flat_map}
use Rattle.std.proofs.lemmas.List.{length-map}
use Rattle.std.proofs.lemmas.List.Elements.{All-map, All-weaker}
use Rattle.nav_ground.specs.declared.cell.Cell.{Cell}
use Rattle.mesh_types.specs.declared.region.LabelRun.{LabelRun}
use Rattle.mesh_types.specs.declared.links.Link.{Link}
use Rattle.mesh_types.specs.Runs.{runs_of}
use Rattle.mesh_types.specs.LinkIndex.{AreOrderedLinks, AreBelow}
use Rattle.mesh_types.specs.StripLinks.{strip_beyond, strip_link, strip_links_over, strip_links, outside_of}
use Rattle.mesh_types.proofs.Gathered.{gathered_all}
use Rattle.mesh_types.proofs.RunLaws.{runs_are_runs}
use Rattle.mesh_types.proofs.LinksInOrder.{All-ordered_links, ordered_links-polygons}
use Rattle.strip_mesh.specs.declared.tile_strips.TileStrips.{TileStrips}
use Rattle.strip_mesh.specs.Indexed.{AreIndexed, runs_in, run_in}
use Rattle.strip_mesh.proofs.Counts.{run_cells, run_indices, run_length}

pub own_few : (strips : TileStrips) → AreIndexed strips → (s : ℕ) → s < length (runs_in strips) → length (run_in strips s) ≤ 2000001
own_few strips rules' s there =
    let run : List ℕ = get_or strips.index.runs s [] in
    let indices = run_indices strips rules' s run there refl in
    omega (arith, indices.few, run_length strips.free.cells run (run_in strips s) (run_cells strips rules' s run there refl))

-- a part of a strip stands in it
pub part_inside : (f : Cell → Option ℕ) (own : List Cell) (labels : List (Option ℕ)) (found : List LabelRun) → labels ≡ map f own → found ≡ runs_of labels
    → All (λ (part : LabelRun). (part.first ≤ part.last) × (part.last < length own)) found
part_inside f own labels found labels_are found_are =
    let P : List LabelRun → Type 0 = All (λ (part : LabelRun). (part.first ≤ part.last) × (part.last < length own)) in
    let many : length labels ≡ length own = ap length labels_are ∙ length-map own f in
    subst P (sym found_are)
    (λ k d there. let is = runs_are_runs labels k d there in (is.order, omega (arith, is.inside, many)))

-- the links between strips leave polygons of the tile
leaves_tile : (tile : ℕ) (runs : List (List Cell))
    → All (λ (l : Link). (l.from.tile ≡ tile) × (l.from.index < length runs))
    (flat_map (λ s. flat_map (strip_links_over tile runs s) (range_with_len 0 4)) (range_with_len 0 (length runs)))
leaves_tile tile runs =
    let P : Link → Type 0 = λ (l : Link). (l.from.tile ≡ tile) × (l.from.index < length runs) in
    gathered_all P (λ s. flat_map (strip_links_over tile runs s) (range_with_len 0 4)) 0 (length runs)
    (λ s least most. gathered_all P (strip_links_over tile runs s) 0 4
    (λ edge least' most'.
    All-map P (strip_link tile (get_or runs s []) s edge) (runs_of (map (strip_beyond runs s (outside_of edge)) (get_or runs s [])))
    (λ k d there. (refl, omega (arith, most)))))

pub links_ordered : (tile : ℕ) (runs : List (List Cell)) → AreOrderedLinks (strip_links tile runs)
links_ordered tile runs =
    let links = flat_map (λ s. flat_map (strip_links_over tile runs s) (range_with_len 0 4)) (range_with_len 0 (length runs)) in
    ordered_links-polygons tile links
    (All-weaker (λ (l : Link). (l.from.tile ≡ tile) × (l.from.index < length runs)) (λ (l : Link). l.from.tile ≡ tile) (λ l both. both.0) links (leaves_tile tile runs))

pub links_below : (tile : ℕ) (runs : List (List Cell)) → AreBelow (length runs) (strip_links tile runs)
links_below tile runs =
    let links = flat_map (λ s. flat_map (strip_links_over tile runs s) (range_with_len 0 4)) (range_with_len 0 (length runs)) in
    All-ordered_links (λ (l : Link). l.from.index < length runs) links
    (All-weaker (λ (l : Link). (l.from.tile ≡ tile) × (l.from.index < length runs)) (λ (l : Link). l.from.index < length runs) (λ l both. both.1) links (leaves_tile tile runs))
