use Rattle.std.proofs.Common.{◌≡◌, ℕ, ◌+◌, ◌-◌, ◌<◌, ◌∙◌, List, [], ◌∷◌, length, map, arith, refl, sym, ap}
use Rattle.std.specs.Prelude.{slice_index_or}
use Rattle.std.proofs.lemmas.List.{length-map, get_or_default}
use Rattle.nav_ground.specs.declared.cell.Cell.{Cell}
use Rattle.mesh_types.specs.StripPolygons.{first_of, rectangle, some_cell}
use Rattle.mono_regions.specs.Indices.{cell_at}
use Rattle.strip_mesh.proofs.polygons.polygon.Goals as goal

first_is : (cells : List Cell) (run : List ℕ) → 0 < length run → cell_at cells (slice_index_or run 0 0) ≡ first_of (map (cell_at cells) run)
first_is cells [] some = absurd (omega (arith, some))
first_is cells (at ∷ run) some = refl

pub returns : goal.returns
returns c =
    let cells = c.args.cells.now in
    let run = c.args.run.now in
    let first = c.index-cells-run.is ∙ get_or_default cells (slice_index_or run 0 0) c.index-cells-run.result some_cell (c.requires.run.each 0 0 c.requires.run.some)
    ∙ first_is cells run c.requires.run.some in
    let at = c.at-at.ensures ∙ ap (λ (cell : Cell). cell.at) first in
    let area = c.area.ensures ∙ ap (λ (cell : Cell). cell.area) first in
    let count = length-map run (cell_at cells) in
    let corners =
    c.from_slice.ensures ∙ (λ i. c.corner.ensures i ∷ c.corner-2.ensures i ∷ c.corner-3.ensures i ∷ c.corner-4.ensures i ∷ [])
    ∙ (λ i. rectangle (at i).x ((at i).x + sym count i - 1) (at i).z) in
    λ i. record { corners = corners i; area = area i; low = c.low.ensures i; high = c.high.ensures i }
