-- Each free cell is a cell of exactly one strip, and its column lies in that strip's polygon.
use Rattle.std.proofs.Common.{◌≡◌, ℕ, ◌<◌, List, [], length, get_or, ap, ◌∙◌, sym, refl, subst, arith}
use Rattle.std.specs.Prelude.{All, ◌==◌}
use Rattle.std.proofs.lemmas.Bool.{eq-eqb, eqb-true}
use Rattle.std.proofs.lemmas.List.{get_or_default, get_or-map, length-map}
use Rattle.nav_ground.specs.declared.setting.Setting.{Setting}
use Rattle.nav_ground.specs.declared.cell.Cell.{Cell}
use Rattle.nav_ground.specs.declared.cell.FreeLayer.{FreeLayer}
use Rattle.nav_ground.specs.Cells.{IsCut}
use Rattle.cell_table.proofs.Tables.{one_index}
use Rattle.mesh_types.specs.StripCover.{IsInOne, HoldsColumnsOf, CoversCells}
use Rattle.mesh_types.specs.StripPolygons.{some_cell, strip_runs, strip_polygon}
use Rattle.mesh_types.specs.StripMeshes.{strip_mesh_of}
use Rattle.mono_regions.specs.Indices.{cell_at, index_runs, owner_of}
use Rattle.mono_regions.proofs.Owners.{owner_there}
use Rattle.mono_regions.proofs.Scans.{any_where}
use Rattle.mono_regions.proofs.StripLaws.{owner_is}
use Rattle.mono_regions.proofs.Touches.{held_by}
use Rattle.strip_mesh.proofs.ColumnLaws.{columns_held}
use Rattle.strip_mesh.proofs.RowLaws.{count_same, indices_are, own_length, own_cell, row_is}

-- the place of the cell with an index in its strip
pub record StandsIn (cells : List Cell) (i : ℕ) : Type 0 where
  pub there : owner_of cells i < length (strip_runs cells)
  pub place : ℕ
  pub inside : place < length (get_or (strip_runs cells) (owner_of cells i) [])
  pub is : (d : Cell) → get_or (get_or (strip_runs cells) (owner_of cells i) []) place d ≡ cell_at cells i

pub stands_in : (cells : List Cell) → IsCut cells → (i : ℕ) → i < length cells → StandsIn cells i
stands_in cells cut i inside =
    let s : ℕ = owner_of cells i in
    let there' = owner_there cells cut i inside in
    let there : s < length (strip_runs cells) = omega (arith, there', count_same cells) in
    let found = any_where (λ j. j == i) (get_or (index_runs cells) s []) 0 (held_by cells cut i s inside there' ∙ eq-eqb s s refl) in
    let k-in : found.0 < length (get_or (strip_runs cells) s []) = omega (arith, found.1, own_length cells s there) in
    record {
      there = there;
      place = found.0;
      inside = k-in;
      is = λ d. own_cell cells s found.0 d there k-in ∙ ap (cell_at cells) (eqb-true _ i found.2);
    }

-- a cell that stands in a strip is the one with some index, and the strip is that cell's own
pub own_strip : (cells : List Cell) → IsCut cells → (i s k : ℕ) → i < length cells → s < length (strip_runs cells) → k < length (get_or (strip_runs cells) s [])
    → (get_or (get_or (strip_runs cells) s []) k some_cell).at ≡ (cell_at cells i).at → owner_of cells i ≡ s
own_strip cells cut i s k inside there k-in same =
    let run : List ℕ = get_or (index_runs cells) s [] in
    let k-in' : k < length run = omega (arith, k-in, own_length cells s there) in
    let index : get_or run k 0 ≡ i =
    one_index cells cut.rules (get_or run k 0) i some_cell ((indices_are cells cut.rules s there).each k 0 k-in') inside
    (ap (λ (c : Cell). c.at) (sym (own_cell cells s k some_cell there k-in)) ∙ same) in
    ap (owner_of cells) (sym index) ∙ owner_is cells cut s (omega (arith, there, count_same cells)) k 0 k-in'

pub one_strip : (cells : List Cell) → IsCut cells → All (IsInOne (strip_runs cells)) cells
one_strip cells cut i d inside =
    let at = stands_in cells cut i inside in
    let cell : Cell = get_or cells i d in
    let same : cell_at cells i ≡ cell = get_or_default cells i some_cell d inside in
    record {
      strip = owner_of cells i;
      there = at.there;
      has = (at.place, at.inside, at.is cell ∙ same);
      only = λ s there held.
          sym (own_strip cells cut i s held.0 inside there held.1
          (ap (λ (c : Cell). c.at) (get_or_default (get_or (strip_runs cells) s []) held.0 some_cell cell held.1 ∙ held.2 ∙ sym same)));
    }

-- the polygons of a tile of strips cover its free cells
pub strips_cover : (setting : Setting) (free : FreeLayer) → IsCut free.cells → CoversCells (strip_mesh_of setting free)
unfolding strip_mesh_of
strips_cover setting free cut =
    let runs : List (List Cell) = strip_runs free.cells in
    record {
      once = one_strip free.cells cut;
      one_each = length-map runs strip_polygon;
      columns = λ s d there.
          let there' : s < length runs = omega (arith, there, length-map runs strip_polygon) in
          subst (HoldsColumnsOf (get_or runs s [])) (sym (get_or-map strip_polygon runs s [] d there')) (columns_held (get_or runs s []) (row_is free.cells cut s there'));
    }
