-- The areas that cells are left with are small.
use Rattle.std.proofs.Common.{◌≡◌, ℕ, zero, suc, ◌<◌, ◌≤◌, Bool, true, false, cond, length, List, [], ◌∷◌, map, get_or, ap, ◌∙◌, sym, subst, Option, Some, None, arith, inl, inr}
use Rattle.std.specs.Prelude.{All, not}
use Rattle.std.specs.List.{filter, list_any}
use Rattle.std.proofs.lemmas.Bool.{cases_lt}
use Rattle.std.proofs.lemmas.List.{length-map, get_or_past}
use Rattle.std.proofs.lemmas.List.Elements.{All-head, All-tail}
use Rattle.nav_ground.specs.declared.cell.Cell.{Cell}
use Rattle.nav_ground.specs.declared.cell.CellRef.{CellRef}
use Rattle.nav_ground.specs.declared.cell.Layer.{Layer}
use Rattle.nav_ground.specs.declared.shape.Shape.{Shape}
use Rattle.nav_ground.specs.Cells.{IsCell, IsCut, is_naming}
use Rattle.nav_ground.specs.SmallCells.{IsSmall}
use Rattle.nav_ground.specs.Limits.{IsShape}
use Rattle.nav_ground.specs.FreeCells.{is_taken, area_under, free_cell_of}
use Rattle.nav_ground.proofs.FreeLayers.{free_layer_cut}
use Rattle.nav_ground.proofs.SmallCellLaws.{small_losing}
use Rattle.obstacle_mark.specs.AreasLeft.{area_left, AreSmall}
use Rattle.obstacle_mark.specs.Places.{next_kept}
use Rattle.obstacle_mark.proofs.Blocked.{area_beside, no_cell}
use Rattle.obstacle_mark.proofs.FreeCellsLeft.{area_of_left}

-- what holds of each image of an element that is kept holds of the image of one that passes
each_kept : {X Y : Type 0} (P : Y → Type 0) (f : X → Y) (p : X → Bool) (xs : List X) (k : ℕ) (d : X)
    → All P (map f (filter p xs)) → k < length xs → p (get_or xs k d) ≡ true → P (f (get_or xs k d))
each_kept P f p [] k d each there passes = absurd (omega arith)
each_kept {X = X} {Y = Y} P f p (x ∷ xs) zero d each there passes = by_test (p x) passes each
  where
    by_test : (b : Bool) → b ≡ true → All P (map f (cond b (x ∷ filter p xs) (filter p xs))) → P (f x)
    by_test true is each = All-head P (f x) (map f (filter p xs)) each
    by_test false is each = absurd cc
each_kept {X = X} {Y = Y} P f p (x ∷ xs) (suc k) d each there passes =
    each_kept P f p xs k d (by_test (p x) each) (omega (arith, there)) passes
  where
    by_test : (b : Bool) → All P (map f (cond b (x ∷ filter p xs) (filter p xs))) → All P (map f (filter p xs))
    by_test true each = All-tail P (f x) (map f (filter p xs)) each
    by_test false each = each

-- the areas that the cells of a layer are left with are those of its free cells
pub small_areas : (layer : Layer) (shapes : List Shape) (areas : List (Option ℕ)) → IsCut layer.cells → All IsShape shapes
    → areas ≡ map (area_left (is_taken layer shapes) shapes) layer.cells → AreSmall areas
small_areas layer shapes areas cut limits is k area left =
    elim (cases_lt k (length cells)) [
      | inl there ↦
          let parts = area_of_left (taken (get_or cells k no_cell)) (area_under shapes (get_or cells k no_cell)) area
          (sym (area_beside taken shapes cells areas k no_cell is there) ∙ left) in
          let rules' = each_kept IsCell (free_cell_of taken cells shapes) (λ (cell : Cell). not (taken cell)) cells k no_cell
          (free_layer_cut layer shapes cut limits).rules.each there (ap not parts.0) in
          omega (arith, parts.1, rules'.area.most)
      | inr past ↦ absurd (nothing (sym (get_or_past areas k None (omega (arith, past, ap length is, length-map cells (area_left taken shapes)))) ∙ left))
    ]
  where
    cells : List Cell
    cells = layer.cells

    taken : Cell → Bool
    taken = is_taken layer shapes

    nothing : None ≡ Some area → ⊥
    nothing same = absurd cc

-- a small cell with a small area and without some of its neighbours is small
pub free_cell_small : (cell : Cell) (area : ℕ) (next : List (Option ℕ)) (blocked : List CellRef) → IsSmall cell → area ≤ 255
    → next ≡ next_kept blocked cell → IsSmall (record cell { area = area; next = next })
free_cell_small cell area next blocked small fits is =
    subst (λ (levels : List (Option ℕ)). IsSmall (record cell { area = area; next = levels })) (sym is)
    (small_losing cell area (λ dir. list_any (λ (at : CellRef). is_naming dir cell at) blocked) small fits)
