-- Taken places in none of the columns beside a cell's take no neighbour from it.
use Rattle.std.proofs.Common.{◌≡◌, ℕ, zero, suc, ◌<◌, length, List, [], ◌∷◌, get_or, ap, ◌∙◌, sym, refl, Option, None, arith}
use Rattle.std.specs.Prelude.{All, if◌then◌else◌, option_and_then, slice_get}
use Rattle.std.proofs.lemmas.Bool.{and_left, ne_eqb}
use Rattle.std.proofs.lemmas.List.Folds.{list_any_none}
use Rattle.nav_ground.specs.declared.cell.Cell.{Cell}
use Rattle.nav_ground.specs.declared.cell.CellRef.{CellRef}
use Rattle.nav_ground.specs.Cells.{IsCell, is_naming, next_level}
use Rattle.cell_table.specs.Columns.{IsPlace, column_of, column_toward}
use Rattle.cell_table.proofs.Places.{toward_number}
use Rattle.obstacle_mark.specs.Columns.{ArePlaces, LiesApart}
use Rattle.obstacle_mark.specs.Places.{level_kept, next_kept}

-- what stands in a direction
abbrev level_in : List (Option ℕ) → ℕ → Option ℕ
level_in nexts dir = option_and_then (λ (next : Option ℕ). next) (slice_get nexts dir)

-- a place in none of the four columns beside is in none of them by number
none_toward : (dir : ℕ) (own at : CellRef) → dir < 4 → LiesApart (column_of own) at → column_of at ≡ column_toward dir own → ⊥
none_toward zero own at small apart same = apart.left same
none_toward (suc zero) own at small apart same = apart.above same
none_toward (suc (suc zero)) own at small apart same = apart.right same
none_toward (suc (suc (suc zero))) own at small apart same = apart.below same
none_toward (suc (suc (suc (suc dir)))) own at small apart same = absurd (omega (arith, small))

-- a cell names none of such places, and keeps the level that it names
kept_apart : (dir : ℕ) (cell : Cell) (blocked : List CellRef) → dir < 4 → IsPlace cell.at → All IsPlace blocked
    → All (LiesApart (column_of cell.at)) blocked → next_level cell dir ≡ level_kept blocked cell dir
kept_apart dir cell blocked small f each apart =
    sym (ap (λ b. if b then None else next_level cell dir)
    (list_any_none (λ (at : CellRef). is_naming dir cell at) blocked
    (λ k d there.
    and_left _ _ (toward_number dir cell.at (get_or blocked k d) small f (each k d there)
    ∙ ne_eqb _ _ (none_toward dir cell.at (get_or blocked k d) small (apart k d there))))))

all_kept : (cell : Cell) (blocked : List CellRef) → IsPlace cell.at → All IsPlace blocked → All (LiesApart (column_of cell.at)) blocked
    → next_level cell 0 ∷ next_level cell 1 ∷ next_level cell 2 ∷ next_level cell 3 ∷ [] ≡ next_kept blocked cell
all_kept cell blocked f each apart =
    let same : (dir : ℕ) → dir < 4 → next_level cell dir ≡ level_kept blocked cell dir = λ dir small. kept_apart dir cell blocked small f each apart in
    cc (same 0 (omega arith), same 1 (omega arith), same 2 (omega arith), same 3 (omega arith))

pub four_levels : (nexts : List (Option ℕ)) → length nexts ≡ 4
    → nexts ≡ level_in nexts 0 ∷ level_in nexts 1 ∷ level_in nexts 2 ∷ level_in nexts 3 ∷ []
four_levels (a ∷ b ∷ c ∷ d ∷ []) four = refl
four_levels [] four = absurd (omega (arith, four))
four_levels (a ∷ []) four = absurd (omega (arith, four))
four_levels (a ∷ b ∷ []) four = absurd (omega (arith, four))
four_levels (a ∷ b ∷ c ∷ []) four = absurd (omega (arith, four))
four_levels (a ∷ b ∷ c ∷ d ∷ e ∷ more) four = absurd (omega (arith, four))

-- so a cell whose area stays stays as it is where no place lies in a column beside its own
pub cell_kept : (cell : Cell) (area : ℕ) (blocked : List CellRef) → IsCell cell → area ≡ cell.area → ArePlaces blocked
    → All (LiesApart (column_of cell.at)) blocked → cell ≡ record cell { area = area; next = next_kept blocked cell }
cell_kept cell area blocked rules' stays places apart =
    let place : IsPlace cell.at = record { x = rules'.x; z = rules'.z } in
    let kept = all_kept cell blocked place places.each apart in
    ap (λ (next : List (Option ℕ)). record cell { next = next }) (four_levels cell.next rules'.sides ∙ kept)
    ∙ ap (λ (a : ℕ). record cell { area = a; next = next_kept blocked cell }) (sym stays)
