-- A strip whose first cell does not lie along a side of the tile has no cell along it; for the side toward x + 1 that holds of its last.
use Rattle.std.proofs.Common.{◌≡◌, ℕ, zero, suc, ◌+◌, ◌-◌, ◌<◌, ◌≤◌, Bool, true, false, List, [], ◌∷◌, length, map, get_or, ap, ◌∙◌, sym, refl, arith, ℤ, pos, int_le, inl, inr, Option}
use Rattle.std.specs.Prelude.{None, All, ◌&&◌}
use Rattle.std.proofs.lemmas.Bool.{cases_lt}
use Rattle.std.proofs.lemmas.Int.{ints}
use Rattle.std.proofs.lemmas.List.{get_or-map, get_or_past, length-map}
use Rattle.std.proofs.lemmas.Option.{none-some}
use Rattle.nav_ground.specs.declared.cell.Cell.{Cell}
use Rattle.nav_ground.specs.declared.cell.Window.{Window}
use Rattle.mesh_types.specs.Runs.{runs_of, label_if}
use Rattle.mesh_types.specs.StripPolygons.{first_of, some_cell}
use Rattle.mesh_types.specs.Crossings.{is_at_side, is_crossing}
use Rattle.mesh_types.proofs.RunLaws.{runs_are_runs}
use Rattle.strip_mesh.specs.Strips.{last_of}
use Rattle.strip_mesh.proofs.RowLaws.{IsRow}

none_there : {X : Type 0} (xs : List X) → All (λ x. ⊥) xs → xs ≡ []
none_there [] never = refl
none_there (x ∷ xs) never = absurd (never 0 x (omega arith))

-- without labels there are no runs
pub no_runs : (labels : List (Option ℕ)) → ((k : ℕ) → get_or labels k None ≡ None) → runs_of labels ≡ []
no_runs labels none =
    none_there (runs_of labels)
    (λ k d there.
    let run = runs_are_runs labels k d there in
    none-some _ (sym (none (get_or (runs_of labels) k d).first) ∙ run.labelled _ (omega arith) run.order))

further : (x k : ℕ) (x0 : ℤ) → int_le (pos x) x0 ≡ false → int_le (pos (x + k)) x0 ≡ false
further x k x0 h = grind (arith, ints)

-- the other cells lie no nearer to the side
cell_away : (dir : ℕ) (window : Window) (own : List Cell) (k : ℕ) (d : Cell) → dir < 4 → (dir ≡ 2 → ⊥) → IsRow own → k < length own
    → is_at_side window dir (first_of own).at ≡ false → is_at_side window dir (get_or own k d).at ≡ false
cell_away zero window own k d small other row inside away =
    ap (λ n. int_le (pos n) window.x0) (row.x k d inside) ∙ further (first_of own).at.x k window.x0 away
cell_away (suc zero) window own k d small other row inside away = ap (λ n. int_le window.z1 (pos n)) (row.z k d inside) ∙ away
cell_away (suc (suc zero)) window own k d small other row inside away = absurd (other refl)
cell_away (suc (suc (suc zero))) window own k d small other row inside away = ap (λ n. int_le (pos n) window.z0) (row.z k d inside) ∙ away
cell_away (suc (suc (suc (suc dir)))) window own k d small other row inside away = absurd (omega (arith, small))

pub no_label : (at kept : Bool) → at ≡ false → label_if (at && kept) ≡ None
no_label true kept is = absurd cc
no_label false kept is = refl

-- no cell has a label for a side along which none lies
no_rim_where : (dir : ℕ) (window : Window) (own : List Cell) → ((k : ℕ) → k < length own → is_at_side window dir (get_or own k some_cell).at ≡ false)
    → runs_of (map (λ (cell : Cell). label_if (is_crossing window dir cell)) own) ≡ []
no_rim_where dir window own away =
    let label = λ (cell : Cell). label_if (is_crossing window dir cell) in
    no_runs (map label own)
    (λ k. elim (cases_lt k (length own)) [
      | inl inside ↦ get_or-map label own k some_cell None inside ∙ no_label _ _ (away k inside)
      | inr past ↦ get_or_past (map label own) k None (omega (arith, past, length-map own label))
    ])

pub no_rim : (dir : ℕ) (window : Window) (own : List Cell) → dir < 4 → (dir ≡ 2 → ⊥) → IsRow own → is_at_side window dir (first_of own).at ≡ false
    → runs_of (map (λ (cell : Cell). label_if (is_crossing window dir cell)) own) ≡ []
no_rim dir window own small other row away =
    no_rim_where dir window own (λ k inside. cell_away dir window own k some_cell small other row inside away)

before : (x k last : ℕ) (x1 : ℤ) → k ≤ last → int_le x1 (pos (x + last)) ≡ false → int_le x1 (pos (x + k)) ≡ false
before x k last x1 near h = grind (arith, ints)

pub no_rim_right : (window : Window) (own : List Cell) → IsRow own → is_at_side window 2 (last_of own).at ≡ false
    → runs_of (map (λ (cell : Cell). label_if (is_crossing window 2 cell)) own) ≡ []
no_rim_right window own row away =
    let last : length own - 1 < length own = omega (arith, row.some) in
    no_rim_where 2 window own
    (λ k inside. ap (λ n. int_le window.x1 (pos n)) (row.x k some_cell inside)
    ∙ before (first_of own).at.x k (length own - 1) window.x1 (omega (arith, inside))
    (ap (λ n. int_le window.x1 (pos n)) (sym (row.x (length own - 1) some_cell last)) ∙ away))
