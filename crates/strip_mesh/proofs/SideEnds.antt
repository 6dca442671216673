-- A strip that ends right at a side of the tile has one cell along it.
use Rattle.std.proofs.Common.{◌≡◌, ℕ, ◌+◌, ◌-◌, ◌<◌, false, List, [], ◌∷◌, length, map, ◌++◌, get_or, ap, ◌∙◌, sym, arith, ℤ, pos, int_le, inl, inr, Option}
use Rattle.std.specs.Prelude.{None, Some}
use Rattle.std.proofs.lemmas.Bool.{cases_lt}
use Rattle.std.proofs.lemmas.Int.{ints}
use Rattle.std.proofs.lemmas.List.{append-nil, get_or-map, get_or_past, length-map}
use Rattle.nav_ground.specs.declared.cell.Cell.{Cell}
use Rattle.nav_ground.specs.declared.cell.Window.{Window}
use Rattle.mesh_types.specs.declared.region.LabelRun.{LabelRun}
use Rattle.mesh_types.specs.Runs.{runs_of, label_if}
use Rattle.mesh_types.specs.StripPolygons.{first_of, some_cell}
use Rattle.mesh_types.specs.Crossings.{is_crossing}
use Rattle.mono_regions.specs.Indices.{cell_at}
use Rattle.strip_mesh.specs.Strips.{last_of, IsAloneAtSide}
use Rattle.strip_mesh.proofs.AwayLaws.{no_label, no_runs}
use Rattle.strip_mesh.proofs.Counts.{run_length}
use Rattle.strip_mesh.proofs.EndLaws.{one_run}
use Rattle.strip_mesh.proofs.RowLaws.{IsRow}

beyond : (x k : ℕ) (x0 : ℤ) → pos x ≡ x0 → 0 < k → int_le (pos (x + k)) x0 ≡ false
beyond x k x0 is some = grind (arith, ints)

before : (x k last : ℕ) (x1 : ℤ) → pos (x + last) ≡ x1 → k < last → int_le x1 (pos (x + k)) ≡ false
before x k last x1 is less = grind (arith, ints)

pub first_alone : (window : Window) (own : List Cell) → IsRow own → pos (first_of own).at.x ≡ window.x0 → IsAloneAtSide window own 0 0
first_alone window own row is = record {
  there = row.some;
  others = λ k inside other.
      ap (λ n. int_le (pos n) window.x0) (row.x k some_cell inside) ∙ beyond (first_of own).at.x k window.x0 is (omega (arith, other));
}

pub last_alone : (window : Window) (own : List Cell) → IsRow own → pos (last_of own).at.x ≡ window.x1 → IsAloneAtSide window own 2 (length own - 1)
last_alone window own row is =
    let last : length own - 1 < length own = omega (arith, row.some) in
    record {
      there = last;
      others = λ k inside other.
          ap (λ n. int_le window.x1 (pos n)) (row.x k some_cell inside)
          ∙ before (first_of own).at.x k (length own - 1) window.x1 (ap (λ n. pos n) (sym (row.x (length own - 1) some_cell last)) ∙ is) (omega (arith, inside, other));
    }

-- the other cells have no label
unlabelled : (window : Window) (own : List Cell) (dir place : ℕ) → IsAloneAtSide window own dir place → (k : ℕ) → (k ≡ place → ⊥)
    → get_or (map (λ (cell : Cell). label_if (is_crossing window dir cell)) own) k None ≡ None
unlabelled window own dir place alone k other =
    let label = λ (cell : Cell). label_if (is_crossing window dir cell) in
    elim (cases_lt k (length own)) [
      | inl inside ↦ get_or-map label own k some_cell None inside ∙ no_label _ _ (alone.others k inside other)
      | inr past ↦ get_or_past (map label own) k None (omega (arith, past, length-map own label))
    ]

-- the rim lists nothing there where that cell has no label
pub no_entry : (window : Window) (own : List Cell) (dir place : ℕ) → IsAloneAtSide window own dir place
    → label_if (is_crossing window dir (get_or own place some_cell)) ≡ None → runs_of (map (λ (cell : Cell). label_if (is_crossing window dir cell)) own) ≡ []
no_entry window own dir place alone is =
    let label = λ (cell : Cell). label_if (is_crossing window dir cell) in
    let here : (k : ℕ) → k ≡ place → get_or (map label own) k None ≡ None = λ k e.
    ap (λ n. get_or (map label own) n None) e ∙ get_or-map label own place some_cell None alone.there ∙ is in
    no_runs (map label own)
    (λ k. elim (cases_lt k place) [
      | inl less ↦ unlabelled window own dir place alone k (λ e. omega (arith, e, less))
      | inr from ↦ elim (cases_lt place k) [
        | inl more ↦ unlabelled window own dir place alone k (λ e. omega (arith, e, more))
        | inr to ↦ here k (omega (arith, from, to))
      ]
    ])

-- else it lists that cell
pub one_entry : (window : Window) (own : List Cell) (dir place label : ℕ) → IsAloneAtSide window own dir place
    → label_if (is_crossing window dir (get_or own place some_cell)) ≡ Some label
    → runs_of (map (λ (cell : Cell). label_if (is_crossing window dir cell)) own) ≡ record { first = place; last = place; label = label } ∷ []
one_entry window own dir place label alone is =
    let labels = λ (cell : Cell). label_if (is_crossing window dir cell) in
    one_run (map labels own) place label (omega (arith, alone.there, length-map own labels))
    (get_or-map labels own place some_cell None alone.there ∙ is) (unlabelled window own dir place alone)

-- one entry more, or none, behind those before
pub entry_pushed : {B : Type 0} (f : LabelRun → B) (before after : List B) (made : B) (runs : List LabelRun) (part : LabelRun) → after ≡ before ++ made ∷ [] → made ≡ f part
    → runs ≡ part ∷ [] → after ≡ before ++ map f runs
entry_pushed {B} f before after made runs part is same all =
    is ∙ ap (λ (b : B). before ++ b ∷ []) same ∙ sym (ap (λ rs. before ++ map f rs) all)

pub no_entry_pushed : {B : Type 0} (f : LabelRun → B) (before : List B) (runs : List LabelRun) → runs ≡ [] → before ≡ before ++ map f runs
no_entry_pushed f before runs none = sym (append-nil before) ∙ sym (ap (λ rs. before ++ map f rs) none)

-- the label of the cell with an index is that of the cell at a place of the strip
pub label_here : (window : Window) (dir : ℕ) (cells : List Cell) (run : List ℕ) (own : List Cell) (place : ℕ) (found : Option ℕ)
    → map (cell_at cells) run ≡ own → place < length own → found ≡ label_if (is_crossing window dir (cell_at cells (get_or run place 0)))
    → label_if (is_crossing window dir (get_or own place some_cell)) ≡ found
label_here window dir cells run own place found are there is =
    let label = λ (cell : Cell). label_if (is_crossing window dir cell) in
    ap (λ (cs : List Cell). label (get_or cs place some_cell)) (sym are)
    ∙ ap label (get_or-map (cell_at cells) run place 0 some_cell (omega (arith, there, run_length cells run own are)))
    ∙ sym is
