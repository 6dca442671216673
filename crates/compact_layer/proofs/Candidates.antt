-- The one cell of a neighbouring column that a cell may be connected to, and the cells that are passed before it.
use Rattle.std.proofs.Common.{◌≡◌, ℕ, ◌+◌, ◌<◌, ◌≤◌, Bool, true, false, length, List, [], get_or, Some, None, sym, ap, ◌∙◌, subst, arith, inl, inr}
use Rattle.std.specs.Prelude.{nat_lt, ◌==◌, ◌&&◌}
use Rattle.std.specs.Option.{option_map}
use Rattle.std.proofs.lemmas.Bool.{and_parts, and_from, or_cases, or_parts, or_left, or_right, eqb-true, eq-eqb, ltb-true, ltb-false, lt-ltb, cases_lt, cases_order, eqb-false, and_cases, false_from_ne_true}
use Rattle.std.proofs.lemmas.List.{get_or_default}
use Rattle.nav_ground.specs.declared.setting.Agent.{Agent}
use Rattle.nav_ground.specs.declared.cell.Cell.{Cell}
use Rattle.nav_ground.specs.Limits.{IsAgent}
use Rattle.nav_ground.specs.Cells.{is_toward}
use Rattle.nav_ground.specs.Connection.{is_connected, level_toward}
use Rattle.nav_ground.proofs.Found.{find_is, find_none}
use Rattle.nav_ground.proofs.Connected.{step_from_test}
use Rattle.compact_layer.specs.Columns.{column_of, column_toward}
use Rattle.compact_layer.specs.Stacks.{IsStanding, IsUnder, AreStacked, is_passed, IsPassed, ArePassed}
use Rattle.compact_layer.specs.declared.sweep.PassedColumns.{PassedColumns}
use Rattle.compact_layer.proofs.ColumnNumbers.{number_toward, toward_of_number}

-- the cell that stands where there is none
abbrev pub no_cell : Cell
no_cell = record { at = record { x = 0; z = 0; level = 0 }; floor = 0; ceiling = 0; area = 0; next = [] }

-- a cell that is passed lies before the column, or in it with its ceiling below the height
pub record IsBefore (column height : ℕ) (cell : Cell) : Type 0 where
  pub at_most : column_of cell.at ≤ column
  pub under : column_of cell.at ≡ column → cell.ceiling < height

before_from_test : (column height : ℕ) (cell : Cell) → is_passed column height cell ≡ true → IsBefore column height cell
before_from_test column height cell h =
    elim (or_cases (nat_lt (column_of cell.at) column) (column_of cell.at == column && nat_lt cell.ceiling height) h) [
      | inl earlier ↦
          let before = ltb-true (column_of cell.at) column earlier in
          record { at_most = omega (arith, before); under = λ same. absurd (omega (arith, before, same)) }
      | inr here ↦
          let parts = and_parts (column_of cell.at == column) (nat_lt cell.ceiling height) here in
          let same = eqb-true (column_of cell.at) column parts.0 in
          record { at_most = omega (arith, same); under = λ same'. ltb-true cell.ceiling height parts.1 }
    ]

test_of_before : (column height : ℕ) (cell : Cell) → IsBefore column height cell → is_passed column height cell ≡ true
test_of_before column height cell before =
    elim (cases_lt (column_of cell.at) column) [
      | inl earlier ↦ or_left (nat_lt (column_of cell.at) column) _ (lt-ltb (column_of cell.at) column earlier)
      | inr rest ↦
          let same : column_of cell.at ≡ column = omega (arith, rest, before.at_most) in
          or_right (nat_lt (column_of cell.at) column) _
          (and_from (column_of cell.at == column) (nat_lt cell.ceiling height) (eq-eqb (column_of cell.at) column same) (lt-ltb cell.ceiling height (before.under same)))
    ]

-- a cell that is not passed lies in a later column, or in the column with its ceiling at the height or above
not_passed : (column height : ℕ) (cell : Cell) → is_passed column height cell ≡ false → (column ≤ column_of cell.at) × (column_of cell.at ≡ column → height ≤ cell.ceiling)
not_passed column height cell h =
    let parts = or_parts (nat_lt (column_of cell.at) column) (column_of cell.at == column && nat_lt cell.ceiling height) h in (
      ltb-false (column_of cell.at) column parts.0,
      λ same. elim (and_cases (column_of cell.at == column) (nat_lt cell.ceiling height) parts.1) [
        | inl apart ↦ absurd (eqb-false (column_of cell.at) column apart same)
        | inr high ↦ ltb-false cell.ceiling height high
      ],
    )

-- what is passed for one cell is passed for one that is later in order
passed_later : (cells : List Cell) (n column column' height height' : ℕ) → column ≤ column' → (column ≡ column' → height ≤ height')
    → IsPassed cells n column height → IsPassed cells n column' height'
passed_later cells n column column' height height' later higher passed = record {
  most = passed.most;
  each = λ k d below.
      let before = before_from_test column height (get_or cells k d) (passed.each k d below) in
      test_of_before column' height' (get_or cells k d) (record {
        at_most = omega (arith, before.at_most, later);
        under = λ same.
            let here = before.under (omega (arith, before.at_most, later, same)) in
            let more = higher (omega (arith, before.at_most, later, same)) in
            omega (arith, here, more);
      });
}

pub passed_on : (cells : List Cell) (height : ℕ) (passed : PassedColumns) (a b : Cell) → IsUnder a b → ArePassed cells height passed a → ArePassed cells height passed b
passed_on cells height passed a b under before = record {
  left = passed_later cells passed.left _ _ _ _ (omega (arith, under.column)) (λ same. let h = under.floor (omega (arith, same)) in omega (arith, h)) before.left;
  above = passed_later cells passed.above _ _ _ _ (omega (arith, under.column)) (λ same. let h = under.floor (omega (arith, same)) in omega (arith, h)) before.above;
  right = passed_later cells passed.right _ _ _ _ (omega (arith, under.column)) (λ same. let h = under.floor (omega (arith, same)) in omega (arith, h)) before.right;
  below = passed_later cells passed.below _ _ _ _ (omega (arith, under.column)) (λ same. let h = under.floor (omega (arith, same)) in omega (arith, h)) before.below;
}

-- at first none is passed
none_passed_yet : (cells : List Cell) (column height : ℕ) → IsPassed cells 0 column height
none_passed_yet cells column height = record { most = omega arith; each = λ k d below. absurd (omega arith) }

pub all_unpassed : (cells : List Cell) (height : ℕ) (passed : PassedColumns) (cell : Cell)
    → passed ≡ record { left = 0; above = 0; right = 0; below = 0 } → ArePassed cells height passed cell
all_unpassed cells height passed cell is =
    let P : PassedColumns → Type 0 = λ (p : PassedColumns). ArePassed cells height p cell in
    subst P (sym is) (record {
      left = none_passed_yet cells _ _;
      above = none_passed_yet cells _ _;
      right = none_passed_yet cells _ _;
      below = none_passed_yet cells _ _;
    })

-- one more cell that is passed
pub one_more_passed : (cells : List Cell) (n column height : ℕ) (d : Cell) → n < length cells → is_passed column height (get_or cells n d) ≡ true
    → IsPassed cells n column height → IsPassed cells (n + 1) column height
one_more_passed cells n column height d there here passed = record {
  most = omega (arith, there);
  each = λ k e below.
      elim (cases_lt k n) [
        | inl before ↦ passed.each k e before
        | inr rest ↦
            let same : k ≡ n = omega (arith, below, rest) in
            ap (is_passed column height) (ap (λ i. get_or cells i e) same ∙ get_or_default cells n e d there) ∙ here
      ];
}

-- an agent can step from a cell to another in a direction
abbrev can_step : ℕ → Agent → Cell → Cell → Bool
can_step dir agent cell other = is_toward dir cell.at other.at && is_connected agent cell other

-- no cell that is passed is the one that is sought
not_among_passed : (dir column : ℕ) (agent : Agent) (cell other : Cell) → dir < 4 → column ≡ column_toward dir cell.at
    → is_passed column (cell.floor + agent.height) other ≡ true → can_step dir agent cell other ≡ false
not_among_passed dir column agent cell other small number passed =
    false_from_ne_true (can_step dir agent cell other)
    (λ step.
    let parts = and_parts (is_toward dir cell.at other.at) (is_connected agent cell other) step in
    let before = before_from_test column _ other passed in
    let under = before.under (number_toward dir cell.at other.at small parts.0 ∙ sym number) in
    let fits = (step_from_test agent cell other parts.1).under_other in
    omega (arith, under, fits))

-- nor is one that comes after the first that is not passed
not_after : (dir column : ℕ) (agent : Agent) (cell first other : Cell) → dir < 4 → IsAgent agent → IsUnder first other → column ≡ column_toward dir cell.at
    → is_passed column (cell.floor + agent.height) first ≡ false → can_step dir agent cell other ≡ false
not_after dir column agent cell first other small limits under number reached =
    false_from_ne_true (can_step dir agent cell other)
    (λ step.
    let parts = and_parts (is_toward dir cell.at other.at) (is_connected agent cell other) step in
    let there = number_toward dir cell.at other.at small parts.0 ∙ sym number in
    let from = not_passed column _ first reached in
    let same : column_of first.at ≡ column = omega (arith, there, from.0, under.column) in
    let high = from.1 same in
    let over = under.ceiling (same ∙ sym there) in
    let down = (step_from_test agent cell other parts.1).down in
    omega (arith, high, over, down, limits.climb))

-- the first cell that is not passed, where an agent can step there
pub step_to_candidate : (dir column : ℕ) (agent : Agent) (cells : List Cell) (cell other : Cell) (p : ℕ) → dir < 4 → IsStanding cell → AreStacked cells
    → column ≡ column_toward dir cell.at → IsPassed cells p column (cell.floor + agent.height) → p < length cells → other ≡ get_or cells p other
    → column_of other.at ≡ column → is_connected agent cell other ≡ true → Some other.at.level ≡ level_toward agent cells cell dir
step_to_candidate dir column agent cells cell other p small here stack number passed there at same step =
    let P : Cell → Type 0 = λ (c : Cell). IsStanding c in
    let toward = toward_of_number dir cell.at other.at small here.at (subst P (sym at) (stack.each p other there)).at (same ∙ number) in
    let found = find_is (can_step dir agent cell) cells p other there
    (λ k below. not_among_passed dir column agent cell (get_or cells k other) small number (passed.each k other below))
    (ap (can_step dir agent cell) (sym at) ∙ and_from (is_toward dir cell.at other.at) (is_connected agent cell other) toward step) in
    ap (λ (c : Cell). Some c.at.level) at ∙ sym (ap (option_map (λ (c : Cell). c.at.level)) found)

-- the first cell that is not passed, where an agent cannot step there
pub no_step : (dir column : ℕ) (agent : Agent) (cells : List Cell) (cell : Cell) (p : ℕ) → dir < 4 → IsAgent agent → AreStacked cells
    → column ≡ column_toward dir cell.at → IsPassed cells p column (cell.floor + agent.height)
    → ((d : Cell) → p < length cells → is_passed column (cell.floor + agent.height) (get_or cells p d) ≡ false)
    → ((d : Cell) → p < length cells → column_of (get_or cells p d).at ≡ column → is_connected agent cell (get_or cells p d) ≡ true → ⊥)
    → None ≡ level_toward agent cells cell dir
no_step dir column agent cells cell p small limits stack number passed reached not =
    sym (ap (option_map (λ (other : Cell). other.at.level)) (find_none (can_step dir agent cell) cells (λ k d there. none_at k d there)))
  where
    step_at : (k : ℕ) (d : Cell) → k < length cells → p ≡ k → can_step dir agent cell (get_or cells k d) ≡ true → ⊥
    step_at k d there same step =
        let parts = and_parts (is_toward dir cell.at (get_or cells k d).at) (is_connected agent cell (get_or cells k d)) step in
        not d (omega (arith, same, there))
        (ap (λ i. column_of (get_or cells i d).at) same ∙ number_toward dir cell.at (get_or cells k d).at small parts.0 ∙ sym number)
        (ap (λ i. is_connected agent cell (get_or cells i d)) same ∙ parts.1)

    none_at : (k : ℕ) (d : Cell) → k < length cells → can_step dir agent cell (get_or cells k d) ≡ false
    none_at k d there =
        elim (cases_order p k) [
          | inl same ↦ false_from_ne_true (can_step dir agent cell (get_or cells k d)) (step_at k d there same)
          | inr (inl after) ↦
              not_after dir column agent cell (get_or cells p d) (get_or cells k d) small limits (stack.order p k d after there) number
              (reached d (omega (arith, after, there)))
          | inr (inr below) ↦ not_among_passed dir column agent cell (get_or cells k d) small number (passed.each k d below)
        ]
