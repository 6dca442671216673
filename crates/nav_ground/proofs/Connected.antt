-- Cells that an agent can step between: one in each neighbouring column at most, and each way back.
use Rattle.std.proofs.Common.{◌≡◌, ℕ, zero, suc, ◌+◌, ◌<◌, ◌≤◌, Bool, true, false, length, List, map, get_or, Option, Some, None, refl, sym, ap, ◌∙◌, arith, inl, inr}
use Rattle.std.specs.Prelude.{All, AllPairs, ◌&&◌, ◌==◌, nat_le, min, max}
use Rattle.std.specs.List.{find}
use Rattle.std.specs.Option.{option_map, option_map_or}
use Rattle.std.proofs.lemmas.Bool.{and_parts, and_from, eqb-true, eq-eqb, leb-true, le-leb, cases_lt}
use Rattle.std.proofs.lemmas.List.{length-map, get_or-map, get_or_default}
use Rattle.std.proofs.lemmas.List.Elements.{All-map, All-contains}
use Rattle.nav_ground.specs.declared.setting.Agent.{Agent}
use Rattle.nav_ground.specs.declared.cell.Cell.{Cell}
use Rattle.nav_ground.specs.declared.cell.CellRef.{CellRef}
use Rattle.nav_ground.specs.Limits.{IsAgent}
use Rattle.nav_ground.specs.Cells.{IsCellBefore, AreComplete, AreMutual, is_toward, is_naming, next_level, opposite}
use Rattle.nav_ground.specs.Filters.{is_near}
use Rattle.nav_ground.specs.Connection.{is_connected, level_toward, connected_cell}
use Rattle.nav_ground.proofs.Directions.{both_equal, toward_back}
use Rattle.nav_ground.proofs.Found.{first_found, found_in}
use Rattle.nav_ground.proofs.FreeLayers.{names_one}
use Rattle.nav_ground.proofs.Stacks.{IsStacked}

-- what it means that an agent can step between two cells, as orders
pub record IsStep (agent : Agent) (a b : Cell) : Type 0 where
  pub low : a.floor + agent.height ≤ a.ceiling
  pub under_other : a.floor + agent.height ≤ b.ceiling
  pub other_under : b.floor + agent.height ≤ a.ceiling
  pub other_low : b.floor + agent.height ≤ b.ceiling
  pub up : a.floor ≤ b.floor + agent.climb
  pub down : b.floor ≤ a.floor + agent.climb

pub step_from_test : (agent : Agent) (a b : Cell) → is_connected agent a b ≡ true → IsStep agent a b
step_from_test agent a b h =
    let parts = and_parts (nat_le (max a.floor b.floor + agent.height) (min a.ceiling b.ceiling)) (is_near agent.climb a.floor b.floor) h in
    let fits = leb-true (max a.floor b.floor + agent.height) (min a.ceiling b.ceiling) parts.0 in
    let near = and_parts (nat_le a.floor (b.floor + agent.climb)) (nat_le b.floor (a.floor + agent.climb)) parts.1 in
    record {
      low = omega (arith, fits);
      under_other = omega (arith, fits);
      other_under = omega (arith, fits);
      other_low = omega (arith, fits);
      up = leb-true a.floor (b.floor + agent.climb) near.0;
      down = leb-true b.floor (a.floor + agent.climb) near.1;
    }

pub test_of_step : (agent : Agent) (a b : Cell) → IsStep agent a b → is_connected agent a b ≡ true
test_of_step agent a b step =
    and_from (nat_le (max a.floor b.floor + agent.height) (min a.ceiling b.ceiling)) (is_near agent.climb a.floor b.floor)
    (le-leb _ _ (omega (arith, step.low, step.under_other, step.other_under, step.other_low)))
    (and_from (nat_le a.floor (b.floor + agent.climb)) (nat_le b.floor (a.floor + agent.climb)) (le-leb _ _ step.up) (le-leb _ _ step.down))

pub step_back : (agent : Agent) (a b : Cell) → is_connected agent a b ≡ true → is_connected agent b a ≡ true
step_back agent a b h =
    let step = step_from_test agent a b h in
    test_of_step agent b a (record {
      low = step.other_low;
      under_other = step.other_under;
      other_under = step.under_other;
      other_low = step.low;
      up = step.down;
      down = step.up;
    })

-- the column in a direction is one column
one_column : (dir : ℕ) (from a b : CellRef) → dir < 4 → is_toward dir from a ≡ true → is_toward dir from b ≡ true → (a.x ≡ b.x) × (a.z ≡ b.z)
one_column zero from a b small ha hb =
    let e = both_equal (a.x + 1) from.x a.z from.z ha in let f = both_equal (b.x + 1) from.x b.z from.z hb in
    (omega (arith, e.0, f.0), e.1 ∙ sym f.1)
one_column (suc zero) from a b small ha hb =
    let e = both_equal a.x from.x a.z (from.z + 1) ha in let f = both_equal b.x from.x b.z (from.z + 1) hb in
    (e.0 ∙ sym f.0, e.1 ∙ sym f.1)
one_column (suc (suc zero)) from a b small ha hb =
    let e = both_equal a.x (from.x + 1) a.z from.z ha in let f = both_equal b.x (from.x + 1) b.z from.z hb in
    (e.0 ∙ sym f.0, e.1 ∙ sym f.1)
one_column (suc (suc (suc zero))) from a b small ha hb =
    let e = both_equal a.x from.x (a.z + 1) from.z ha in let f = both_equal b.x from.x (b.z + 1) from.z hb in
    (e.0 ∙ sym f.0, omega (arith, e.1, f.1))
one_column (suc (suc (suc (suc n)))) from a b small ha hb = absurd (omega arith)

-- of two cells of one column that are stacked an agent can step to one at most: above the first ceiling the second floor is too high
not_both : (agent : Agent) (a b c : Cell) → IsAgent agent → b.ceiling < c.floor → is_connected agent a b ≡ true → is_connected agent a c ≡ true → ⊥
not_both agent a b c small stack hb hc =
    let sb = step_from_test agent a b hb in
    let sc = step_from_test agent a c hc in
    omega (arith, stack, sb.under_other, sc.down, small.climb)

one_step : (agent : Agent) (cells : List Cell) (a : Cell) (i j : ℕ) (d : Cell) → IsAgent agent → AllPairs IsStacked cells → i < length cells → j < length cells
    → (get_or cells i d).at.x ≡ (get_or cells j d).at.x → (get_or cells i d).at.z ≡ (get_or cells j d).at.z
    → is_connected agent a (get_or cells i d) ≡ true → is_connected agent a (get_or cells j d) ≡ true → i ≡ j
one_step agent cells a i j d small stack here there x z hi hj =
    elim (cases_lt i j) [
      | inl before ↦ absurd (not_both agent a (get_or cells i d) (get_or cells j d) small ((stack i j d before there).ceiling x z) hi hj)
      | inr rest ↦ elim (cases_lt j i) [
        | inl after ↦ absurd (not_both agent a (get_or cells j d) (get_or cells i d) small ((stack j i d after here).ceiling (sym x) (sym z)) hj hi)
        | inr rest' ↦ omega arith
      ]
    ]

-- no place comes before itself, so a place is that of one cell
not_before : (a b : CellRef) → a ≡ b → IsCellBefore a b → ⊥
not_before a b same (inl below) = omega (arith, below, ap (λ (c : CellRef). c.z) same)
not_before a b same (inr (row, inl left)) = omega (arith, left, ap (λ (c : CellRef). c.x) same)
not_before a b same (inr (row, inr (column, under))) = omega (arith, under, ap (λ (c : CellRef). c.level) same)

pub one_cell : (cells : List Cell) (i j : ℕ) (d : Cell) → AllPairs (λ (a b : Cell). IsCellBefore a.at b.at) cells → i < length cells → j < length cells
    → (get_or cells i d).at ≡ (get_or cells j d).at → i ≡ j
one_cell cells i j d order here there same =
    elim (cases_lt i j) [
      | inl before ↦ absurd (not_before _ _ same (order i j d before there))
      | inr rest ↦ elim (cases_lt j i) [
        | inl after ↦ absurd (not_before _ _ (sym same) (order j i d after here))
        | inr rest' ↦ omega arith
      ]
    ]

-- the levels of a connected cell, direction by direction
pub level_of_connected : (dir : ℕ) (agent : Agent) (cells : List Cell) (cell : Cell) → dir < 4
    → next_level (connected_cell agent cells cell) dir ≡ level_toward agent cells cell dir
level_of_connected zero agent cells cell small = refl
level_of_connected (suc zero) agent cells cell small = refl
level_of_connected (suc (suc zero)) agent cells cell small = refl
level_of_connected (suc (suc (suc zero))) agent cells cell small = refl
level_of_connected (suc (suc (suc (suc n)))) agent cells cell small = absurd (omega arith)

-- a look-up that gives a value
image_of : {A B : Type 0} (f : A → B) (o : Option A) (y : B) → option_map f o ≡ Some y → (x : A) × (o ≡ Some x) × (f x ≡ y)
image_of f None y h = absurd cc
image_of f (Some x) y h = (x, refl, let e : Some (f x) ≡ Some y = h in cc)

level_is : (o : Option ℕ) (n : ℕ) → option_map_or (λ level. level == n) o false ≡ true → o ≡ Some n
level_is None n h = absurd cc
level_is (Some level) n h = ap Some (eqb-true level n h)

is_level : (o : Option ℕ) (n : ℕ) → o ≡ Some n → option_map_or (λ level. level == n) o false ≡ true
is_level o n h = ap (λ p. option_map_or (λ level. level == n) p false) h ∙ eq-eqb n n refl

-- a connected cell stands for a cell of the list
pub record IsOf (agent : Agent) (cells : List Cell) (cell : Cell) : Type 0 where
  pub origin : Cell
  pub place : ℕ
  pub there : place < length cells
  pub at : get_or cells place origin ≡ origin
  pub is : cell ≡ connected_cell agent cells origin

of_cells : (agent : Agent) (cells : List Cell) → All (IsOf agent cells) (map (connected_cell agent cells) cells)
of_cells agent cells =
    All-map (IsOf agent cells) (connected_cell agent cells) cells
    (λ k d there. record {
      origin = get_or cells k d;
      place = k;
      there = there;
      at = get_or_default cells k (get_or cells k d) d there;
      is = refl;
    })

-- an agent can step from a cell to another in a direction
abbrev can_step : ℕ → Agent → Cell → Cell → Bool
can_step dir agent cell other = is_toward dir cell.at other.at && is_connected agent cell other

-- a cell of the list that a connected cell names
pub record IsNamed (agent : Agent) (cells : List Cell) (dir : ℕ) (cell : Cell) : Type 0 where
  pub other : Cell
  pub place : ℕ
  pub there : place < length cells
  pub at : get_or cells place other ≡ other
  pub step : is_connected agent cell other ≡ true
  pub naming : is_naming dir (connected_cell agent cells cell) other.at ≡ true

-- where a connected cell names a level there is such a cell
level_named : (agent : Agent) (cells : List Cell) (dir level : ℕ) (cell : Cell) → dir < 4
    → next_level (connected_cell agent cells cell) dir ≡ Some level → IsNamed agent cells dir cell
level_named agent cells dir level cell small next =
    let found = image_of (λ (other : Cell). other.at.level) (find (can_step dir agent cell) cells) level
    (sym (level_of_connected dir agent cells cell small) ∙ next) in
    let place = found_in (can_step dir agent cell) cells found.0 found.1 in
    let parts = and_parts (is_toward dir cell.at found.0.at) (is_connected agent cell found.0) place.passes in
    let same : Some level ≡ Some found.0.at.level = ap Some (sym found.2) in
    record {
      other = found.0;
      place = place.place;
      there = place.there;
      at = place.at;
      step = parts.1;
      naming = and_from (is_toward dir cell.at found.0.at) _ parts.0 (is_level (next_level (connected_cell agent cells cell) dir) found.0.at.level (next ∙ same));
    }

-- every connection names a cell of the list
pub connected_complete : (agent : Agent) (cells : List Cell) → AreComplete (map (connected_cell agent cells) cells)
connected_complete agent cells dir level a small has_a names =
    let f : Cell → Cell = connected_cell agent cells in
    let from = All-contains (IsOf agent cells) (map (connected_cell agent cells) cells) a (of_cells agent cells) has_a in
    let other = level_named agent cells dir level from.origin small (ap (λ (c : Cell). next_level c dir) (sym from.is) ∙ names) in (
      f other.other,
      (other.place, omega (arith, other.there, length-map cells f), get_or-map f cells other.place other.other (f other.other) other.there ∙ ap f other.at),
      ap (λ (c : Cell). is_naming dir c other.other.at) from.is ∙ other.naming,
    )

-- an agent can step to the cell that is named
named_step : (agent : Agent) (cells : List Cell) (dir : ℕ) (u v : Cell) (j : ℕ) → AllPairs IsStacked cells → dir < 4 → j < length cells → get_or cells j v ≡ v
    → is_naming dir (connected_cell agent cells u) v.at ≡ true → is_connected agent u v ≡ true
named_step agent cells dir u v j stack small there at named =
    let level = (and_parts (is_toward dir u.at v.at) _ named).1 in
    let other = level_named agent cells dir v.at.level u small (level_is _ _ level) in
    let o = other.other in
    let same = names_one dir (connected_cell agent cells u) o.at v.at small other.naming named in
    let o_at : get_or cells other.place v ≡ o = get_or_default cells other.place v o other.there ∙ other.at in
    let same_at : (get_or cells other.place v).at ≡ (get_or cells j v).at =
    ap (λ (c : Cell). c.at) o_at ∙ same ∙ sym (ap (λ (c : Cell). c.at) at) in
    let i_is_j = one_cell cells other.place j v (λ i k d before within. (stack i k d before within).before) other.there there same_at in
    let o_is_v : o ≡ v = sym o_at ∙ ap (λ i. get_or cells i v) i_is_j ∙ at in
    ap (is_connected agent u) (sym o_is_v) ∙ other.step

-- a cell that an agent can step back to is the one that is named
named_back : (agent : Agent) (cells : List Cell) (dir : ℕ) (v u : Cell) (i : ℕ) → IsAgent agent → AllPairs IsStacked cells → dir < 4 → i < length cells
    → get_or cells i u ≡ u → can_step dir agent v u ≡ true → is_naming dir (connected_cell agent cells v) u.at ≡ true
named_back agent cells dir v u i limits stack small there at step =
    let f : Cell → Cell = connected_cell agent cells in
    let first = first_found (can_step dir agent v) cells i u there (ap (can_step dir agent v) at ∙ step) in
    let p = get_or cells first.place u in
    let to_p = and_parts (is_toward dir v.at p.at) (is_connected agent v p) first.passes in
    let to_u = and_parts (is_toward dir v.at u.at) (is_connected agent v u) step in
    let column = one_column dir v.at p.at u.at small to_p.0 to_u.0 in
    let same = one_step agent cells v first.place i u limits stack (omega (arith, first.most, there)) there
    (column.0 ∙ sym (ap (λ (c : Cell). c.at.x) at)) (column.1 ∙ sym (ap (λ (c : Cell). c.at.z) at))
    to_p.1 (ap (is_connected agent v) at ∙ to_u.1) in
    let found : find (can_step dir agent v) cells ≡ Some u = first.is ∙ ap (λ k. Some (get_or cells k u)) same ∙ ap Some at in
    and_from (is_toward dir v.at u.at) _ to_u.0
    (is_level (next_level (f v) dir) u.at.level
    (level_of_connected dir agent cells v small ∙ ap (option_map (λ (other : Cell). other.at.level)) found))

-- a connection is named back
pub connected_mutual : (agent : Agent) (cells : List Cell) → IsAgent agent → AllPairs IsStacked cells → AreMutual (map (connected_cell agent cells) cells)
connected_mutual agent cells limits stack dir a b small has_a has_b named =
    let f : Cell → Cell = connected_cell agent cells in
    let from_a = All-contains (IsOf agent cells) (map (connected_cell agent cells) cells) a (of_cells agent cells) has_a in
    let from_b = All-contains (IsOf agent cells) (map (connected_cell agent cells) cells) b (of_cells agent cells) has_b in
    let u = from_a.origin in
    let v = from_b.origin in
    let at_a : f u ≡ a = sym from_a.is in
    let at_b : f v ≡ b = sym from_b.is in
    let there : is_naming dir (f u) v.at ≡ true =
    ap (λ (c : Cell). is_naming dir c v.at) at_a ∙ ap (λ (c : Cell). is_naming dir a c.at) at_b ∙ named in
    let step = named_step agent cells dir u v from_b.place stack small from_b.there from_b.at there in
    let toward = (and_parts (is_toward dir u.at v.at) _ there).0 in
    let back = named_back agent cells (opposite dir) v u from_a.place limits stack (omega arith) from_a.there from_a.at
    (and_from (is_toward (opposite dir) v.at u.at) (is_connected agent v u) (toward_back dir u.at v.at small toward) (step_back agent u v step)) in
    ap (λ (c : Cell). is_naming (opposite dir) b c.at) (sym at_a) ∙ ap (λ (c : Cell). is_naming (opposite dir) c u.at) (sym at_b) ∙ back
