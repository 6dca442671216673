-- What the entries of a tile's rim list.
use Rattle.std.proofs.Common.{◌≡◌, ℕ, ◌-◌, ◌≤◌, Bool, true, false, cond, List, get_or, ap, ◌∙◌, sym, refl, arith, Option}
use Rattle.std.specs.Prelude.{Some, None, Contains, ◌==◌, ◌&&◌, nat_le, slice_get}
use Rattle.std.specs.List.{count_by, sum_by}
use Rattle.std.specs.Option.{option_map_or}
use Rattle.std.proofs.lemmas.Bool.{and_from, eq-eqb, eqb-true, cond-true, le-leb}
use Rattle.std.proofs.lemmas.List.Sums.{get_or-le-sum_by, sum_by-le-sum_by}
use Rattle.nav_ground.specs.declared.cell.Cell.{Cell}
use Rattle.mesh_types.specs.declared.mesh.LevelPair.{LevelPair}
use Rattle.mesh_types.specs.declared.mesh.RimEdge.{RimEdge}
use Rattle.mesh_types.specs.BorderLinks.{along_side, pair_at}
use Rattle.mesh_types.specs.Passages.{has_levels, is_listing}
use Rattle.mesh_types.specs.Crossings.{level_pair, position_of}
use Rattle.mesh_types.proofs.LinkTotals.{is_named}
use Rattle.mesh_types.proofs.Totals.{sum_by-filter}

-- an entry along a side that has a cell's levels at the cell's position lists it
pub entry_lists : (side : ℕ) (cell : Cell) (entry : RimEdge) → entry.side ≡ side → entry.first ≤ position_of side cell.at
    → slice_get entry.pairs (position_of side cell.at - entry.first) ≡ Some (level_pair side cell) → is_listing side cell entry ≡ true
entry_lists side cell entry along begins has =
    let pair : LevelPair = level_pair side cell in
    let found : pair_at entry (position_of side cell.at) ≡ Some pair =
    cond-true (nat_le entry.first (position_of side cell.at)) (slice_get entry.pairs (position_of side cell.at - entry.first)) None (le-leb _ _ begins) ∙ has in
    and_from (entry.side == side) _ (eq-eqb entry.side side along)
    (ap (has_levels pair) found ∙ and_from (pair.own == pair.own) (pair.other == pair.other) (eq-eqb pair.own pair.own refl) (eq-eqb pair.other pair.other refl))

-- an entry that lists a cell has its level at its position
listed_named : (side : ℕ) (cell : Cell) (entry : RimEdge)
    → cond (is_listing side cell entry) 1 0 ≤ cond (entry.side == side) (cond (is_named entry (position_of side cell.at) cell.at.level) 1 0) 0
listed_named side cell entry = by_side (entry.side == side)
  where
    by_level : (a b : Bool) (m n : ℕ) → (m == n) ≡ a → cond (a && b) 1 0 ≤ cond (n == m) 1 0
    by_level true b m n is =
        let same : (n == m) ≡ true = eq-eqb n m (sym (eqb-true m n is)) in
        let one : ℕ = cond (n == m) 1 0 in
        let is_one : one ≡ 1 = ap (λ c. cond c 1 0) same in
        by_other b one is_one
      where
        by_other : (b : Bool) (one : ℕ) → one ≡ 1 → cond b 1 0 ≤ one
        by_other true one is_one = omega (arith, is_one)
        by_other false one is_one = omega arith
    by_level false b m n is = omega arith

    by_pair : (found : Option LevelPair)
        → cond (has_levels (level_pair side cell) found) 1 0 ≤ cond (option_map_or (λ (pair : LevelPair). cell.at.level == pair.own) found false) 1 0
    by_pair None = omega arith
    by_pair (Some pair) = by_level (pair.own == cell.at.level) _ pair.own cell.at.level refl

    by_side : (b : Bool)
        → cond (b && has_levels (level_pair side cell) (pair_at entry (position_of side cell.at))) 1 0
        ≤ cond b (cond (is_named entry (position_of side cell.at) cell.at.level) 1 0) 0
    by_side true = by_pair (pair_at entry (position_of side cell.at))
    by_side false = omega arith

-- where the rim has each position and level of a side once at most, a cell that is listed is listed once
pub listed_once : (rim : List RimEdge) (side : ℕ) (cell : Cell)
    → sum_by (λ (entry : RimEdge). cond (is_named entry (position_of side cell.at) cell.at.level) 1 0) (along_side side rim) ≤ 1
    → (entry : RimEdge) → Contains rim entry → is_listing side cell entry ≡ true → count_by (is_listing side cell) rim ≡ 1
listed_once rim side cell once entry held lists =
    let g : RimEdge → ℕ = λ (entry : RimEdge). cond (is_listing side cell entry) 1 0 in
    let named : RimEdge → ℕ = λ (entry : RimEdge). cond (is_named entry (position_of side cell.at) cell.at.level) 1 0 in
    let one : g (get_or rim held.0 entry) ≡ 1 = ap g held.2 ∙ ap (λ b. cond b 1 0) lists in
    omega (
      arith,
      once,
      one,
      get_or-le-sum_by g rim held.0 entry held.1,
      sum_by-le-sum_by g (λ (entry : RimEdge). cond (entry.side == side) (named entry) 0) rim (λ entry. listed_named side cell entry),
      sum_by-filter named (λ (entry : RimEdge). entry.side == side) rim,
    )
