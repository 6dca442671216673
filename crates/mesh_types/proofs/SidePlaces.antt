-- Cells beside a side of a tile: at each position and level there is one at most.
use Rattle.std.proofs.Common.{◌≡◌, ℕ, ◌<◌, ◌≤◌, Bool, true, cond, ℤ, pos, ◌≤ℤ◌, List, get_or, ◌∙◌, sym, arith, zero, suc, inl, inr}
use Rattle.std.specs.Prelude.{All, int_le, ◌==◌, ◌&&◌}
use Rattle.std.specs.List.{sum_by}
use Rattle.std.proofs.lemmas.Bool.{and_parts, eqb-true}
use Rattle.std.proofs.lemmas.Int.{ints}
use Rattle.nav_ground.specs.declared.cell.Cell.{Cell}
use Rattle.nav_ground.specs.declared.cell.CellRef.{CellRef}
use Rattle.nav_ground.specs.declared.cell.Window.{Window}
use Rattle.nav_ground.specs.Cells.{IsCellBefore, IsCut}
use Rattle.nav_ground.specs.Tiling.{IsInWindow}
use Rattle.mesh_types.specs.Crossings.{is_at_side, position_of}
use Rattle.mesh_types.proofs.Totals.{once}

pub at_most : (a b : ℤ) → int_le a b ≡ true → a ≤ℤ b
at_most a b h = grind (arith, ints)

pub squeezed : (w : ℤ) (a b : ℕ) → w ≤ℤ pos a → pos b ≤ℤ w → b ≤ a
squeezed w a b low high = omega (arith, ints)

-- a cell lies beside a side, at a position and a level
abbrev pub is_placed : Window → ℕ → ℕ → ℕ → Cell → Bool
is_placed window side position level cell = is_at_side window side cell.at && (position_of side cell.at == position && cell.at.level == level)

-- cells beside a side of one tile that have one position and level are one
not_before : (a b : CellRef) → a.x ≡ b.x → a.z ≡ b.z → a.level ≡ b.level → IsCellBefore a b → ⊥
not_before a b x z level (inl below) = omega (arith, below, z)
not_before a b x z level (inr (row, inl left)) = omega (arith, left, x)
not_before a b x z level (inr (row, inr (column, under))) = omega (arith, under, level)

not_both : (side : ℕ) (window : Window) (a b : CellRef) → side < 4 → IsInWindow window a.x a.z → IsInWindow window b.x b.z
    → is_at_side window side a ≡ true → is_at_side window side b ≡ true → position_of side a ≡ position_of side b → a.level ≡ b.level
    → IsCellBefore a b → ⊥
not_both zero window a b small in_a in_b at_a at_b same level before =
    let ab = squeezed window.x0 a.x b.x in_a.x_least (at_most _ _ at_b) in
    let ba = squeezed window.x0 b.x a.x in_b.x_least (at_most _ _ at_a) in
    not_before a b (omega (arith, ab, ba)) same level before
not_both (suc zero) window a b small in_a in_b at_a at_b same level before =
    let ab = squeezed window.z1 a.z b.z (at_most _ _ at_a) in_b.z_most in
    let ba = squeezed window.z1 b.z a.z (at_most _ _ at_b) in_a.z_most in
    not_before a b same (omega (arith, ab, ba)) level before
not_both (suc (suc zero)) window a b small in_a in_b at_a at_b same level before =
    let ab = squeezed window.x1 a.x b.x (at_most _ _ at_a) in_b.x_most in
    let ba = squeezed window.x1 b.x a.x (at_most _ _ at_b) in_a.x_most in
    not_before a b (omega (arith, ab, ba)) same level before
not_both (suc (suc (suc zero))) window a b small in_a in_b at_a at_b same level before =
    let ab = squeezed window.z0 a.z b.z in_a.z_least (at_most _ _ at_b) in
    let ba = squeezed window.z0 b.z a.z in_b.z_least (at_most _ _ at_a) in
    not_before a b same (omega (arith, ab, ba)) level before
not_both (suc (suc (suc (suc side)))) window a b small in_a in_b at_a at_b same level before = absurd (omega (arith, small))

pub placed_once : (window : Window) (cells : List Cell) (side position level : ℕ) → side < 4 → IsCut cells
    → All (λ (cell : Cell). IsInWindow window cell.at.x cell.at.z) cells
    → sum_by (λ (cell : Cell). cond (is_placed window side position level cell) 1 0) cells ≤ 1
placed_once window cells side position level small cut inside =
    once (is_placed window side position level) 1 cells
    (λ i j d less there at_i at_j.
    let a : CellRef = (get_or cells i d).at in
    let b : CellRef = (get_or cells j d).at in
    let first = and_parts (is_at_side window side a) _ at_i in
    let second = and_parts (is_at_side window side b) _ at_j in
    let first' = and_parts (position_of side a == position) _ first.1 in
    let second' = and_parts (position_of side b == position) _ second.1 in
    not_both side window a b small (inside i d (omega (arith, less, there))) (inside j d there) first.0 second.0
    (eqb-true _ position first'.0 ∙ sym (eqb-true _ position second'.0)) (eqb-true _ level first'.1 ∙ sym (eqb-true _ level second'.1))
    (cut.rules.order i j d less there))
