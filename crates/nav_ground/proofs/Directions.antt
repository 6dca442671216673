-- The four directions, there and back.
use Rattle.std.proofs.Common.{◌≡◌, ℕ, ◌+◌, ◌<◌, true, arith, zero, suc, sym}
use Rattle.std.specs.Prelude.{◌&&◌, ◌==◌}
use Rattle.std.proofs.lemmas.Bool.{and_parts, and_from, eqb-true, eq-eqb}
use Rattle.nav_ground.specs.declared.cell.CellRef.{CellRef}
use Rattle.nav_ground.specs.Cells.{is_toward, opposite}

-- two tests that hold, as equations
pub both_equal : (a b c d : ℕ) → (a == b && c == d) ≡ true → (a ≡ b) × (c ≡ d)
both_equal a b c d h = let parts = and_parts (a == b) (c == d) h in (eqb-true a b parts.0, eqb-true c d parts.1)

pub tests_of_equal : (a b c d : ℕ) → a ≡ b → c ≡ d → (a == b && c == d) ≡ true
tests_of_equal a b c d e f = and_from (a == b) (c == d) (eq-eqb a b e) (eq-eqb c d f)

-- a column's neighbour in a direction has the column as its neighbour in the opposite direction
pub toward_back : (dir : ℕ) (a b : CellRef) → dir < 4 → is_toward dir a b ≡ true → is_toward (opposite dir) b a ≡ true
toward_back zero a b small h =
    let e = both_equal (b.x + 1) a.x b.z a.z h in tests_of_equal a.x (b.x + 1) a.z b.z (sym e.0) (sym e.1)
toward_back (suc zero) a b small h =
    let e = both_equal b.x a.x b.z (a.z + 1) h in tests_of_equal a.x b.x (a.z + 1) b.z (sym e.0) (sym e.1)
toward_back (suc (suc zero)) a b small h =
    let e = both_equal b.x (a.x + 1) b.z a.z h in tests_of_equal (a.x + 1) b.x a.z b.z (sym e.0) (sym e.1)
toward_back (suc (suc (suc zero))) a b small h =
    let e = both_equal b.x a.x (b.z + 1) a.z h in tests_of_equal a.x b.x a.z (b.z + 1) (sym e.0) (sym e.1)
toward_back (suc (suc (suc (suc n)))) a b small h = absurd (omega arith)
