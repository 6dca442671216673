-- The neighbouring column in a direction is the one with the number of that direction.
use Rattle.std.proofs.Common.{◌≡◌, ℕ, ◌+◌, ◌<◌, true, arith, zero, suc}
use Rattle.nav_ground.specs.declared.cell.CellRef.{CellRef}
use Rattle.nav_ground.specs.Cells.{is_toward}
use Rattle.nav_ground.proofs.Directions.{both_equal, tests_of_equal}
use Rattle.compact_layer.specs.Columns.{IsPlace, column_of, column_toward}

pub number_toward : (dir : ℕ) (from to : CellRef) → dir < 4 → is_toward dir from to ≡ true → column_of to ≡ column_toward dir from
number_toward zero from to small h = let e = both_equal (to.x + 1) from.x to.z from.z h in omega (arith, e.0, e.1)
number_toward (suc zero) from to small h = let e = both_equal to.x from.x to.z (from.z + 1) h in omega (arith, e.0, e.1)
number_toward (suc (suc zero)) from to small h = let e = both_equal to.x (from.x + 1) to.z from.z h in omega (arith, e.0, e.1)
number_toward (suc (suc (suc zero))) from to small h = let e = both_equal to.x from.x (to.z + 1) from.z h in omega (arith, e.0, e.1)
number_toward (suc (suc (suc (suc n)))) from to small h = absurd (omega arith)

pub toward_of_number : (dir : ℕ) (from to : CellRef) → dir < 4 → IsPlace from → IsPlace to → column_of to ≡ column_toward dir from → is_toward dir from to ≡ true
toward_of_number zero from to small f t e =
    tests_of_equal (to.x + 1) from.x to.z from.z (omega (arith, e, f.x, t.x)) (omega (arith, e, f.x, t.x))
toward_of_number (suc zero) from to small f t e =
    tests_of_equal to.x from.x to.z (from.z + 1) (omega (arith, e, f.x, t.x)) (omega (arith, e, f.x, t.x))
toward_of_number (suc (suc zero)) from to small f t e =
    tests_of_equal to.x (from.x + 1) to.z from.z (omega (arith, e, f.x, t.x)) (omega (arith, e, f.x, t.x))
toward_of_number (suc (suc (suc zero))) from to small f t e =
    tests_of_equal to.x from.x (to.z + 1) from.z (omega (arith, e, f.x, t.x)) (omega (arith, e, f.x, t.x))
toward_of_number (suc (suc (suc (suc n)))) from to small f t e = absurd (omega arith)
