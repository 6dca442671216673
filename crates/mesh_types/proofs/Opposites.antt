-- The opposite of a direction.
use Rattle.std.proofs.Common.{◌≡◌, ℕ, zero, suc, ◌<◌, refl, arith}
use Rattle.nav_ground.specs.Cells.{opposite}

pub opposite_twice : (side : ℕ) → side < 4 → opposite (opposite side) ≡ side
opposite_twice zero small = refl
opposite_twice (suc zero) small = refl
opposite_twice (suc (suc zero)) small = refl
opposite_twice (suc (suc (suc zero))) small = refl
opposite_twice (suc (suc (suc (suc side)))) small = absurd (omega (arith, small))

pub opposite_small : (side : ℕ) → side < 4 → opposite side < 4
opposite_small zero small = omega arith
opposite_small (suc zero) small = omega arith
opposite_small (suc (suc zero)) small = omega arith
opposite_small (suc (suc (suc zero))) small = omega arith
opposite_small (suc (suc (suc (suc side)))) small = absurd (omega (arith, small))
