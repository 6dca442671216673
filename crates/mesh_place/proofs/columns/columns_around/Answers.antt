use Rattle.std.proofs.Common.{rules, ◌≡◌, ◌-◌, ◌/◌, ℕ, pos, ◌-ℤ◌, ◌+ℤ◌, arith, ap}
use Rattle.std.specs.Prelude.{unsigned_abs}
use Rattle.std.specs.Int.{int_max}
use Rattle.std.proofs.lemmas.Grind.{common_steps}
use Rattle.mesh_place.proofs.columns.columns_around.Goals as goal

pub returns : goal.returns
returns c =
    let low : c.unsigned_abs-low.result ≡ unsigned_abs (int_max (c.args.p.x -ℤ pos c.args.reach) (pos 0)) = first_of (search rules, grind (arith, common_steps)) in
    let high : c.unsigned_abs-high.result ≡ unsigned_abs (int_max (c.args.p.x +ℤ pos c.args.reach) (pos 0)) = first_of (search rules, grind (arith, common_steps)) in
    let first : c.saturating_sub.result / 16 ≡ (unsigned_abs (int_max (c.args.p.x -ℤ pos c.args.reach) (pos 0)) - 1) / 16 = omega (arith, low, c.saturating_sub.ensures) in
    let last : c.unsigned_abs-high.result / 16 ≡ unsigned_abs (int_max (c.args.p.x +ℤ pos c.args.reach) (pos 0)) / 16 = ap (λ (n : ℕ). n / 16) high in
    λ i. record { first = first i; last = last i }
