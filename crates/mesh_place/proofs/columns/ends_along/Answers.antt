use Rattle.std.proofs.Common.{rules, ◌≡◌, pos, ◌-ℤ◌, ◌+ℤ◌, arith}
use Rattle.std.specs.Prelude.{unsigned_abs}
use Rattle.std.specs.Int.{int_max}
use Rattle.std.proofs.lemmas.Grind.{common_steps}
use Rattle.mesh_place.proofs.columns.ends_along.Goals as goal

pub returns-clause-value : goal.returns-clause-value
returns-clause-value c =
    let low : c.unsigned_abs.result ≡ unsigned_abs (int_max (c.args.p.z -ℤ pos c.args.reach) (pos 0)) = first_of (search rules, grind (arith, common_steps)) in
    let high : c.unsigned_abs-2.result ≡ unsigned_abs (int_max (c.args.p.z +ℤ pos c.args.reach) (pos 0)) = first_of (search rules, grind (arith, common_steps)) in
    λ i. record { low = low i; high = high i }
