use Rattle.std.proofs.Common.{◌≡◌, ℕ, ◌≤◌, ℤ, pos, ◌+ℤ◌, ◌-ℤ◌, arith, to_z, of_z, w32}
use Rattle.std.specs.Prelude.{◌≤ℤ◌}
use Rattle.std.proofs.lemmas.Int.{ints}
use Rattle.nav_ground.proofs.touch.widened.Goals as goal

-- a column in or near the largest field, and so many columns, as they are in 32 bits
fewer : (x : ℤ) (margin : ℕ) → pos 0 ≤ℤ (x +ℤ pos 4096) → x ≤ℤ pos 8191 → margin ≤ 15
    → to_z w32 (of_z w32 (to_z w32 (of_z w32 x) -ℤ to_z w32 margin)) ≡ x -ℤ pos margin
fewer x margin low high small = omega (arith, ints)

more : (x : ℤ) (margin : ℕ) → pos 0 ≤ℤ (x +ℤ pos 4096) → x ≤ℤ pos 8191 → margin ≤ 15
    → to_z w32 (of_z w32 (to_z w32 (of_z w32 x) +ℤ to_z w32 margin)) ≡ x +ℤ pos margin
more x margin low high small = omega (arith, ints)

pub returns : goal.returns
returns c = λ i. record {
  x0 = fewer c.args.window.x0 c.args.margin c.requires.x0.0 c.requires.x0.1 c.requires.margin i;
  x1 = more c.args.window.x1 c.args.margin c.requires.x1.0 c.requires.x1.1 c.requires.margin i;
  z0 = fewer c.args.window.z0 c.args.margin c.requires.z0.0 c.requires.z0.1 c.requires.margin i;
  z1 = more c.args.window.z1 c.args.margin c.requires.z1.0 c.requires.z1.1 c.requires.margin i;
}
