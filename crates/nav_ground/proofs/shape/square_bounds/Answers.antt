use Rattle.std.proofs.Common.{◌≡◌, ℕ, ◌≤◌, ℤ, pos, negsuc, ◌+ℤ◌, ◌-ℤ◌, ◌∙◌, arith, to_z, of_z, w32}
use Rattle.std.specs.Prelude.{◌≤ℤ◌}
use Rattle.std.proofs.lemmas.Int.{ints}
use Rattle.nav_ground.specs.Shapes.{box_window}
use Rattle.nav_ground.proofs.shape.square_bounds.Goals as goal

-- a number of the centre, and the radius, as they are in 32 bits
less : (c : ℤ) (r : ℕ) → negsuc 16383 ≤ℤ c → c ≤ℤ pos 81920 → r ≤ 16384
    → to_z w32 (of_z w32 (to_z w32 (of_z w32 c) -ℤ to_z w32 r)) ≡ c -ℤ pos r
less c r low high small = omega (arith, ints)

more : (c : ℤ) (r : ℕ) → negsuc 16383 ≤ℤ c → c ≤ℤ pos 81920 → r ≤ 16384
    → to_z w32 (of_z w32 (to_z w32 (of_z w32 c) +ℤ to_z w32 r)) ≡ c +ℤ pos r
more c r low high small = omega (arith, ints)

pub returns : goal.returns
returns c =
    let centre = c.requires.centre in
    let small = c.requires.radius in
    c.window.ensures
    ∙ (λ i. box_window (less c.args.x c.args.r centre.left centre.right small i) (more c.args.x c.args.r centre.left centre.right small i)
    (less c.args.z c.args.r centre.bottom centre.top small i) (more c.args.z c.args.r centre.bottom centre.top small i))
