-- Which triangles somebody can walk on.
use Rattle.std.specs.Prelude.{◌≡◌, ◌≢◌, ℕ, ◌+◌, ◌*◌, ◌≤◌, false, ℤ, pos, ◌-ℤ◌, ◌*ℤ◌, ◌<ℤ◌}
use Rattle.std.specs.Int.RustNames.{unsigned_abs}
use Rattle.mesh_input.specs.declared.slope.Slope.{Slope}
use Rattle.mesh_input.specs.declared.slope.Edge.{Edge}

-- a product with itself
abbrev pub square : ℕ → ℕ
square n = n * n

-- The shadows of a triangle on the planes of the axes, twice their areas, by its edges from the first corner to the second and to the third.
-- The one on the ground is above 0 where the upper side is up.
abbrev pub shadow_x : Edge → Edge → ℤ
shadow_x p q = (p.y *ℤ q.z) -ℤ (p.z *ℤ q.y)

abbrev pub shadow_y : Edge → Edge → ℤ
shadow_y p q = (p.z *ℤ q.x) -ℤ (p.x *ℤ q.z)

abbrev pub shadow_z : Edge → Edge → ℤ
shadow_z p q = (p.x *ℤ q.y) -ℤ (p.y *ℤ q.x)

-- a triangle has this shadow on the ground, which is some, and the upper side is up where both sides do not count
pub record IsUpper (slope : Slope) (up : ℤ) : Type 0 where
  pub some : up ≢ pos 0
  pub side : slope.both_sides ≡ false → pos 0 <ℤ up

-- a triangle with shadows of these sizes rises at most `rise` units over `run` sixteenths
pub record IsFlatEnough (slope : Slope) (x y z : ℕ) : Type 0 where
  pub flat : square slope.run * (square x + square z) ≤ square slope.rise * square y

-- somebody can walk on a triangle with these edges from its first corner: it has a shadow on the ground, its upper side is up where both sides
-- do not count, and it is no steeper than the slope
pub record IsGentle (slope : Slope) (p q : Edge) : Type 0 where
  pub upper : IsUpper slope (shadow_y p q)
  pub flat_enough : IsFlatEnough slope (unsigned_abs (shadow_x p q)) (unsigned_abs (shadow_y p q)) (unsigned_abs (shadow_z p q))
