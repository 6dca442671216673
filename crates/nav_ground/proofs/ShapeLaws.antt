-- Laws of shapes: what they cover lies within their reach, and their reach is their bounds.
use Rattle.std.proofs.Common.{◌≡◌, ℕ, ◌+◌, ◌*◌, ◌/◌, ◌≤◌, ◌↔◌, true, inl, inr, arith}
use Rattle.std.specs.Prelude.{pos, ◌+ℤ◌, ◌-ℤ◌, ◌≤ℤ◌}
use Rattle.std.specs.Int.{div_ceil}
use Rattle.std.proofs.lemmas.Bool.{cases_lt, and_parts, and_from}
use Rattle.std.proofs.lemmas.Bool.Decides.{nat_tests}
use Rattle.std.proofs.lemmas.Int.{ints}
use Rattle.std.proofs.lemmas.Nat.{mul-lt}
use Rattle.nav_ground.specs.declared.shape.Shape.{Shape}
use Rattle.nav_ground.specs.declared.shape.Shape.TheVariants.{Block, Cylinder, AreaBlock, AreaCylinder, Prism, Disc}
use Rattle.nav_ground.specs.Tiling.{IsInWindow}
use Rattle.nav_ground.specs.Shapes.{IsIn, IsInDisc, Covers, is_covering, apart, block_window, disc_window, bounds_of, IsWithinReach, is_in}
use Rattle.nav_ground.specs.Prisms.{corners_of, is_under_base}
use Rattle.nav_ground.specs.Discs.{is_under_disc}
use Rattle.nav_ground.proofs.BoxLaws.{box_reach, corners_reach}
use Rattle.nav_ground.proofs.PrismLaws.{under_base_tells, under_base_in_box}
use Rattle.nav_ground.proofs.DiscLaws.{under_disc_tells, under_disc_reached}

-- a side of a right triangle is not longer than the longest one
side_within : (a b reach : ℕ) → a * a + b * b ≤ reach * reach → a ≤ reach
side_within a b reach near = elim (cases_lt reach a) [ inl far ↦ absurd (omega (arith, mul-lt reach reach a a far far)) | inr within ↦ within ]

other_side_within : (a b reach : ℕ) → a * a + b * b ≤ reach * reach → b ≤ reach
other_side_within a b reach near = elim (cases_lt reach b) [ inl far ↦ absurd (omega (arith, mul-lt reach reach b b far far)) | inr within ↦ within ]

disc_within_reach : (cx cz r x z : ℕ) → IsInDisc cx cz r x z → (apart cx x ≤ 2 * r + 1) × (apart cz z ≤ 2 * r + 1)
disc_within_reach cx cz r x z near =
    (side_within (apart cx x) (apart cz z) (2 * r + 1) near, other_side_within (apart cx x) (apart cz z) (2 * r + 1) near)

-- a column that a shape covers is within its reach
pub covered_within_reach : (shape : Shape) (x z floor : ℕ) → Covers shape x z floor → IsWithinReach shape x z
covered_within_reach (Block x0 x1 y0 y1 z0 z1) x z floor (along, across, high) = (along, across)
covered_within_reach (Cylinder cx cz r y0 y1) x z floor (near, high) = disc_within_reach cx cz r x z near
covered_within_reach (AreaBlock area x0 x1 y0 y1 z0 z1) x z floor (along, across, high) = (along, across)
covered_within_reach (AreaCylinder area cx cz r y0 y1) x z floor (near, high) = disc_within_reach cx cz r x z near
covered_within_reach (Prism base area y0 y1) x z floor (under, high) = under_base_in_box area (corners_of base) x z under
covered_within_reach (Disc cx cz r area y0 y1) x z floor (under, high) = under_disc_reached area cx cz r x z under

-- the columns within a distance of a centre in half cells, along one axis
first_within : (c r x : ℕ) → (pos (div_ceil c 2) -ℤ pos (r + 1)) ≤ℤ pos x → c ≤ 2 * x + 1 + (2 * r + 1)
first_within c r x h = omega (arith, ints)

first_within' : (c r x : ℕ) → c ≤ 2 * x + 1 + (2 * r + 1) → (pos (div_ceil c 2) -ℤ pos (r + 1)) ≤ℤ pos x
first_within' c r x h = omega (arith, ints)

last_within : (c r x : ℕ) → pos x ≤ℤ pos (c / 2 + r) → 2 * x + 1 ≤ c + (2 * r + 1)
last_within c r x h = omega (arith, ints)

last_within' : (c r x : ℕ) → 2 * x + 1 ≤ c + (2 * r + 1) → pos x ≤ℤ pos (c / 2 + r)
last_within' c r x h = omega (arith, ints)

reach_from : (c r x : ℕ) → c ≤ 2 * x + 1 + (2 * r + 1) → 2 * x + 1 ≤ c + (2 * r + 1) → apart c x ≤ 2 * r + 1
reach_from c r x first last = omega arith

disc_reach : (cx cz r x z : ℕ) → IsInWindow (disc_window cx cz r) x z ↔ ((apart cx x ≤ 2 * r + 1) × (apart cz z ≤ 2 * r + 1))
disc_reach cx cz r x z = (
  λ (h : IsInWindow (disc_window cx cz r) x z). (
    reach_from cx r x (first_within cx r x h.x_least) (last_within cx r x h.x_most),
    reach_from cz r z (first_within cz r z h.z_least) (last_within cz r z h.z_most),
  ),
  λ (along, across). record {
    x_least = first_within' cx r x (omega (arith, along));
    x_most = last_within' cx r x (omega (arith, along));
    z_least = first_within' cz r z (omega (arith, across));
    z_most = last_within' cz r z (omega (arith, across));
  },
)

-- the order of numbers, among signed ones
pos_le : (a b : ℕ) → pos a ≤ℤ pos b → a ≤ b
pos_le a b h = omega (arith, ints)

le_pos : (a b : ℕ) → a ≤ b → pos a ≤ℤ pos b
le_pos a b h = omega (arith, ints)

block_reach : (x0 x1 z0 z1 x z : ℕ) → IsInWindow (block_window x0 x1 z0 z1) x z ↔ (IsIn x0 x1 x × IsIn z0 z1 z)
block_reach x0 x1 z0 z1 x z = (
  λ (h : IsInWindow (block_window x0 x1 z0 z1) x z).
      ((pos_le x0 x h.x_least, pos_le x x1 h.x_most), (pos_le z0 z h.z_least, pos_le z z1 h.z_most)),
  λ (along, across). record {
    x_least = le_pos x0 x along.0;
    x_most = le_pos x x1 along.1;
    z_least = le_pos z0 z across.0;
    z_most = le_pos z z1 across.1;
  },
)

-- the bounds of a shape are the columns within its reach
pub bounds_are_reach : (shape : Shape) (x z : ℕ) → IsInWindow (bounds_of shape) x z ↔ IsWithinReach shape x z
bounds_are_reach (Block x0 x1 y0 y1 z0 z1) x z = block_reach x0 x1 z0 z1 x z
bounds_are_reach (Cylinder cx cz r y0 y1) x z = disc_reach cx cz r x z
bounds_are_reach (AreaBlock area x0 x1 y0 y1 z0 z1) x z = block_reach x0 x1 z0 z1 x z
bounds_are_reach (AreaCylinder area cx cz r y0 y1) x z = disc_reach cx cz r x z
bounds_are_reach (Prism base area y0 y1) x z = corners_reach (corners_of base) x z
bounds_are_reach (Disc cx cz r area y0 y1) x z = box_reach (cx -ℤ pos r) (cx +ℤ pos r) (cz -ℤ pos r) (cz +ℤ pos r) x z

-- a column that a shape covers lies in its bounds
pub covered_in_bounds : (shape : Shape) (x z floor : ℕ) → Covers shape x z floor → IsInWindow (bounds_of shape) x z
covered_in_bounds shape x z floor covered = (bounds_are_reach shape x z).1 (covered_within_reach shape x z floor covered)

is_in_tells : (low high n : ℕ) → (is_in low high n ≡ true) ↔ IsIn low high n
is_in_tells low high n = grind (arith, nat_tests)

-- the test of what a shape covers tells what it covers
pub is_covering-Covers : (shape : Shape) (x z floor : ℕ) → (is_covering shape x z floor ≡ true) ↔ Covers shape x z floor
is_covering-Covers (Block x0 x1 y0 y1 z0 z1) x z floor = grind (arith, nat_tests)
is_covering-Covers (Cylinder cx cz r y0 y1) x z floor = grind (arith, nat_tests)
is_covering-Covers (AreaBlock area x0 x1 y0 y1 z0 z1) x z floor = grind (arith, nat_tests)
is_covering-Covers (AreaCylinder area cx cz r y0 y1) x z floor = grind (arith, nat_tests)
is_covering-Covers (Prism base area y0 y1) x z floor =
    let under = under_base_tells area (corners_of base) x z in
    let high = is_in_tells y0 y1 floor in (
      λ h. let parts = and_parts (is_under_base area (corners_of base) x z) _ h in (under.0 parts.0, high.0 parts.1),
      λ h. and_from _ _ (under.1 h.0) (high.1 h.1),
    )
is_covering-Covers (Disc cx cz r area y0 y1) x z floor =
    let under = under_disc_tells area cx cz r x z in
    let high = is_in_tells y0 y1 floor in (
      λ h. let parts = and_parts (is_under_disc area cx cz r x z) _ h in (under.0 parts.0, high.0 parts.1),
      λ h. and_from _ _ (under.1 h.0) (high.1 h.1),
    )
