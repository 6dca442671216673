-- Obstacles: the cells that they cover, their bounds, and the areas that they set.
use Rattle.std.specs.Prelude.{ℕ, zero, suc, ◌+◌, ◌*◌, ◌/◌, ◌≤◌, Bool, nat_le, ◌&&◌, Option, Some, None, pos, ◌+ℤ◌, ◌-ℤ◌, ℤ, List}
use Rattle.std.specs.Int.{abs_diff, div_ceil}
use Rattle.nav_base.specs.declared.point.Point.{Point}
use Rattle.nav_ground.specs.declared.cell.Window.{Window}
use Rattle.nav_ground.specs.declared.shape.Shape.{Shape}
use Rattle.nav_ground.specs.declared.shape.Shape.TheVariants.{Block, Cylinder, AreaBlock, AreaCylinder, Prism, Disc}
use Rattle.nav_ground.specs.Prisms.{corners_of, least_along, greatest_along, first_column, last_column, IsReached, IsInBox, IsUnderBase, is_under_base}
use Rattle.nav_ground.specs.Discs.{IsUnderDisc, is_under_disc}

-- a number lies in a closed range
abbrev pub IsIn : ℕ → ℕ → ℕ → Type 0
IsIn low high n = (low ≤ n) × (n ≤ high)

-- how far the middle of a column is from a centre along one axis, in half cells
abbrev pub apart : ℕ → ℕ → ℕ
apart centre column = abs_diff (2 * column + 1) centre

-- the middle of a column lies in a disc: the squared distance is at most the squared radius, in half cells
abbrev pub IsInDisc : ℕ → ℕ → ℕ → ℕ → ℕ → Type 0
IsInDisc cx cz r x z = apart cx x * apart cx x + apart cz z * apart cz z ≤ (2 * r + 1) * (2 * r + 1)

-- a block covers the cells of its columns whose floor lies between its heights, a cylinder those of its disc; area shapes
-- likewise. A prism and a disc cover the cells of the columns under them between their heights
abbrev pub Covers : Shape → ℕ → ℕ → ℕ → Type 0
Covers (Block x0 x1 y0 y1 z0 z1) x z floor = IsIn x0 x1 x × IsIn z0 z1 z × IsIn y0 y1 floor
Covers (Cylinder cx cz r y0 y1) x z floor = IsInDisc cx cz r x z × IsIn y0 y1 floor
Covers (AreaBlock area x0 x1 y0 y1 z0 z1) x z floor = IsIn x0 x1 x × IsIn z0 z1 z × IsIn y0 y1 floor
Covers (AreaCylinder area cx cz r y0 y1) x z floor = IsInDisc cx cz r x z × IsIn y0 y1 floor
Covers (Prism base area y0 y1) x z floor = IsUnderBase area (corners_of base) x z × IsIn y0 y1 floor
Covers (Disc cx cz r area y0 y1) x z floor = IsUnderDisc area cx cz r x z × IsIn y0 y1 floor

-- the same as tests, for lists of cells
abbrev pub is_in : ℕ → ℕ → ℕ → Bool
is_in low high n = nat_le low n && nat_le n high

-- the middle of a column is at most r cells and a half away from a centre
abbrev pub is_in_disc : ℕ → ℕ → ℕ → ℕ → ℕ → Bool
is_in_disc cx cz r x z = nat_le (apart cx x * apart cx x + apart cz z * apart cz z) ((2 * r + 1) * (2 * r + 1))

-- a shape covers the place of a cell at a floor
abbrev pub is_covering : Shape → ℕ → ℕ → ℕ → Bool
is_covering (Block x0 x1 y0 y1 z0 z1) x z floor = is_in x0 x1 x && is_in z0 z1 z && is_in y0 y1 floor
is_covering (Cylinder cx cz r y0 y1) x z floor = is_in_disc cx cz r x z && is_in y0 y1 floor
is_covering (AreaBlock area x0 x1 y0 y1 z0 z1) x z floor = is_in x0 x1 x && is_in z0 z1 z && is_in y0 y1 floor
is_covering (AreaCylinder area cx cz r y0 y1) x z floor = is_in_disc cx cz r x z && is_in y0 y1 floor
is_covering (Prism base area y0 y1) x z floor = is_under_base area (corners_of base) x z && is_in y0 y1 floor
is_covering (Disc cx cz r area y0 y1) x z floor = is_under_disc area cx cz r x z && is_in y0 y1 floor

-- the bounds of a block are its ranges
abbrev pub block_window : ℕ → ℕ → ℕ → ℕ → Window
block_window x0 x1 z0 z1 = record { x0 = pos x0; x1 = pos x1; z0 = pos z0; z1 = pos z1 }

-- the bounds of a cylinder are the columns whose middle is at most r cells and a half away along that axis
abbrev pub disc_window : ℕ → ℕ → ℕ → Window
disc_window cx cz r = record {
  x0 = pos (div_ceil cx 2) -ℤ pos (r + 1);
  x1 = pos (cx / 2 + r);
  z0 = pos (div_ceil cz 2) -ℤ pos (r + 1);
  z1 = pos (cz / 2 + r);
}

-- the columns with a part in a box of sixteenths, which the box of a prism's corners and the square round a disc are
abbrev pub box_window : ℤ → ℤ → ℤ → ℤ → Window
box_window x0 x1 z0 z1 = record { x0 = first_column x0; x1 = last_column x1; z0 = first_column z0; z1 = last_column z1 }

abbrev pub prism_window : List Point → Window
prism_window corners =
    box_window (least_along (λ (p : Point). p.x) corners) (greatest_along (λ (p : Point). p.x) corners)
    (least_along (λ (p : Point). p.z) corners) (greatest_along (λ (p : Point). p.z) corners)

abbrev pub square_window : ℤ → ℤ → ℕ → Window
square_window cx cz r = box_window (cx -ℤ pos r) (cx +ℤ pos r) (cz -ℤ pos r) (cz +ℤ pos r)

-- a rectangle that holds every column which the shape covers
abbrev pub bounds_of : Shape → Window
bounds_of (Block x0 x1 y0 y1 z0 z1) = block_window x0 x1 z0 z1
bounds_of (Cylinder cx cz r y0 y1) = disc_window cx cz r
bounds_of (AreaBlock area x0 x1 y0 y1 z0 z1) = block_window x0 x1 z0 z1
bounds_of (AreaCylinder area cx cz r y0 y1) = disc_window cx cz r
bounds_of (Prism base area y0 y1) = prism_window (corners_of base)
bounds_of (Disc cx cz r area y0 y1) = square_window cx cz r

-- the columns within reach of a shape, axis by axis, which its bounds are
abbrev pub IsWithinReach : Shape → ℕ → ℕ → Type 0
IsWithinReach (Block x0 x1 y0 y1 z0 z1) x z = IsIn x0 x1 x × IsIn z0 z1 z
IsWithinReach (Cylinder cx cz r y0 y1) x z = (apart cx x ≤ 2 * r + 1) × (apart cz z ≤ 2 * r + 1)
IsWithinReach (AreaBlock area x0 x1 y0 y1 z0 z1) x z = IsIn x0 x1 x × IsIn z0 z1 z
IsWithinReach (AreaCylinder area cx cz r y0 y1) x z = (apart cx x ≤ 2 * r + 1) × (apart cz z ≤ 2 * r + 1)
IsWithinReach (Prism base area y0 y1) x z = IsInBox (corners_of base) x z
IsWithinReach (Disc cx cz r area y0 y1) x z = IsReached (cx -ℤ pos r) (cx +ℤ pos r) x × IsReached (cz -ℤ pos r) (cz +ℤ pos r) z

-- the area that a prism or a disc sets; with the area 0 it stops agents
abbrev pub painted : ℕ → Option ℕ
painted zero = None
painted (suc area) = Some (suc area)

-- the area that an area shape sets; none for a shape that stops agents
abbrev pub area_set_by : Shape → Option ℕ
area_set_by (Block x0 x1 y0 y1 z0 z1) = None
area_set_by (Cylinder cx cz r y0 y1) = None
area_set_by (AreaBlock area x0 x1 y0 y1 z0 z1) = Some area
area_set_by (AreaCylinder area cx cz r y0 y1) = Some area
area_set_by (Prism base area y0 y1) = painted area
area_set_by (Disc cx cz r area y0 y1) = painted area
