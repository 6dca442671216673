-- Facing: an edge of a polygon, by which the polygon is told to be too far from a point.
use Rattle.std.specs.Prelude.{ℕ, ◌+◌, ◌*◌, ◌-◌, ◌≤◌, ◌<◌, pos, ◌-ℤ◌, ◌≤ℤ◌, unsigned_abs}
use Rattle.nav_base.specs.declared.point.Point.{Point}
use Rattle.nav_base.specs.Deviation.{square_of}
use Rattle.nav_base.specs.Point.{HasCoordinates, from_to, orient_of}
use Rattle.mesh_types.specs.declared.polygon.Polygon.{Polygon}
use Rattle.mesh_types.specs.Located.{Holds}
use Rattle.wall_slide.specs.declared.facing.FacingEdge.{FacingEdge}
use Rattle.wall_slide.specs.declared.facing.FootRow.{FootRow}

-- all that a polygon holds lies to the left of an edge or on its line
pub record IsFacing (polygon : Polygon) (facing : FacingEdge) : Type 0 where
  pub begin : HasCoordinates facing.begin
  pub end : HasCoordinates facing.end
  pub left : (q : Point) → Holds polygon q → pos 0 ≤ℤ orient_of facing.begin facing.end q

-- the point of a row that is beside a point
abbrev pub beside : Point → ℕ → Point
beside p z = record { x = p.x; z = pos z }

-- how many rows lie between a point and its foot, rounded down, where the turn goes so far to the right at an edge with this width and square of
-- its length
pub record IsFootRise (right width length rise : ℕ) : Type 0 where
  pub some : 0 < length
  pub under : length * rise ≤ right * width
  pub over : right * width < length * (rise + 1)
  pub few : rise ≤ 131072

-- how many rows a point lies from a row, less one
abbrev pub rows_between : Point → FootRow → ℕ
rows_between q foot = unsigned_abs (q.z -ℤ foot.row) - 1

-- the points to the left of an edge, or on its line, are no nearer to a point than its line is, and their rows are from the row of its foot
abbrev pub IsFootRow : FacingEdge → Point → FootRow → Type 0
IsFootRow facing p foot =
    (q : Point) → pos 0 ≤ℤ orient_of facing.begin facing.end q → foot.away + rows_between q foot * rows_between q foot ≤ square_of (from_to p q)
