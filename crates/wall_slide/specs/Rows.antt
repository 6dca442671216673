-- Rows: parts of a row along x.
use Rattle.std.specs.Prelude.{ℕ, ◌≤◌, Option, Some, None}
use Rattle.nav_base.specs.declared.point.Point.{Point}
use Rattle.nav_base.specs.Deviation.{square_of}
use Rattle.nav_base.specs.Point.{from_to}
use Rattle.mesh_place.specs.declared.lines.LineSpan.{LineSpan}
use Rattle.mesh_place.specs.Lines.{IsInSpan, IsPartWhere, IsSpan}
use Rattle.wall_slide.specs.declared.discs.Motion.{Motion}
use Rattle.wall_slide.specs.declared.rows.RowPart.{RowPart}

-- a part of a row, as a span of places
abbrev pub span_of : RowPart → LineSpan
span_of part = record { first = part.first; last = part.last }

-- it has a place, and lies in the largest field
abbrev pub IsRow : RowPart → Type 0
IsRow part = IsSpan (span_of part)

-- a place of a part
abbrev pub IsInRow : RowPart → ℕ → Type 0
IsInRow part x = IsInSpan (span_of part) x

-- the part of a row whose places have a property, if any has it
abbrev pub IsRowPart : (ℕ → Type 0) → RowPart → Option RowPart → Type 0
IsRowPart P row None = IsPartWhere P (span_of row) None
IsRowPart P row (Some part) = IsPartWhere P (span_of row) (Some (span_of part))

-- a whole row of the largest field
abbrev pub whole_row : RowPart
whole_row = record { first = 0; last = 16384 }

-- a point is no farther from the start of a motion than its target is
abbrev pub IsWithin : Motion → Point → Type 0
IsWithin motion p = square_of (from_to motion.from p) ≤ square_of (from_to motion.from motion.to)
