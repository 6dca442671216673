-- Rows: the rows that corners lie in.
use Rattle.std.specs.Prelude.{Bool, ◌&&◌, int_le}
use Rattle.nav_base.specs.declared.point.Point.{Point}
use Rattle.poly_merge.specs.declared.edge.CornerRows.{CornerRows}

-- the point lies neither below the rows nor above them
abbrev pub lies_in : CornerRows → Point → Bool
lies_in rows p = int_le rows.low p.z && int_le p.z rows.high
