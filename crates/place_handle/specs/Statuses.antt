-- The status of calls about places, beside those of nav_handle, as a number that a host writes in its own source: include/navd.h has the same.
use Rattle.std.specs.Prelude.{ℕ}

-- no place is in reach, or the place is none of the mesh
abbrev pub no_place : ℕ
no_place = 22
