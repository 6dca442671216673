-- The status of calls about crowds, beside those of nav_handle, as a number that a host writes in its own source: include/navd.h has the same.
use Rattle.std.specs.Prelude.{ℕ}

-- an agent overlaps another one
abbrev pub overlaps : ℕ
overlaps = 27
