-- The status of the call for a line, beside those of nav_handle, as a number that a host writes in its own source: include/navd.h has the same.
use Rattle.std.specs.Prelude.{ℕ}

-- a line was found, which may be longer than the shortest
abbrev pub about : ℕ
about = 26
