-- The version of the library, as one number: major * 10000 + minor * 100 + patch. include/navd.h has the same.
use Rattle.std.specs.Prelude.{ℕ}

abbrev pub library_version : ℕ
library_version = 100
