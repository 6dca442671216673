-- What a finite float is made of.
use Rattle.std.specs.Prelude.{ℕ, ◌*◌, ◌^◌}
use Rattle.std.specs.Float.{Float}
use Rattle.std.specs.Float.Ieee.Exact.{HasValue}
use Rattle.world_grid.specs.declared.float_parts.FloatParts.{FloatParts}

-- how large it is, counted in the least float above 0
abbrev pub size_of : FloatParts → ℕ
size_of parts = parts.digits * 2 ^ parts.power

-- the float is these parts
abbrev pub HasParts : Float → FloatParts → Type 0
HasParts x parts = HasValue x parts.negative (size_of parts) (2 ^ 149)
