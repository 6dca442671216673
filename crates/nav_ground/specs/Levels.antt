-- Levels as plain numbers: 65535 stands for none.
use Rattle.std.specs.Prelude.{ℕ, ◌<◌, ◌==◌, if◌then◌else◌, Option, Some, None, IfSome}

abbrev pub level_of : ℕ → Option ℕ
level_of number = if number == 65535 then None else Some number

abbrev pub number_of : Option ℕ → ℕ
number_of None = 65535
number_of (Some level) = level

-- a level, or none, that a number stands for
abbrev pub IsSmallLevel : Option ℕ → Type 0
IsSmallLevel level = IfSome level (λ n. n < 65535)
