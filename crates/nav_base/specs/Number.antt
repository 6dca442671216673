-- Numbers as texts spell them: `0`, or digits of which the first is not `0`. Std's `decimal n` is the spelling of n.
use Rattle.std.specs.Prelude.{ℕ, ◌^◌, Bool, ◌&&◌, ◌||◌, ◌==◌, nat_lt, if◌then◌else◌, List, Option, Some, None, length, drop, slice_index, take_while}
use Rattle.std.specs.Char.{is_ascii_digit}
use Rattle.std.specs.Str.Parse.{digits_value}

-- one digit alone, or digits of which the first is above `0`
abbrev pub is_canonical : List ℕ → Bool
is_canonical digits = length digits == 1 || nat_lt 1 (length digits) && nat_lt 48 (slice_index digits 0)

-- the number below 2 ^ 32 that the digits at the front spell, and the bytes after them
unfoldable pub number_at : List ℕ → Option (ℕ × List ℕ)
number_at bytes =
    let digits = take_while is_ascii_digit bytes in
    if nat_lt (digits_value 10 digits) (2 ^ 32) && is_canonical digits then Some (digits_value 10 digits, drop (length digits) bytes) else None
