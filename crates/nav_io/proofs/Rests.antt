-- A read of a source in memory takes the front of what is left, and leaves the rest.
use Rattle.std.proofs.Common.{ℕ, ◌≡◌, ◌+◌, ◌-◌, ◌<◌, List, ◌++◌, length, length-drop, take, drop, arith, sym, ◌∙◌, ap}
use Rattle.std.proofs.lemmas.List.{take-append-drop, drop-drop, take_all}
use Rattle.std.proofs.Math.ListN.{drop_of_length-le}
use Rattle.std.specs.Io.KnownBytes.{Consumes, IsAtEnd}
use Rattle.nav_io.specs.Memory.{rest_from, given_count}

-- `slice` is the slice of the bytes that the read looks at
pub Consumes-rest_from : (bytes slice old new : List ℕ) (at piece count : ℕ)
    → slice ≡ bytes
    → count ≡ given_count piece (length old) (length (take (length slice - at) (drop at slice)))
    → take count new ≡ take count (take (length slice - at) (drop at slice))
    → length new ≡ length old → 0 < piece
    → Consumes (rest_from at bytes) (rest_from (at + count) bytes) (take count new)
    × (count ≡ 0 → 0 < length new → IsAtEnd (rest_from (at + count) bytes))
Consumes-rest_from bytes slice old new at piece count is given front same some =
    let whole : take (length slice - at) (drop at slice) ≡ drop at bytes =
    take_all (length slice - at) (drop at slice) (rw (length-drop at slice) (omega arith)) ∙ ap (drop at) is in
    let there : length (take (length slice - at) (drop at slice)) ≡ length bytes - at = ap length whole ∙ length-drop at bytes in
    let split : drop at bytes ≡ take count new ++ drop (at + count) bytes =
    rw (front, whole) (sym (take-append-drop count (drop at bytes)) ∙ ap (λ rest. take count (drop at bytes) ++ rest) (drop-drop count at bytes)) in
    (split, λ none room. drop_of_length-le bytes (omega (arith, none, room, given, there, same, some)))
