-- Keyed: places of a list, each with a number, in the order of the numbers.
use Rattle.std.specs.Prelude.{List}
use Rattle.std.specs.List.Sorted.{IsSortedBy}
use Rattle.std.specs.Ordering.{is_lt, nat_cmp, ordering_then}
use Rattle.std.specs.declared.cmp.Ordering.{Ordering}
use Rattle.crowd_moves.specs.declared.keyed.KeyedPlace.{KeyedPlace}

-- entries by number; of equal numbers by place
abbrev pub entry_cmp : KeyedPlace → KeyedPlace → Ordering
entry_cmp a b = ordering_then (nat_cmp a.key b.key) (nat_cmp a.place b.place)

-- no entry comes before an earlier one
abbrev pub AreInOrder : List KeyedPlace → Type 0
AreInOrder entries = IsSortedBy (λ a b. is_lt (entry_cmp a b)) entries
