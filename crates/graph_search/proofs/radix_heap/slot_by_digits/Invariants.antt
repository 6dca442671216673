use Rattle.std.proofs.Common.{◌≡◌, ◌+◌, ◌-◌, ◌*◌}
use Rattle.graph_search.specs.Entries.{slot_of}
use Rattle.graph_search.proofs.radix_heap.slot_by_digits.Given as goal

-- the slot by the digits that are left
abbrev pub invariant-loop-digit : goal.invariant-loop-digit
invariant-loop-digit l = slot_of 11 l.fn.last l.fn.key ≡ 64 * l.digit + slot_of (11 - l.digit) l.before l.after
