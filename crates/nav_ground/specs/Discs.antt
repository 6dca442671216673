-- Discs: which columns share area with a disc, and which have their middles in it. All is in sixteenths of a cell.
use Rattle.std.specs.Prelude.{ℕ, zero, suc, ◌+◌, ◌*◌, ◌≤◌, ◌<◌, ℤ, pos, ◌-ℤ◌, int_lt, nat_lt, nat_le, unsigned_abs, Bool, if◌then◌else◌}

-- how far a number lies outside a column's range
abbrev pub gap : ℤ → ℕ → ℕ
gap c x =
    if int_lt c (pos (16 * x)) then unsigned_abs (pos (16 * x) -ℤ c)
    else (if int_lt (pos (16 * x + 16)) c then unsigned_abs (c -ℤ pos (16 * x + 16)) else 0)

-- how far it lies from a column's middle
abbrev pub off_middle : ℤ → ℕ → ℕ
off_middle c x = unsigned_abs (c -ℤ pos (16 * x + 8))

-- a disc shares area with a column whose nearest point is nearer than the radius
abbrev pub ReachesInto : ℤ → ℤ → ℕ → ℕ → ℕ → Type 0
ReachesInto cx cz r x z = gap cx x * gap cx x + gap cz z * gap cz z < r * r

-- it holds a middle that is no farther than that
abbrev pub HoldsMiddleOf : ℤ → ℤ → ℕ → ℕ → ℕ → Type 0
HoldsMiddleOf cx cz r x z = off_middle cx x * off_middle cx x + off_middle cz z * off_middle cz z ≤ r * r

-- what stops agents, with the area 0, covers each column with which it shares area; what sets an area those whose middles it holds
abbrev pub IsUnderDisc : ℕ → ℤ → ℤ → ℕ → ℕ → ℕ → Type 0
IsUnderDisc zero cx cz r x z = ReachesInto cx cz r x z
IsUnderDisc (suc area) cx cz r x z = HoldsMiddleOf cx cz r x z

-- the same as tests
abbrev pub is_reaching_into : ℤ → ℤ → ℕ → ℕ → ℕ → Bool
is_reaching_into cx cz r x z = nat_lt (gap cx x * gap cx x + gap cz z * gap cz z) (r * r)

abbrev pub is_holding_middle : ℤ → ℤ → ℕ → ℕ → ℕ → Bool
is_holding_middle cx cz r x z = nat_le (off_middle cx x * off_middle cx x + off_middle cz z * off_middle cz z) (r * r)

abbrev pub is_under_disc : ℕ → ℤ → ℤ → ℕ → ℕ → ℕ → Bool
is_under_disc zero cx cz r x z = is_reaching_into cx cz r x z
is_under_disc (suc area) cx cz r x z = is_holding_middle cx cz r x z
