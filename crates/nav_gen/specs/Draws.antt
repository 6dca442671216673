-- Draws: numbers that look random and are the same on every machine.
use Rattle.std.specs.Prelude.{ℕ, zero, suc, ◌+◌, ◌*◌, ◌/◌, ◌%◌, ◌^◌}

-- the state after one draw, below 2^64. The two constants are this program's choice.
unfoldable pub next_state : ℕ → ℕ
next_state state = (state * 6364136223846793005 + 1442695040888963407) % 2 ^ 64

-- the state after so many draws
abbrev pub state_after : ℕ → ℕ → ℕ
state_after state zero = state
state_after state (suc count) = state_after (next_state state) count

-- of the draws that begin at a state, the one with so many before it: the state after it, divided by 2^33
abbrev pub draw : ℕ → ℕ → ℕ
draw state before = state_after state (before + 1) / 2 ^ 33
