-- The laws of draws.
use Rattle.std.proofs.Common.{◌≡◌, ℕ, zero, suc, ◌+◌, ◌*◌, ◌/◌, ◌%◌, ◌^◌, sym, ap, ◌∙◌, arith}
use Rattle.std.proofs.Math.Nat.{mod-add-mod}
use Rattle.nav_gen.specs.Draws.{next_state, state_after, draw}

-- the state after one draw, where both steps are taken modulo 2^64
pub one_step : (state : ℕ) → (state * 6364136223846793005 % 2 ^ 64 + 1442695040888963407) % 2 ^ 64 ≡ next_state state
unfolding next_state
one_step state = mod-add-mod (state * 6364136223846793005) (2 ^ 64) 1442695040888963407

-- the draws behind the first ones begin at the state after these
pub state_after-add : (state m n : ℕ) → state_after state (m + n) ≡ state_after (state_after state m) n
state_after-add state zero n = ap (state_after state) {x = zero + n} {y = n} (omega arith)
state_after-add state (suc m) n =
    ap (state_after state) {x = suc m + n} {y = suc (m + n)} (omega arith) ∙ state_after-add (next_state state) m n

pub state_after-next : (state count : ℕ) → state_after state (count + 1) ≡ next_state (state_after state count)
state_after-next state count = state_after-add state count 1

pub draw_behind : (state before : ℕ) → draw (state_after state before) 0 ≡ draw state before
draw_behind state before = ap (λ s. s / 2 ^ 33) (sym (state_after-next state before))
