-- The goals and the turns of the host's arrays, one by one.
use Rattle.std.proofs.Common.{sym, subst, arith, ℕ, ◌<◌, ◌≤◌, pos, List, length, get_or, map, All}
use Rattle.std.proofs.lemmas.List.{get_or-map, length-map}
use Rattle.nav_handle.specs.declared.wire.NavdTurn.{NavdTurn}
use Rattle.way_handle.specs.declared.nearest.NavdGoal.{NavdGoal}

abbrev pub no_goal : NavdGoal
no_goal = record { at = record { x = pos 0; z = pos 0 }; y = 0 }

abbrev pub no_turn : NavdTurn
no_turn = record { at = record { x = pos 0; z = pos 0 }; side = 0; link = 0 }

-- what holds of each of a mapped list holds of one
pub one_in : {X Y : Type 0} (P : Y → Type 0) (f : X → Y) (xs : List X) (k : ℕ) (d : X) → k < length xs → All P (map f xs) → P (f (get_or xs k d))
one_in P f xs k d there all =
    subst P (get_or-map f xs k d (f d) there) (all k (f d) (subst (λ (n : ℕ). k < n) (sym (length-map xs f)) there))

-- what holds of one after the other up to the end holds of each
pub each_in : {X Y : Type 0} (P : Y → Type 0) (f : X → Y) (xs : List X) (d : X) (n : ℕ) → length xs ≤ n
    → ((k : ℕ) → k < n → P (f (get_or xs k d))) → All P (map f xs)
each_in {X} {Y} P f xs d n all each = λ (k : ℕ) (e : Y) there.
    let within : k < length xs = subst (λ (m : ℕ). k < m) (length-map xs f) there in
    subst P (sym (get_or-map f xs k d e within)) (each k (omega (arith, within, all)))
