-- Kept: what a step leaves of an agent's steering as the host said it.
use Rattle.std.specs.Prelude.{◌≡◌, ℕ, Bool, List, map}
use Rattle.nav_base.specs.declared.point.Point.{Point}
use Rattle.crowd_step.specs.declared.steering.Steering.{Steering}

-- what the host says: the wish, how far the goal is, and whether the agent makes room for all others
abbrev pub told_by_host : Steering → Point × ℕ × Bool
told_by_host own = (own.wish, own.left, own.idle)

-- it stays as it was, of one agent and of each
abbrev pub KeepsWish : Steering → Steering → Type 0
KeepsWish old new = told_by_host new ≡ told_by_host old

abbrev pub AreWishesKept : List Steering → List Steering → Type 0
AreWishesKept old new = map told_by_host new ≡ map told_by_host old
