-- Pairs: when two agents of a crowd are apart, and when two moves are clear of each other.
use Rattle.std.specs.Prelude.{ℕ, ◌+◌, ◌*◌, ◌≤◌, ◌^◌, Bool, nat_le, ◌||◌, if◌then◌else◌, ◌⊎◌, IsTrue, pos}
use Rattle.nav_base.specs.declared.point.Point.{Point}
use Rattle.nav_base.specs.Deviation.{square_of}
use Rattle.nav_base.specs.Point.{IsWithin, from_to}
use Rattle.crowd_moves.specs.declared.agents.CrowdAgent.{CrowdAgent}
use Rattle.crowd_moves.specs.declared.agents.CrowdMove.{CrowdMove}
use Rattle.crowd_moves.specs.Beyond.{KeepsBeyond}

-- an agent's sizes: its place is a fine point, its radius and its speed are less than 32 cells, its floors are those of a field
pub record HasSizes (a : CrowdAgent) : Type 0 where
  pub at : IsWithin (2 ^ 20) a.at
  pub radius : a.radius ≤ 8191
  pub speed : a.speed ≤ 8191

-- two ranges of floors are an agent's height or more apart
abbrev pub are_storeys_apart : (height low high low' high' : ℕ) → Bool
are_storeys_apart height low high low' high' = nat_le (high + height) low' || nat_le (high' + height) low

-- the square of the radii of two agents together
abbrev pub touching_square : CrowdAgent → CrowdAgent → ℕ
touching_square a b = (a.radius + b.radius) * (a.radius + b.radius)

-- the square of the distance of two agents
abbrev pub square_between : CrowdAgent → CrowdAgent → ℕ
square_between a b = square_of (from_to a.at b.at)

-- two agents are apart: on other storeys, or their discs have no common inner point. Discs that touch are apart
abbrev pub is_apart : ℕ → CrowdAgent → CrowdAgent → Bool
is_apart height a b = are_storeys_apart height a.low a.high b.low b.high || nat_le (touching_square a b) (square_between a b)

-- the square of the distance that two are to keep: that of the radii together; where they overlap now, that of how far apart they are
abbrev pub gap_of : ℕ → CrowdAgent → CrowdAgent → ℕ
gap_of height a b = if is_apart height a b then touching_square a b else square_between a b

-- two moves pass over other storeys
abbrev pub do_pass_apart : ℕ → CrowdMove → CrowdMove → Bool
do_pass_apart height m n = are_storeys_apart height m.low m.high n.low n.high

-- two moves are clear of each other: they pass over other storeys, or the two agents keep that distance all the while
abbrev pub IsClear : ℕ → CrowdAgent → CrowdAgent → CrowdMove → CrowdMove → Type 0
IsClear height a b m n = IsTrue (do_pass_apart height m n) ⊎ KeepsBeyond (gap_of height a b) (from_to a.at b.at) (from_to m.by n.by)

-- a vector is no longer than an agent's speed, and a move is not
abbrev pub IsSlowVector : CrowdAgent → Point → Type 0
IsSlowVector a by = square_of by ≤ a.speed * a.speed

abbrev pub IsSlow : CrowdAgent → CrowdMove → Type 0
IsSlow a m = IsSlowVector a m.by

-- an agent with a move, as it is asked of pairs
pub record IsMover (a : CrowdAgent) (m : CrowdMove) : Type 0 where
  pub sizes : HasSizes a
  pub slow : IsSlow a m

-- two agents that could come to touch in one step: neither coordinate of the way between them is more than both radii and both speeds together
abbrev pub IsNear : CrowdAgent → CrowdAgent → Type 0
IsNear a b = IsWithin (a.radius + b.radius + a.speed + b.speed) (from_to a.at b.at)

-- the move of an agent that stands
abbrev pub standing : CrowdAgent → CrowdMove
standing a = record { by = record { x = pos 0; z = pos 0 }; to = a.polygon; low = a.low; high = a.high }
