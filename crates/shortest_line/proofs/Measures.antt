-- What lines measure, leg by leg.
use Rattle.std.proofs.Common.{◌≡◌, ℕ, ◌+◌, ◌*◌, ◌<◌, ◌≤◌, List, [], ◌∷◌, ◌++◌, map, drop, length, get_or, refl, ◌∙◌, arith}
use Rattle.std.proofs.lemmas.List.{at_drop_more, at_drop_all}
use Rattle.nav_base.specs.declared.point.Point.{Point}
use Rattle.nav_base.specs.Deviation.{square_of}
use Rattle.nav_base.specs.Point.{from_to}
use Rattle.nav_base.specs.Root.{ceil_sqrt_of}
use Rattle.mesh_types.specs.declared.answers.Corner.{Corner}
use Rattle.shortest_line.specs.Lines.{measured_of}

-- the first leg, and the rest
leg_and_rest : (a b : Point) (more : List Point) → measured_of (a ∷ b ∷ more) ≡ ceil_sqrt_of (4096 * 4096 * square_of (from_to a b)) + measured_of (b ∷ more)
unfolding measured_of
leg_and_rest a b more = refl

-- the last leg
pub last_leg : (a b : Point) → measured_of (a ∷ b ∷ []) ≡ ceil_sqrt_of (4096 * 4096 * square_of (from_to a b))
unfolding measured_of
last_leg a b = omega arith

-- the points of a line from a point over corners to a goal
abbrev pub points_over : Point → List Corner → Point → List Point
points_over at turns goal = at ∷ map (λ (turn : Corner). turn.at) turns ++ goal ∷ []

-- the leg to the next corner, and the rest from there
pub next_leg : (at goal : Point) (turns : List Corner) (i : ℕ) (d : Corner) → i < length turns
    → measured_of (points_over at (drop i turns) goal)
    ≡ ceil_sqrt_of (4096 * 4096 * square_of (from_to at (get_or turns i d).at)) + measured_of (points_over (get_or turns i d).at (drop (i + 1) turns) goal)
next_leg at goal turns i d there =
    at_drop_more (λ (rest : List Corner). measured_of (points_over at rest goal)) turns i d there
    ∙ leg_and_rest at (get_or turns i d).at (map (λ (turn : Corner). turn.at) (drop (i + 1) turns) ++ goal ∷ [])

-- what is measured so far goes on by the leg to the next corner
pub measured_on : (parts leg total : ℕ) (at goal : Point) (turns : List Corner) (i : ℕ) (d : Corner) → i < length turns
    → leg ≡ ceil_sqrt_of (4096 * 4096 * square_of (from_to at (get_or turns i d).at))
    → parts + measured_of (points_over at (drop i turns) goal) ≡ total
    → parts + leg + measured_of (points_over (get_or turns i d).at (drop (i + 1) turns) goal) ≡ total
measured_on parts leg total at goal turns i d there is so_far = omega (arith, next_leg at goal turns i d there, is, so_far)

-- and ends with the leg to the goal
pub measured_all : (parts leg total : ℕ) (at goal : Point) (turns : List Corner) (i : ℕ) → length turns ≤ i
    → leg ≡ ceil_sqrt_of (4096 * 4096 * square_of (from_to at goal))
    → parts + measured_of (points_over at (drop i turns) goal) ≡ total
    → parts + leg ≡ total
measured_all parts leg total at goal turns i past is so_far =
    omega (arith, at_drop_all (λ (rest : List Corner). measured_of (points_over at rest goal)) turns i past, last_leg at goal, is, so_far)
