-- Laws of lengths: what reaches from point to point, in whole numbers, and that the straight distance is under every line.
use Rattle.std.proofs.Common.{◌≡◌, ℕ, ◌+◌, ◌*◌, ◌^◌, ◌≤◌, ◌<◌, ℤ, pos, ◌*ℤ◌, List, [], ◌∷◌, refl, ap, subst, ◌∙◌, inl, inr, arith}
use Rattle.std.specs.Prelude.{unsigned_abs}
use Rattle.std.proofs.lemmas.Nat.{mul-le}
use Rattle.std.proofs.lemmas.Bool.{cases_lt}
use Rattle.nav_base.specs.declared.point.Point.{Point}
use Rattle.nav_base.specs.Point.{HasCoordinates, from_to, dot_of}
use Rattle.nav_base.specs.Deviation.{square_of}
use Rattle.nav_base.specs.Root.{ceil_sqrt_of}
use Rattle.nav_base.proofs.Polynomials.{at, difference, product, equal}
use Rattle.nav_base.proofs.PointTerms.{Place, dot_term}
use Rattle.nav_base.proofs.LengthLaws.{ceil_sqrt_of-from_to, dot_of-itself}
use Rattle.nav_base.proofs.Sizes.{dot_of-bound, from_to-coordinates}
use Rattle.nav_base.proofs.RootLaws.{ceil_sqrt_of-least, ceil_sqrt_of-at_most}
use Rattle.mesh_types.specs.declared.links.Portal.{Portal}
use Rattle.line_fans.specs.Lines.{spread, Reaches, IsLine}

root-at_most : (m n : ℕ) → m * m ≤ n * n → m ≤ n
root-at_most m n h = elim (cases_lt n m) [ inl above ↦ absurd (omega (arith, mul-le (n + 1) (n + 1) m m (omega arith) (omega arith))) | inr below ↦ below ]

-- a number that is at least a root has a square that is at least the number
reached : (n k : ℕ) → ceil_sqrt_of n ≤ k → n ≤ k * k
reached n k h = omega (arith, (ceil_sqrt_of-least n).reaches, mul-le (ceil_sqrt_of n) (ceil_sqrt_of n) k k h h)

-- what reaches from a to b and from b to c, together reaches from a to c
pub reach_add : (r s : ℕ) (a b c : Point) → Reaches r a b → Reaches s b c → Reaches (r + s) a c
reach_add r s a b c h k =
    reached (square_of (from_to a c)) (r + s)
    (omega (arith, ceil_sqrt_of-from_to a b c, ceil_sqrt_of-at_most (square_of (from_to a b)) r h, ceil_sqrt_of-at_most (square_of (from_to b c)) s k))

-- a line reaches from its start to its goal
pub line_straight : (d : ℕ) (a : Point) (portals : List Portal) (goal : Point) (r : ℕ) → IsLine d a portals goal r → Reaches r a goal
line_straight d a [] goal r line = line
line_straight d a (portal ∷ portals) goal r (p, q, s, on, first, rest, same) =
    subst (λ (n : ℕ). Reaches n a goal) same (reach_add q s a p goal first (line_straight d p portals goal s rest))

-- the squared distance of two points that are d times as far out
pub square_of-spread : (d : ℕ) (a b : Point) → square_of (from_to (spread d a) (spread d b)) ≡ d * d * square_of (from_to a b)
unfolding dot_of
square_of-spread d a b = ap unsigned_abs whole ∙ lengths d (from_to a b)
  where
    far : Place
    far = record { x = product (at 4) (difference (at 2) (at 0)); z = product (at 4) (difference (at 3) (at 1)) }

    apart : Place
    apart = record { x = difference (product (at 4) (at 2)) (product (at 4) (at 0)); z = difference (product (at 4) (at 3)) (product (at 4) (at 1)) }

    near : Place
    near = record { x = difference (at 2) (at 0); z = difference (at 3) (at 1) }

    whole : dot_of (from_to (spread d a) (spread d b)) (from_to (spread d a) (spread d b)) ≡ (pos d *ℤ pos d) *ℤ dot_of (from_to a b) (from_to a b)
    whole = equal (a.x ∷ a.z ∷ b.x ∷ b.z ∷ pos d ∷ []) (dot_term apart apart) (product (product (at 4) (at 4)) (dot_term near near)) refl

    lengths : (d : ℕ) (v : Point) → unsigned_abs ((pos d *ℤ pos d) *ℤ dot_of v v) ≡ d * d * square_of v
    lengths d v = ap (λ (n : ℤ). unsigned_abs ((pos d *ℤ pos d) *ℤ n)) (dot_of-itself v)

-- what is no more than the root of a squared distance, in 4096ths, is no more than what reaches
pub down_reach : (d r parts : ℕ) (a b : Point) → parts * parts ≤ 4096 * 4096 * square_of (from_to a b) → Reaches r (spread d a) (spread d b) → parts * d ≤ 4096 * r
down_reach d r parts a b low h = root-at_most (parts * d) (4096 * r) (bounded (square_of (from_to a b)) low (omega (arith, h, square_of-spread d a b)))
  where
    bounded : (n : ℕ) → parts * parts ≤ 4096 * 4096 * n → d * d * n ≤ r * r → (parts * d) * (parts * d) ≤ (4096 * r) * (4096 * r)
    bounded n low h =
        let first : (d * d) * (parts * parts) ≤ (d * d) * (4096 * 4096 * n) = omega (arith, mul-le (d * d) (parts * parts) (d * d) (4096 * 4096 * n) (omega arith) low) in
        let second : (4096 * 4096) * (d * d * n) ≤ (4096 * 4096) * (r * r) = omega (arith, h) in
        grind (arith, first, second)

-- no squared distance is greater than 2 ^ 35
pub square_most : (a b : Point) → HasCoordinates a → HasCoordinates b → square_of (from_to a b) ≤ 34359738368
square_most a b p q = omega (arith, dot_of-bound (2 ^ 17) (from_to a b) (from_to a b) (from_to-coordinates a b p q) (from_to-coordinates a b p q))

-- a number whose square is at most 2 ^ 59 is less than 2 ^ 30
pub root_few : (r n : ℕ) → r * r ≤ n → n ≤ 2 ^ 59 → r < 2 ^ 30
root_few r n low few = elim (cases_lt r (2 ^ 30)) [ inl below ↦ below | inr above ↦ absurd (omega (arith, low, few, mul-le (2 ^ 30) (2 ^ 30) r r above above)) ]

-- the root of such a number, rounded up, is at most 2 ^ 30
pub up_few : (n : ℕ) → n ≤ 2 ^ 59 → ceil_sqrt_of n ≤ 2 ^ 30
up_few n few = ceil_sqrt_of-at_most n (2 ^ 30) (omega (arith, few))

-- the straight distance, rounded down, is under every line
pub straight_under : (portals : List Portal) (start goal : Point) (parts d r : ℕ) → parts * parts ≤ 4096 * 4096 * square_of (from_to start goal)
    → IsLine d (spread d start) portals (spread d goal) r → parts * d ≤ 4096 * r
straight_under portals start goal parts d r low line =
    down_reach d r parts start goal low (line_straight d (spread d start) portals (spread d goal) r line)
