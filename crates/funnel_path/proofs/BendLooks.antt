-- What is seen from a bend, whichever way it turns: points of the wedge, the portal before the one where a look ends, and the nearer end of a
-- portal that the bend is an end of.
use Rattle.std.proofs.Common.{◌≡◌, ◌≢◌, ℕ, ◌-◌, ◌≤◌, ◌<◌, ℤ, pos, ◌≤ℤ◌, ◌<ℤ◌, List, length, ap, sym, subst, ◌∙◌, refl, arith}
use Rattle.std.proofs.lemmas.Int.{ints}
use Rattle.nav_base.specs.declared.point.Point.{Point}
use Rattle.nav_base.specs.Point.{orient_of, from_to}
use Rattle.mesh_types.specs.declared.links.Portal.{Portal}
use Rattle.mesh_types.specs.declared.answers.Side.{Side}
use Rattle.mesh_types.specs.declared.answers.Side.TheVariants.{L, R}
use Rattle.mesh_types.specs.Chains.{IsChain, portal_at}
use Rattle.funnel_path.specs.declared.funnel.Funnel.{Funnel}
use Rattle.funnel_path.specs.Corners.{IsNearerEnd, square_between}
use Rattle.funnel_path.specs.Looks.{portal_or_goal, GoesThroughAll, IsLook}
use Rattle.funnel_path.proofs.PointLaws.{LiesBetweenRays, dot_of-still, length-not_negative, length-zero}
use Rattle.funnel_path.proofs.ChainLaws.{AreAhead, chain_after}
use Rattle.funnel_path.proofs.WedgeLaws.{IsInClosed, between_ends, inside_apart, inside_closed, left_apart, left_closed, right_apart, right_closed}

-- a point of the wedge through the portals before `end`, other than the bend
pub record IsInLook (c : Point) (portals : List Portal) (ahead end : ℕ) (q : Point) : Type 0 where
  pub wedge : Funnel
  pub look : IsLook c portals ahead end wedge
  pub closed : IsInClosed c wedge q
  pub apart : q ≢ c

-- it lies between the rays to the ends of each of those portals
pub look_between : (c : Point) (portals : List Portal) (ahead end : ℕ) (q : Point) (m : ℕ) → IsInLook c portals ahead end q → ahead ≤ m → m < end → LiesBetweenRays c (portal_at portals m).right (portal_at portals m).left q
look_between c portals ahead end q m looked from before =
    between_ends c looked.wedge (portal_at portals m) q looked.look.seen.wide (looked.look.seen.through m from before) looked.closed

pub at_left_ray : (c : Point) (portals : List Portal) (ahead end : ℕ) (wedge : Funnel) → IsLook c portals ahead end wedge → IsInLook c portals ahead end wedge.left.at
at_left_ray c portals ahead end wedge look =
    record { wedge = wedge; look = look; closed = left_closed c wedge look.seen.wide; apart = λ e. left_apart c wedge look.seen.wide (sym e) }

pub at_right_ray : (c : Point) (portals : List Portal) (ahead end : ℕ) (wedge : Funnel) → IsLook c portals ahead end wedge → IsInLook c portals ahead end wedge.right.at
at_right_ray c portals ahead end wedge look =
    record { wedge = wedge; look = look; closed = right_closed c wedge look.seen.wide; apart = λ e. right_apart c wedge look.seen.wide (sym e) }

pub inside_look : (c : Point) (portals : List Portal) (ahead end : ℕ) (wedge : Funnel) (q : Point) → IsLook c portals ahead end wedge
    → orient_of c wedge.left.at q <ℤ pos 0 → pos 0 <ℤ orient_of c wedge.right.at q → IsInLook c portals ahead end q
inside_look c portals ahead end wedge q look right_of_left left_of_right =
    record { wedge = wedge; look = look; closed = inside_closed c wedge q right_of_left left_of_right; apart = λ e. inside_apart c wedge q left_of_right (sym e) }

-- the wedge goes through the last portal before `end`
pub look_last : (c : Point) (portals : List Portal) (ahead end : ℕ) (wedge : Funnel) → IsLook c portals ahead end wedge → GoesThroughAll c wedge (portal_at portals (end - 1))
look_last c portals ahead end wedge look = look.seen.through (end - 1) (omega (arith, look.some)) (omega (arith, look.some))

-- what comes at a place lies ahead of the portal before it
pub place_ahead : (start : Point) (portals : List Portal) (goal : Point) (place : ℕ) → IsChain start portals goal → 0 < place → place ≤ length portals → AreAhead (portal_at portals (place - 1)) (portal_or_goal portals goal place)
place_ahead start portals goal place chain some within =
    subst (λ (m : ℕ). AreAhead (portal_at portals (place - 1)) (portal_or_goal portals goal m)) (omega arith) (chain_after start portals goal (place - 1) chain (omega arith))

-- ---- the nearer end

no_distance : (c p : Point) → c ≡ p → square_between c p ≡ pos 0
no_distance c p e = ap (λ (q : Point). square_between q p) e ∙ dot_of-still (from_to p p) p

-- what is as near as the point where one stands is that point
pub as_near : (c p q : Point) → c ≡ p → square_between c q ≤ℤ square_between c p → c ≡ q
as_near c p q e nearer = length-zero c q (both (square_between c q) (square_between c p) nearer (no_distance c p e) (length-not_negative (from_to c q)))
  where
    both : (m n : ℤ) → m ≤ℤ n → n ≡ pos 0 → pos 0 ≤ℤ m → m ≡ pos 0
    both m n h e k = omega (arith, ints)

-- the nearer end of a portal from one of its ends is that end
pub nearer_left : (c : Point) (portal : Portal) (side : Side) → portal.left ≢ portal.right → c ≡ portal.left → IsNearerEnd c portal side → side ≡ L
nearer_left c portal L wide at_end nearer = refl
nearer_left c portal R wide at_end nearer = absurd (wide (sym at_end ∙ as_near c portal.left portal.right at_end nearer))

pub nearer_right : (c : Point) (portal : Portal) (side : Side) → portal.left ≢ portal.right → c ≡ portal.right → IsNearerEnd c portal side → side ≡ R
nearer_right c portal L wide at_end nearer = absurd (wide (sym (as_near c portal.right portal.left at_end nearer) ∙ at_end))
nearer_right c portal R wide at_end nearer = refl
