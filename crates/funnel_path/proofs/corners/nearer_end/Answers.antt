-- The nearer end is one of the two.
use Rattle.std.proofs.Common.{◌≡◌, ℕ, refl, sym, subst, arith}
use Rattle.std.specs.Prelude.{◌≤ℤ◌}
use Rattle.std.proofs.lemmas.Int.{ints}
use Rattle.nav_base.specs.declared.point.Point.{Point}
use Rattle.mesh_types.specs.declared.links.Portal.{Portal}
use Rattle.mesh_types.specs.declared.answers.Corner.{Corner}
use Rattle.mesh_types.specs.declared.answers.Side.TheVariants.{L, R}
use Rattle.funnel_path.specs.Corners.{IsNearerCorner, corner_at_end, square_between}
use Rattle.funnel_path.proofs.corners.nearer_end.Goals as goal

left_nearer : (apex : Point) (portal : Portal) (place : ℕ) (corner : Corner) → corner ≡ corner_at_end L portal place
    → square_between apex portal.left ≤ℤ square_between apex portal.right → IsNearerCorner apex portal place corner
left_nearer apex portal place corner is near =
    subst (IsNearerCorner apex portal place) (sym is) (record { is_end = refl; nearer = near })

right_nearer : (apex : Point) (portal : Portal) (place : ℕ) (corner : Corner) → corner ≡ corner_at_end R portal place
    → square_between apex portal.right ≤ℤ square_between apex portal.left → IsNearerCorner apex portal place corner
right_nearer apex portal place corner is near =
    subst (IsNearerCorner apex portal place) (sym is) (record { is_end = refl; nearer = near })

pub dot-requires-clause-second : goal.dot-requires-clause-second
dot-requires-clause-second c = c.requires.portal.left

pub dot-requires-clause-fourth : goal.dot-requires-clause-fourth
dot-requires-clause-fourth c = c.requires.portal.left

pub returns-then-dot : goal.returns-then-dot
returns-then-dot c = left_nearer _ _ _ _ c.left_end.ensures (omega (arith, ints))

pub returns-else-dot : goal.returns-else-dot
returns-else-dot c = right_nearer _ _ _ _ c.right_end.ensures (omega (arith, ints))
