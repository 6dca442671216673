-- Discs: what a portal is tested by beside the disc of a motion.
use Rattle.std.specs.Prelude.{ℤ, pos, ◌+ℤ◌, ◌≤ℤ◌}
use Rattle.nav_base.specs.declared.point.Point.{Point}
use Rattle.nav_base.specs.Point.{dot_of, from_to, orient_of}
use Rattle.mesh_types.specs.declared.links.Portal.{Portal}

-- how far the ends of a way lie along a portal from its right end, together, as products
abbrev pub toward_of : Point → Point → Portal → ℤ
toward_of a b portal =
    dot_of (from_to portal.right portal.left) (from_to portal.right a) +ℤ dot_of (from_to portal.right portal.left) (from_to portal.right b)

-- how far they lie to the left of its line, together, as crosses
abbrev pub aside_of : Point → Point → Portal → ℤ
aside_of a b portal = orient_of portal.right portal.left a +ℤ orient_of portal.right portal.left b

-- from a point the ends of a way are seen at a right angle at least
abbrev pub SeesEnds : Point → Point → Point → Type 0
SeesEnds a b p = dot_of (from_to p a) (from_to p b) ≤ℤ pos 0
