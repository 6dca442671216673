-- Rows: fans of portals that are written out.
use Rattle.std.proofs.Common.{◌≡◌, ℕ, pos, true, false, [], ◌∷◌, refl}
use Rattle.nav_base.specs.declared.point.Point.{Point}
use Rattle.nav_base.specs.Point.{dot_of, cross_of, orient_of}
use Rattle.mesh_types.specs.declared.links.Portal.{Portal}
use Rattle.line_fans.specs.Fans.{cone_through, fan_on}

abbrev at : ℕ → ℕ → Point
at x z = record { x = pos x; z = pos z }

abbrev portal : Point → Point → Portal
portal l r = record { left = l; right = r }

-- a polygon that is left over the edge by which it was entered: on along the edge to the nearer end
pub back_over_one_edge : fan_on (portal (at 0 16) (at 16 16)) (portal (at 48 16) (at 32 16) ∷ []) (cone_through [] (at 8 0) (portal (at 0 16) (at 16 16)) ∷ [])
    ≡ record { before = at 8 0 ∷ at 16 16 ∷ []; root = at 32 16; left = at 48 16; right = at 32 16; through_left = true; through_right = true; whole = true } ∷ []
unfolding fan_on orient_of cross_of dot_of
back_over_one_edge = refl

-- a corner of a hole on the right: what is seen from the start, and what is seen from the corner
pub round_a_hole : fan_on (portal (at 16 48) (at 48 48)) (portal (at 16 64) (at 48 64) ∷ portal (at 16 80) (at 48 80) ∷ portal (at 16 96) (at 112 96) ∷ [])
    (cone_through [] (at 24 48) (portal (at 16 48) (at 48 48)) ∷ [])
    ≡ record { before = []; root = at 24 48; left = at 16 96; right = at 48 80; through_left = true; through_right = false; whole = false }
    ∷ record { before = at 24 48 ∷ []; root = at 48 80; left = at 72 112; right = at 112 96; through_left = false; through_right = true; whole = false } ∷ []
unfolding fan_on orient_of cross_of dot_of
round_a_hole = refl
