-- The ends of a portal are held by the polygon on either side, and what the one polygon holds lies behind it, what the other holds ahead.
use Rattle.std.proofs.Common.{◌≡◌, ◌≢◌, ℕ, ◌<◌, ℤ, pos, ◌+ℤ◌, ◌-ℤ◌, ◌*ℤ◌, ◌≤ℤ◌, ◌<ℤ◌, [], ◌∷◌, length, refl, sym, ap, subst, ◌∙◌, arith}
use Rattle.std.proofs.lemmas.Int.{ints}
use lib.IntN.{neg_ℤ, *ℤ_comm, *ℤ-zero}
use Rattle.nav_base.specs.declared.point.Point.{Point}
use Rattle.nav_base.specs.Point.{from_to, dot_of, cross_of, orient_of}
use Rattle.nav_base.specs.Convex.{IsStrictlyConvex, corner_at, place_after}
use Rattle.nav_base.proofs.Polynomials.{difference, equal}
use Rattle.nav_base.proofs.PointTerms.{place, coordinates, from_to_term, dot_term}
use Rattle.nav_base.proofs.OrientLaws.{orient_of-turned, orient_of-apart, orient_of-between, dot_of-cross_of}
use Rattle.nav_base.proofs.ConvexLaws.{IsStrictlyConvex-sides, place_after-in}
use Rattle.nav_base.proofs.Signs.{product-not_negative, factor-not_negative}
use Rattle.mesh_types.specs.declared.polygon.Polygon.{Polygon}
use Rattle.mesh_types.specs.declared.links.Portal.{Portal}
use Rattle.mesh_types.specs.Portals.{edge_begin, edge_end, along, LiesAlong, IsPortalOut, IsPortalIn}
use Rattle.mesh_types.specs.Located.{Holds}
use Rattle.mesh_types.specs.Chains.{IsBehind, IsAhead}
use Rattle.mesh_types.proofs.HeldPoints.{orient_of-scaled}

-- a point lies on a way from u to v that has a length
pub record IsOn (u v p : Point) : Type 0 where
  pub line : orient_of u v p ≡ pos 0
  pub after : pos 0 ≤ℤ along u v p
  pub before : along u v p ≤ℤ along u v v
  pub long : pos 0 <ℤ along u v v

-- the two points of a way along another lie on it
begin_on : (u v from to : Point) → LiesAlong u v from to → IsOn u v from
begin_on u v from to lies = record {
  line = lies.begins;
  after = lies.after;
  before = up_to (along u v from) (along u v to) (along u v v) lies.forward lies.before;
  long = long_way (along u v from) (along u v to) (along u v v) lies.after lies.forward lies.before;
}
  where
    up_to : (a b c : ℤ) → a <ℤ b → b ≤ℤ c → a ≤ℤ c
    up_to a b c h k = omega (arith, ints)

    long_way : (a b c : ℤ) → pos 0 ≤ℤ a → a <ℤ b → b ≤ℤ c → pos 0 <ℤ c
    long_way a b c g h k = omega (arith, ints)

end_on : (u v from to : Point) → LiesAlong u v from to → IsOn u v to
end_on u v from to lies = record {
  line = lies.ends;
  after = from_on (along u v from) (along u v to) lies.after lies.forward;
  before = lies.before;
  long = (begin_on u v from to lies).long;
}
  where
    from_on : (a b : ℤ) → pos 0 ≤ℤ a → a <ℤ b → pos 0 ≤ℤ b
    from_on a b h k = omega (arith, ints)

-- the way between two points, along another
way_between : (u v from to : Point) → dot_of (from_to u v) (from_to from to) ≡ along u v to -ℤ along u v from
unfolding dot_of
way_between u v from to =
    let way = from_to_term (place 0) (place 1) in
    equal (coordinates (u ∷ v ∷ from ∷ to ∷ [])) (dot_term way (from_to_term (place 2) (place 3)))
    (difference (dot_term way (from_to_term (place 0) (place 3))) (dot_term way (from_to_term (place 0) (place 2)))) refl

-- a point on a way lies on each side of a line on which both of its ends lie, or on the line
between : (s t u v p : Point) → IsOn u v p → pos 0 ≤ℤ orient_of s t u → pos 0 ≤ℤ orient_of s t v → pos 0 ≤ℤ orient_of s t p
between s t u v p on hu hv =
    factor-not_negative (along u v v) (orient_of s t p) on.long
    (mean (along u v v *ℤ orient_of s t p) (along u v p *ℤ orient_of s t v) (dot_of (from_to u v) (from_to p v) *ℤ orient_of s t u)
    (orient_of u v p) (dot_of (from_to s t) (from_to u v)) on.line (orient_of-between s t u v p)
    (product-not_negative _ _ on.after hv)
    (product-not_negative _ _ (left (along u v v) (along u v p) _ (way_between u v p v) on.before) hu))
  where
    left : (a b d : ℤ) → d ≡ a -ℤ b → b ≤ℤ a → pos 0 ≤ℤ d
    left a b d e h = omega (arith, ints)

    none : (o d : ℤ) → o ≡ pos 0 → o *ℤ d ≡ pos 0
    none o d e = ap (λ (n : ℤ). n *ℤ d) e ∙ *ℤ_comm (pos 0) d ∙ *ℤ-zero d

    add : (a b c e : ℤ) → e ≡ pos 0 → a ≡ b +ℤ c +ℤ e → pos 0 ≤ℤ b → pos 0 ≤ℤ c → pos 0 ≤ℤ a
    add a b c e z h hb hc = omega (arith, ints)

    mean : (a b c o d : ℤ) → o ≡ pos 0 → a ≡ b +ℤ c +ℤ o *ℤ d → pos 0 ≤ℤ b → pos 0 ≤ℤ c → pos 0 ≤ℤ a
    mean a b c o d z e hb hc = add a b c (o *ℤ d) (none o d z) e hb hc

-- each corner of a strictly convex polygon lies to the left of each edge or on it, in sixteenths too
corner_held : (polygon : Polygon) (edge k : ℕ) → IsStrictlyConvex polygon.corners → edge < length polygon.corners → k < length polygon.corners
    → pos 0 ≤ℤ orient_of (edge_begin polygon edge) (edge_end polygon edge) (edge_begin polygon k)
corner_held polygon edge k convex there there' =
    let n = length polygon.corners in
    subst (λ (m : ℤ). pos 0 ≤ℤ m)
    (sym (orient_of-scaled (corner_at polygon.corners edge) (corner_at polygon.corners (place_after n edge)) (corner_at polygon.corners k)))
    (product-not_negative (pos 256) _ (omega (arith, ints)) (IsStrictlyConvex-sides polygon.corners convex edge there k there'))

-- a point on an edge of a polygon is held by it
pub held_on_edge : (polygon : Polygon) (edge : ℕ) (p : Point) → IsStrictlyConvex polygon.corners → edge < length polygon.corners
    → IsOn (edge_begin polygon edge) (edge_end polygon edge) p → Holds polygon p
held_on_edge polygon edge p convex there on k there' =
    between (edge_begin polygon k) (edge_end polygon k) (edge_begin polygon edge) (edge_end polygon edge) p on
    (corner_held polygon k edge convex there' there)
    (corner_held polygon k (place_after (length polygon.corners) edge) convex there' (place_after-in (length polygon.corners) edge there))

-- so both ends of a portal are held by the polygon that it leads out of, and by the one that it leads into
pub record HoldsEnds (polygon : Polygon) (portal : Portal) : Type 0 where
  pub left : Holds polygon portal.left
  pub right : Holds polygon portal.right

pub out_held : (polygon : Polygon) (edge : ℕ) (portal : Portal) → IsStrictlyConvex polygon.corners → IsPortalOut polygon edge portal → HoldsEnds polygon portal
out_held polygon edge portal convex out = record {
  left = held_on_edge polygon edge portal.left convex out.there (end_on _ _ _ _ out.lies);
  right = held_on_edge polygon edge portal.right convex out.there (begin_on _ _ _ _ out.lies);
}

pub in_held : (polygon : Polygon) (portal : Portal) → IsStrictlyConvex polygon.corners → IsPortalIn polygon portal → HoldsEnds polygon portal
in_held polygon portal convex into = record {
  left = held_on_edge polygon into.edge portal.left convex into.there (begin_on _ _ _ _ into.lies);
  right = held_on_edge polygon into.edge portal.right convex into.there (end_on _ _ _ _ into.lies);
}

-- the two points of a way along another are different
pub ends_apart : (u v from to : Point) → LiesAlong u v from to → from ≢ to
ends_apart u v from to lies same = apart (along u v from) (along u v to) (ap (along u v) same) lies.forward
  where
    apart : (a b : ℤ) → a ≡ b → a <ℤ b → ⊥
    apart a b e h = omega (arith, ints)

-- a point to the left of a way lies to the left of each way along it
left_along : (u v from to p : Point) → LiesAlong u v from to → pos 0 ≤ℤ orient_of u v p → pos 0 ≤ℤ orient_of from to p
unfolding orient_of
left_along u v from to p lies h =
    factor-not_negative (along u v v) (orient_of from to p) (begin_on u v from to lies).long
    (weighed (dot_of (from_to u v) (from_to from to)) (cross_of (from_to u v) (from_to from p)) (along u v v *ℤ orient_of from to p)
    (cross_of (from_to u v) (from_to from to)) (dot_of (from_to u v) (from_to from p)) (dot_of-cross_of (from_to u v) (from_to from p) (from_to from to))
    (level (orient_of u v to) (orient_of u v from) _ lies.ends lies.begins (orient_of-apart u v from to))
    (ahead (along u v from) (along u v to) _ lies.forward (way_between u v from to))
    (aside (orient_of u v p) (orient_of u v from) _ h lies.begins (orient_of-apart u v from p)))
  where
    level : (a b c : ℤ) → a ≡ pos 0 → b ≡ pos 0 → a -ℤ b ≡ c → c ≡ pos 0
    level a b c e e' h = omega (arith, ints)

    ahead : (a b c : ℤ) → a <ℤ b → c ≡ b -ℤ a → pos 0 ≤ℤ c
    ahead a b c h e = omega (arith, ints)

    aside : (a b c : ℤ) → pos 0 ≤ℤ a → b ≡ pos 0 → a -ℤ b ≡ c → pos 0 ≤ℤ c
    aside a b c h e e' = omega (arith, ints)

    none : (o d : ℤ) → o ≡ pos 0 → o *ℤ d ≡ pos 0
    none o d e = ap (λ (n : ℤ). n *ℤ d) e ∙ *ℤ_comm (pos 0) d ∙ *ℤ-zero d

    same : (a b c : ℤ) → a ≡ b +ℤ c → c ≡ pos 0 → pos 0 ≤ℤ a → pos 0 ≤ℤ b
    same a b c e z h = omega (arith, ints)

    weighed : (d c a o e : ℤ) → d *ℤ c ≡ a +ℤ o *ℤ e → o ≡ pos 0 → pos 0 ≤ℤ d → pos 0 ≤ℤ c → pos 0 ≤ℤ a
    weighed d c a o e h z hd hc = same (d *ℤ c) a (o *ℤ e) h (none o e z) (product-not_negative d c hd hc)

-- what a polygon holds lies behind each portal that leads out of it, and ahead of each that leads into it
pub held_behind : (polygon : Polygon) (edge : ℕ) (portal : Portal) (p : Point) → IsPortalOut polygon edge portal → Holds polygon p → IsBehind portal p
held_behind polygon edge portal p out holds = left_along _ _ _ _ p out.lies (holds edge out.there)

pub held_ahead : (polygon : Polygon) (portal : Portal) (p : Point) → IsPortalIn polygon portal → Holds polygon p → IsAhead portal p
held_ahead polygon portal p into holds =
    turned (orient_of portal.left portal.right p) (orient_of portal.right portal.left p) (orient_of-turned portal.left portal.right p)
    (left_along _ _ _ _ p into.lies (holds into.edge into.there))
  where
    turned : (a b : ℤ) → b ≡ neg_ℤ a → pos 0 ≤ℤ a → b ≤ℤ pos 0
    turned a b e h = omega (arith, ints)
