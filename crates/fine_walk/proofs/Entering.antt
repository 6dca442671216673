-- A straight way that goes on over a link enters the next polygon: no exit of it has the beginning of the way on its right.
use Rattle.std.proofs.Common.{◌≡◌, ℕ, ◌<◌, ℤ, pos, ◌+ℤ◌, ◌-ℤ◌, ◌*ℤ◌, ◌≤ℤ◌, ◌<ℤ◌, [], ◌∷◌, length, refl, sym, ap, subst, ◌∙◌, arith}
use Rattle.std.specs.Prelude.{Some}
use Rattle.std.proofs.lemmas.Int.{ints}
use Rattle.std.proofs.lemmas.Option.{same_Some}
use lib.IntN.{neg_ℤ, *ℤ_comm, *ℤ-zero}
use Rattle.nav_base.specs.declared.point.Point.{Point}
use Rattle.nav_base.specs.Point.{from_to, dot_of, cross_of, orient_of}
use Rattle.nav_base.proofs.Polynomials.{at, number, opposite, difference, product, equal}
use Rattle.nav_base.proofs.PointTerms.{Place, place, coordinates, from_to_term, dot_term, orient_term}
use Rattle.nav_base.proofs.OrientLaws.{orient_of-apart, orient_of-crossing, dot_of-cross_of}
use Rattle.nav_base.proofs.Signs.{product-not_negative, product-not_positive, factor-not_negative}
use Rattle.mesh_types.specs.declared.links.Link.{Link}
use Rattle.mesh_types.specs.declared.links.PolyRef.{PolyRef}
use Rattle.mesh_types.specs.declared.links.Portal.{Portal}
use Rattle.mesh_types.specs.declared.mesh.Mesh.{Mesh}
use Rattle.mesh_types.specs.declared.polygon.Polygon.{Polygon}
use Rattle.mesh_types.specs.Corridors.{IsLinkOf}
use Rattle.fine_walk.specs.FineRays.{fine_of, fine_side, FineHolds, FineMeets, IsFineExit, IsFineHeld}
use Rattle.mesh_types.specs.Portals.{edge_begin, edge_end, along, LiesAlong, IsPortalOut}
use Rattle.mesh_types.specs.Soundness.{IsSound}
use Rattle.mesh_types.specs.Located.{Holds}
use Rattle.mesh_types.specs.WholeMesh.{poly_at}
use Rattle.mesh_types.proofs.MeshLinks.{leads}
use Rattle.mesh_types.proofs.MeshPolygons.{placed}
use Rattle.mesh_types.proofs.PortalEnds.{HoldsEnds, in_held}
use Rattle.fine_walk.specs.declared.exits.FineRay.{FineRay}
use Rattle.fine_walk.specs.Passing.{IsEntered}

-- ---- turns along a way

along_way : (u v from to : Point) → dot_of (from_to u v) (from_to from to) ≡ along u v to -ℤ along u v from
unfolding dot_of
along_way u v from to =
    let way = from_to_term (place 0) (place 1) in
    equal (coordinates (u ∷ v ∷ from ∷ to ∷ [])) (dot_term way (from_to_term (place 2) (place 3)))
    (difference (dot_term way (from_to_term (place 0) (place 3))) (dot_term way (from_to_term (place 0) (place 2)))) refl

-- a point's turn from a part of a way, and from the way, differ by a factor above 0 on either side
pub same_turn : (u v from to p : Point) → LiesAlong u v from to
    → along u v v *ℤ orient_of from to p ≡ dot_of (from_to u v) (from_to from to) *ℤ orient_of u v p
unfolding orient_of
same_turn u v from to p lies =
    weighed (dot_of way part) (cross_of way (from_to from p)) (along u v v *ℤ cross_of part (from_to from p)) (cross_of way part) (dot_of way (from_to from p))
    (cross_of way (from_to u p)) (dot_of-cross_of way (from_to from p) part) (level _ _ _ lies.ends lies.begins (orient_of-apart u v from to))
    (aside _ _ _ lies.begins (orient_of-apart u v from p))
  where
    way : Point
    way = from_to u v

    part : Point
    part = from_to from to

    level : (a b c : ℤ) → a ≡ pos 0 → b ≡ pos 0 → a -ℤ b ≡ c → c ≡ pos 0
    level a b c e e' h = omega (arith, ints)

    aside : (a b c : ℤ) → b ≡ pos 0 → a -ℤ b ≡ c → c ≡ a
    aside a b c e h = omega (arith, ints)

    none : (o d : ℤ) → o ≡ pos 0 → o *ℤ d ≡ pos 0
    none o d e = ap (λ (n : ℤ). n *ℤ d) e ∙ *ℤ_comm (pos 0) d ∙ *ℤ-zero d

    drop : (a b c : ℤ) → a ≡ b +ℤ c → c ≡ pos 0 → b ≡ a
    drop a b c e z = omega (arith, ints)

    weighed : (d c a o e t : ℤ) → d *ℤ c ≡ a +ℤ o *ℤ e → o ≡ pos 0 → c ≡ t → a ≡ d *ℤ t
    weighed d c a o e t h z is = drop (d *ℤ c) a (o *ℤ e) h (none o e z) ∙ ap (λ (n : ℤ). d *ℤ n) is

-- both factors are above 0
module _ (u v from to : Point) (lies : LiesAlong u v from to) where
  pub long : pos 0 <ℤ along u v v
  long = above (along u v from) (along u v to) (along u v v) lies.after lies.forward lies.before
    where
      above : (a b c : ℤ) → pos 0 ≤ℤ a → a <ℤ b → b ≤ℤ c → pos 0 <ℤ c
      above a b c h k m = omega (arith, ints)

  forward : pos 0 <ℤ dot_of (from_to u v) (from_to from to)
  forward = above (along u v from) (along u v to) _ (along_way u v from to) lies.forward
    where
      above : (a b c : ℤ) → c ≡ b -ℤ a → a <ℤ b → pos 0 <ℤ c
      above a b c e h = omega (arith, ints)

-- ---- portals, in fine points

fine_place : Place → Place
fine_place p = record { x = product (number (pos 16)) p.x; z = product (number (pos 16)) p.z }

orient_of-fine : (a b c : Point) → orient_of (fine_of a) (fine_of b) (fine_of c) ≡ pos 256 *ℤ orient_of a b c
unfolding cross_of orient_of fine_place
orient_of-fine a b c =
    equal (coordinates (a ∷ b ∷ c ∷ [])) (orient_term (fine_place (place 0)) (fine_place (place 1)) (fine_place (place 2)))
    (product (number (pos 256)) (orient_term (place 0) (place 1) (place 2))) refl

along-fine : (u v p : Point) → along (fine_of u) (fine_of v) (fine_of p) ≡ pos 256 *ℤ along u v p
unfolding dot_of fine_place
along-fine u v p =
    equal (coordinates (u ∷ v ∷ p ∷ [])) (dot_term (from_to_term (fine_place (place 0)) (fine_place (place 1))) (from_to_term (fine_place (place 0)) (fine_place (place 2))))
    (product (number (pos 256)) (dot_term (from_to_term (place 0) (place 1)) (from_to_term (place 0) (place 2)))) refl

-- a portal lies on an edge in fine points too
pub record IsFineOut (polygon : Polygon) (edge : ℕ) (portal : Portal) : Type 0 where
  pub there : edge < length polygon.corners
  pub lies : LiesAlong (fine_of (edge_begin polygon edge)) (fine_of (edge_end polygon edge)) (fine_of portal.right) (fine_of portal.left)

pub fine_out : (polygon : Polygon) (edge : ℕ) (portal : Portal) → IsPortalOut polygon edge portal → IsFineOut polygon edge portal
fine_out polygon edge portal out = record {
  there = out.there;
  lies = record {
    begins = orient_of-fine u v portal.right ∙ level _ out.lies.begins;
    ends = orient_of-fine u v portal.left ∙ level _ out.lies.ends;
    after = not_below _ _ (along-fine u v portal.right) out.lies.after;
    forward = farther _ _ _ _ (along-fine u v portal.right) (along-fine u v portal.left) out.lies.forward;
    before = no_farther _ _ _ _ (along-fine u v portal.left) (along-fine u v v) out.lies.before;
  };
}
  where
    u : Point
    u = edge_begin polygon edge

    v : Point
    v = edge_end polygon edge

    level : (a : ℤ) → a ≡ pos 0 → pos 256 *ℤ a ≡ pos 0
    level a e = omega (arith, ints)

    not_below : (n a : ℤ) → n ≡ pos 256 *ℤ a → pos 0 ≤ℤ a → pos 0 ≤ℤ n
    not_below n a e h = omega (arith, ints)

    farther : (m n a b : ℤ) → m ≡ pos 256 *ℤ a → n ≡ pos 256 *ℤ b → a <ℤ b → m <ℤ n
    farther m n a b e f h = omega (arith, ints)

    no_farther : (m n a b : ℤ) → m ≡ pos 256 *ℤ a → n ≡ pos 256 *ℤ b → a ≤ℤ b → m ≤ℤ n
    no_farther m n a b e f h = omega (arith, ints)

-- and a polygon that holds its ends holds them
pub record HoldsFineEnds (polygon : Polygon) (portal : Portal) : Type 0 where
  pub left : FineHolds polygon (fine_of portal.left)
  pub right : FineHolds polygon (fine_of portal.right)

fine_held : (polygon : Polygon) (p : Point) → Holds polygon p → FineHolds polygon (fine_of p)
fine_held polygon p holds edge there =
    not_below _ _ (orient_of-fine (edge_begin polygon edge) (edge_end polygon edge) p) (holds edge there)
  where
    not_below : (n a : ℤ) → n ≡ pos 256 *ℤ a → pos 0 ≤ℤ a → pos 0 ≤ℤ n
    not_below n a e h = omega (arith, ints)

pub fine_ends : (polygon : Polygon) (portal : Portal) → HoldsEnds polygon portal → HoldsFineEnds polygon portal
fine_ends polygon portal ends = record { left = fine_held polygon portal.left ends.left; right = fine_held polygon portal.right ends.right }

-- ---- the next polygon

-- over an edge, and through a portal of it that a ray meets: the turns of the edge and of any edge of the next polygon
pub joined : (polygon next : Polygon) (ray : FineRay) (edge other : ℕ) (portal : Portal) → IsFineOut polygon edge portal → HoldsFineEnds next portal → FineMeets ray.from ray.to portal
    → other < length next.corners
    → pos 0 ≤ℤ (fine_side polygon edge ray.from *ℤ fine_side next other ray.to -ℤ fine_side polygon edge ray.to *ℤ fine_side next other ray.from)
joined polygon next ray edge other portal out held meets there =
    factor-not_negative w _ (forward u v right left out.lies)
    (subst (λ (n : ℤ). pos 0 ≤ℤ n) (scaled (along u v v) w (orient_of right left ray.from) (orient_of right left ray.to) (fine_side polygon edge ray.from)
    (fine_side polygon edge ray.to) (fine_side next other ray.from) (fine_side next other ray.to) (same_turn u v right left ray.from out.lies)
    (same_turn u v right left ray.to out.lies))
    (product-not_negative (along u v v) (orient_of right left ray.from *ℤ fine_side next other ray.to -ℤ orient_of right left ray.to *ℤ fine_side next other ray.from)
    (weak _ (long u v right left out.lies))
    (apart _ _ _ (orient_of-crossing (fine_of (edge_begin next other)) (fine_of (edge_end next other)) ray.from ray.to right left)
    (product-not_negative (orient_of ray.from ray.to left) (fine_side next other right) meets.left (held.right other there))
    (subst (λ (k : ℤ). k ≤ℤ pos 0) (*ℤ_comm (fine_side next other left) (orient_of ray.from ray.to right))
    (product-not_positive (fine_side next other left) (orient_of ray.from ray.to right) (held.left other there) meets.right)))))
  where
    u : Point
    u = fine_of (edge_begin polygon edge)

    v : Point
    v = fine_of (edge_end polygon edge)

    left : Point
    left = fine_of portal.left

    right : Point
    right = fine_of portal.right

    w : ℤ
    w = dot_of (from_to u v) (from_to right left)

    weak : (k : ℤ) → pos 0 <ℤ k → pos 0 ≤ℤ k
    weak k h = omega (arith, ints)

    apart : (p q x : ℤ) → p -ℤ q ≡ x → pos 0 ≤ℤ p → q ≤ℤ pos 0 → pos 0 ≤ℤ x
    apart p q x h hp hq = omega (arith, ints)

    -- the two factors pass from the portal's turns to the edge's
    scaled : (k w a' b' a b m n : ℤ) → k *ℤ a' ≡ w *ℤ a → k *ℤ b' ≡ w *ℤ b → k *ℤ (a' *ℤ n -ℤ b' *ℤ m) ≡ w *ℤ (a *ℤ n -ℤ b *ℤ m)
    scaled k w a' b' a b m n e f = spread k a' b' m n ∙ (λ i. e i *ℤ n -ℤ f i *ℤ m) ∙ sym (spread w a b m n)
      where
        spread : (k a b m n : ℤ) → k *ℤ (a *ℤ n -ℤ b *ℤ m) ≡ (k *ℤ a) *ℤ n -ℤ (k *ℤ b) *ℤ m
        spread k a b m n =
            equal (k ∷ a ∷ b ∷ m ∷ n ∷ []) (product (at 0) (difference (product (at 1) (at 4)) (product (at 2) (at 3))))
            (difference (product (product (at 0) (at 1)) (at 4)) (product (product (at 0) (at 2)) (at 3))) refl

-- so over an exit the next polygon is entered
enters : (polygon next : Polygon) (ray : FineRay) (edge : ℕ) (portal : Portal) → IsEntered polygon ray → IsFineExit polygon ray.to edge
    → IsFineOut polygon edge portal → HoldsFineEnds next portal → FineMeets ray.from ray.to portal → IsEntered next ray
enters polygon next ray edge portal entered exit out held meets other is =
    not_right (fine_side polygon edge ray.from) (fine_side polygon edge ray.to) (fine_side next other ray.from) (fine_side next other ray.to)
    (joined polygon next ray edge other portal out held meets is.there) (entered edge exit) exit.beyond is.beyond
  where
    turned : (k : ℤ) → k <ℤ pos 0 → pos 0 <ℤ neg_ℤ k
    turned k h = omega (arith, ints)

    weak : (k : ℤ) → k <ℤ pos 0 → k ≤ℤ pos 0
    weak k h = omega (arith, ints)

    opposed : (k j : ℤ) → neg_ℤ k *ℤ j ≡ neg_ℤ (k *ℤ j)
    opposed k j = equal (k ∷ j ∷ []) (product (opposite (at 0)) (at 1)) (opposite (product (at 0) (at 1))) refl

    above : (x y z : ℤ) → z ≡ neg_ℤ y → pos 0 ≤ℤ (x -ℤ y) → x ≤ℤ pos 0 → pos 0 ≤ℤ z
    above x y z e h k = omega (arith, ints)

    not_right : (a b m n : ℤ) → pos 0 ≤ℤ (a *ℤ n -ℤ b *ℤ m) → pos 0 ≤ℤ a → b <ℤ pos 0 → n <ℤ pos 0 → pos 0 ≤ℤ m
    not_right a b m n h ha hb hn =
        factor-not_negative (neg_ℤ b) m (turned b hb) (above _ _ _ (opposed b m) h (product-not_positive a n ha (weak n hn)))

-- the polygon of a reference is entered
pub record IsEnteredAt (mesh : Mesh) (ray : FineRay) (at : PolyRef) : Type 0 where
  pub polygon : Polygon
  pub there : poly_at mesh at ≡ Some polygon
  pub entered : IsEntered polygon ray

-- by a polygon that holds the beginning of the ray
pub begun : (mesh : Mesh) (ray : FineRay) (at : PolyRef) → IsFineHeld mesh ray.from at → IsEnteredAt mesh ray at
begun mesh ray first held = record { polygon = held.polygon; there = held.there; entered = λ edge exit. held.holds edge exit.there }

-- a link's portal, on the edge that it leaves over and between the ends that the polygon entered holds
pub record IsFineLink (mesh : Mesh) (polygon : Polygon) (link : Link) : Type 0 where
  pub out : IsFineOut polygon link.edge link.portal
  pub enters : Polygon
  pub is_entered : poly_at mesh link.to ≡ Some enters
  pub into : HoldsFineEnds enters link.portal

pub fine_link : (mesh : Mesh) (link : Link) (polygon : Polygon) → IsSound mesh → IsLinkOf mesh link → poly_at mesh link.from ≡ Some polygon
    → IsFineLink mesh polygon link
fine_link mesh link polygon sound listed there =
    let lead = leads mesh link sound listed in
    let same : lead.leaves ≡ polygon = same_Some lead.leaves polygon (sym lead.is_left ∙ there) in
    record {
      out = fine_out polygon link.edge link.portal (subst (λ (p : Polygon). IsPortalOut p link.edge link.portal) same lead.out);
      enters = lead.enters;
      is_entered = lead.is_entered;
      into = fine_ends lead.enters link.portal (in_held lead.enters link.portal (placed mesh link.to lead.enters sound lead.is_entered).rules.convex lead.into);
    }

-- and over a link from one to the next
pub next_entered : (mesh : Mesh) (ray : FineRay) (link : Link) (polygon : Polygon) → IsSound mesh → IsLinkOf mesh link → poly_at mesh link.from ≡ Some polygon
    → IsEntered polygon ray → IsFineExit polygon ray.to link.edge → FineMeets ray.from ray.to link.portal → IsEnteredAt mesh ray link.to
next_entered mesh ray link polygon sound listed there entered exit meets =
    let fine = fine_link mesh link polygon sound listed there in
    record {
      polygon = fine.enters;
      there = fine.is_entered;
      entered = enters polygon fine.enters ray link.edge link.portal entered exit fine.out fine.into meets;
    }
