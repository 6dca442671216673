-- Two portals out of a polygon of which the one, turned, folds with the other lie on one edge and have a common inner point.
use Rattle.std.proofs.Common.{◌≡◌, ℕ, ◌<◌, ℤ, pos, ◌+ℤ◌, ◌-ℤ◌, ◌*ℤ◌, ◌≤ℤ◌, ◌<ℤ◌, ◌⊎◌, List, [], ◌∷◌, length, refl, ap, sym, subst, ◌∙◌, arith, inl, inr}
use Rattle.std.proofs.lemmas.Bool.{cases_eq}
use Rattle.std.proofs.lemmas.Int.{ints}
use lib.IntN.{neg_ℤ, *ℤ_comm, *ℤ-zero}
use Rattle.nav_base.specs.declared.point.Point.{Point}
use Rattle.nav_base.specs.Point.{from_to, dot_of, cross_of, orient_of}
use Rattle.nav_base.specs.Convex.{IsStrictlyConvex, corner_at, place_after, side_of_edge}
use Rattle.nav_base.proofs.Polynomials.{difference, equal, opposite}
use Rattle.nav_base.proofs.PointTerms.{place, coordinates, from_to_term, dot_term}
use Rattle.nav_base.proofs.OrientLaws.{orient_of-apart, orient_of-between, cross_of-exchanged, dot_of-cross_of, dot_of-product, dot_of-exchanged}
use Rattle.nav_base.proofs.ConvexLaws.{IsStrictlyConvex-sides, place_after-apart, place_after-in, place_after-twice}
use Rattle.nav_base.proofs.Signs.{factor-not_negative, factor-positive, factor-zero, product-not_negative, product-positive}
use Rattle.mesh_types.specs.declared.polygon.Polygon.{Polygon}
use Rattle.mesh_types.specs.declared.links.Portal.{Portal}
use Rattle.mesh_types.specs.Chains.{IsFold}
use Rattle.mesh_types.specs.Portals.{IsPortalOut, LiesAlong, along, edge_begin, edge_end}
use Rattle.mesh_types.proofs.HeldPoints.{orient_of-scaled}

-- a portal, seen from the other side
abbrev pub turned : Portal → Portal
turned portal = record { left = portal.right; right = portal.left }

-- two portals out of a polygon over one edge have a common inner point: each begins before the other ends
pub record Overlap (polygon : Polygon) (edge : ℕ) (a b : Portal) : Type 0 where
  pub first : IsPortalOut polygon edge a
  pub second : IsPortalOut polygon edge b
  pub before : along (edge_begin polygon edge) (edge_end polygon edge) b.right <ℤ along (edge_begin polygon edge) (edge_end polygon edge) a.left
  pub after : along (edge_begin polygon edge) (edge_end polygon edge) a.right <ℤ along (edge_begin polygon edge) (edge_end polygon edge) b.left

-- ---- ways along a way

-- the way between two points, along another
way_between : (u v from to : Point) → dot_of (from_to u v) (from_to from to) ≡ along u v to -ℤ along u v from
unfolding dot_of
way_between u v from to =
    let way = from_to_term (place 0) (place 1) in
    equal (coordinates (u ∷ v ∷ from ∷ to ∷ [])) (dot_term way (from_to_term (place 2) (place 3)))
    (difference (dot_term way (from_to_term (place 0) (place 3))) (dot_term way (from_to_term (place 0) (place 2)))) refl

none : (o d : ℤ) → o ≡ pos 0 → o *ℤ d ≡ pos 0
none o d e = ap (λ (n : ℤ). n *ℤ d) e ∙ *ℤ_comm (pos 0) d ∙ *ℤ-zero d

-- a way along another has a length, and so has the other
module _ (u v from to : Point) (lies : LiesAlong u v from to) where
  pub long : pos 0 <ℤ along u v v
  long = far (along u v from) (along u v to) (along u v v) lies.after lies.forward lies.before
    where
      far : (a b c : ℤ) → pos 0 ≤ℤ a → a <ℤ b → b ≤ℤ c → pos 0 <ℤ c
      far a b c g h k = omega (arith, ints)

  pub forth : pos 0 <ℤ dot_of (from_to u v) (from_to from to)
  forth = ahead (along u v from) (along u v to) _ lies.forward (way_between u v from to)
    where
      ahead : (a b c : ℤ) → a <ℤ b → c ≡ b -ℤ a → pos 0 <ℤ c
      ahead a b c h e = omega (arith, ints)

  -- both run in one direction
  pub straight : cross_of (from_to u v) (from_to from to) ≡ pos 0
  straight = level (orient_of u v to) (orient_of u v from) _ lies.ends lies.begins (orient_of-apart u v from to)
    where
      level : (a b c : ℤ) → a ≡ pos 0 → b ≡ pos 0 → a -ℤ b ≡ c → c ≡ pos 0
      level a b c e e' h = omega (arith, ints)

  -- so a point lies on the same side of both
  pub sides_alike : (p : Point) → dot_of (from_to u v) (from_to from to) *ℤ orient_of u v p ≡ along u v v *ℤ orient_of from to p
  unfolding orient_of
  sides_alike p =
      alike (dot_of (from_to u v) (from_to from to)) (cross_of (from_to u v) (from_to from p)) (orient_of u v p)
      (along u v v *ℤ orient_of from to p) (cross_of (from_to u v) (from_to from to)) (dot_of (from_to u v) (from_to from p))
      (dot_of-cross_of (from_to u v) (from_to from p) (from_to from to)) straight
      (aside (orient_of u v p) (orient_of u v from) _ lies.begins (orient_of-apart u v from p))
    where
      aside : (a b c : ℤ) → b ≡ pos 0 → a -ℤ b ≡ c → c ≡ a
      aside a b c e e' = omega (arith, ints)

      drop_none : (a b c : ℤ) → a ≡ b +ℤ c → c ≡ pos 0 → a ≡ b
      drop_none a b c e z = omega (arith, ints)

      alike : (d c c' a o e : ℤ) → d *ℤ c ≡ a +ℤ o *ℤ e → o ≡ pos 0 → c ≡ c' → d *ℤ c' ≡ a
      alike d c c' a o e h z same = ap (λ (n : ℤ). d *ℤ n) (sym same) ∙ drop_none (d *ℤ c) a (o *ℤ e) h (none o e z)

  pub on_both : (p : Point) → orient_of from to p ≡ pos 0 → orient_of u v p ≡ pos 0
  on_both p on =
      factor-zero (dot_of (from_to u v) (from_to from to)) (orient_of u v p) forth
      (sides_alike p ∙ *ℤ_comm (along u v v) (orient_of from to p) ∙ none (orient_of from to p) (along u v v) on)

  pub left_of_both : (p : Point) → pos 0 <ℤ orient_of u v p → pos 0 <ℤ orient_of from to p
  left_of_both p left =
      factor-positive (along u v v) (orient_of from to p) long
      (subst (λ (n : ℤ). pos 0 <ℤ n) (sides_alike p) (product-positive _ _ forth left))

  pub not_right_of_both : (p : Point) → pos 0 ≤ℤ orient_of u v p → pos 0 ≤ℤ orient_of from to p
  not_right_of_both p side =
      factor-not_negative (along u v v) (orient_of from to p) long
      (subst (λ (n : ℤ). pos 0 ≤ℤ n) (sides_alike p) (product-not_negative _ _ (at_least (dot_of (from_to u v) (from_to from to)) forth) side))
    where
      at_least : (a : ℤ) → pos 0 <ℤ a → pos 0 ≤ℤ a
      at_least a h = omega (arith, ints)

  -- two points in an order along the one are in that order along the other
  pub order_alike : (p q : Point) → dot_of (from_to p q) (from_to from to) *ℤ along u v v
      ≡ dot_of (from_to u v) (from_to p q) *ℤ dot_of (from_to u v) (from_to from to)
  order_alike p q =
      alike (dot_of (from_to p q) (from_to from to) *ℤ along u v v) (dot_of (from_to p q) (from_to u v)) (dot_of (from_to u v) (from_to p q))
      (dot_of (from_to from to) (from_to u v)) (dot_of (from_to u v) (from_to from to))
      (cross_of (from_to p q) (from_to u v)) (cross_of (from_to from to) (from_to u v))
      (dot_of-product (from_to p q) (from_to u v) (from_to from to)) (dot_of-exchanged (from_to u v) (from_to p q)) (dot_of-exchanged (from_to u v) (from_to from to)) turned_straight
    where
      turned_straight : cross_of (from_to from to) (from_to u v) ≡ pos 0
      turned_straight = opposite_none (cross_of (from_to u v) (from_to from to)) _ straight (cross_of-exchanged (from_to u v) (from_to from to))
        where
          opposite_none : (a b : ℤ) → a ≡ pos 0 → b ≡ neg_ℤ a → b ≡ pos 0
          opposite_none a b e h = omega (arith, ints)

      sum_none : (a b c : ℤ) → a ≡ b +ℤ c → c ≡ pos 0 → a ≡ b
      sum_none a b c e z = omega (arith, ints)

      alike : (a d d' f f' c o : ℤ) → a ≡ d *ℤ f +ℤ c *ℤ o → d ≡ d' → f ≡ f' → o ≡ pos 0 → a ≡ d' *ℤ f'
      alike a d d' f f' c o h same same' z =
          sum_none a (d *ℤ f) (c *ℤ o) h (*ℤ_comm c o ∙ none o c z) ∙ ap (λ (n : ℤ). n *ℤ f) same ∙ ap (λ (n : ℤ). d' *ℤ n) same'

  pub order_kept : (p q : Point) → pos 0 <ℤ dot_of (from_to p q) (from_to from to) → along u v p <ℤ along u v q
  order_kept p q ahead =
      rise (along u v p) (along u v q) _ (way_between u v p q)
      (factor-positive (dot_of (from_to u v) (from_to from to)) (dot_of (from_to u v) (from_to p q)) forth
      (subst (λ (n : ℤ). pos 0 <ℤ n) (order_alike p q ∙ *ℤ_comm (dot_of (from_to u v) (from_to p q)) (dot_of (from_to u v) (from_to from to)))
      (product-positive _ _ ahead long)))
    where
      rise : (a b d : ℤ) → d ≡ b -ℤ a → pos 0 <ℤ d → a <ℤ b
      rise a b d e h = omega (arith, ints)

-- ---- one edge

-- a corner on the line of an edge begins or ends it
on_line : (corners : List Point) (edge k : ℕ) → IsStrictlyConvex corners → edge < length corners → k < length corners → side_of_edge corners edge k ≡ pos 0
    → (k ≡ edge) ⊎ (k ≡ place_after (length corners) edge)
on_line corners edge k convex there there' on =
    elim (cases_eq k edge) [
      | inl begins ↦ inl begins
      | inr apart ↦ elim (cases_eq k (place_after (length corners) edge)) [
        | inl ends ↦ inr ends
        | inr other ↦ absurd (both (side_of_edge corners edge k) on (convex.left edge there k there' apart other))
      ]
    ]
  where
    both : (a : ℤ) → a ≡ pos 0 → pos 0 <ℤ a → ⊥
    both a e h = omega (arith, ints)

-- so an edge whose two corners lie on the line of another is that one
one_edge : (corners : List Point) (edge other : ℕ) → IsStrictlyConvex corners → edge < length corners → other < length corners
    → side_of_edge corners edge other ≡ pos 0 → side_of_edge corners edge (place_after (length corners) other) ≡ pos 0 → other ≡ edge
one_edge corners edge other convex there there' begins ends =
    let n : ℕ = length corners in
    elim (on_line corners edge other convex there there' begins) [
      | inl same ↦ same
      | inr next ↦ elim (on_line corners edge (place_after n other) convex there (place_after-in n other there') ends) [
        | inl back ↦ absurd (place_after-twice n edge convex.enough there (ap (place_after n) (sym next) ∙ back))
        | inr on ↦ absurd (place_after-apart n other (omega (arith, convex.enough)) (on ∙ sym next))
      ]
    ]

-- where both ends of a way along an edge lie on the line of another, so do the edge's corners
module _ (polygon : Polygon) (edge other : ℕ) (convex : IsStrictlyConvex polygon.corners) (there : edge < length polygon.corners) (there' : other < length polygon.corners) where
  abbrev corner : ℕ → Point
  corner = edge_begin polygon

  abbrev side : Point → ℤ
  side p = orient_of (edge_begin polygon edge) (edge_end polygon edge) p

  side_is : (k : ℕ) → side (corner k) ≡ pos 256 *ℤ side_of_edge polygon.corners edge k
  side_is k =
      orient_of-scaled (corner_at polygon.corners edge) (corner_at polygon.corners (place_after (length polygon.corners) edge)) (corner_at polygon.corners k)

  not_right : (k : ℕ) → k < length polygon.corners → pos 0 ≤ℤ side (corner k)
  not_right k inside =
      subst (λ (m : ℤ). pos 0 ≤ℤ m) (sym (side_is k))
      (product-not_negative (pos 256) _ (omega (arith, ints)) (IsStrictlyConvex-sides polygon.corners convex edge there k inside))

  on_edge : (k : ℕ) → side (corner k) ≡ pos 0 → side_of_edge polygon.corners edge k ≡ pos 0
  on_edge k on = factor-zero (pos 256) (side_of_edge polygon.corners edge k) (omega (arith, ints)) (sym (side_is k) ∙ on)

  same_edge : (from to : Point) → LiesAlong (edge_begin polygon other) (edge_end polygon other) from to → side from ≡ pos 0 → side to ≡ pos 0 → other ≡ edge
  same_edge from to lies on on' =
      one_edge polygon.corners edge other convex there there'
      (on_edge other (none_beside (along u v from) (side v) (dot_of (from_to u v) (from_to from v)) (side u) lies.after (not_right next next-in)
      (left_over (along u v from) (along u v to) (along u v v) _ lies.forward lies.before (way_between u v from v)) (not_right other there') (weighed from lies.begins on)))
      (on_edge next (none_beside (dot_of (from_to u v) (from_to to v)) (side u) (along u v to) (side v)
      (rest_over (along u v to) (along u v v) _ lies.before (way_between u v to v)) (not_right other there')
      (some_over (along u v from) (along u v to) lies.after lies.forward) (not_right next next-in)
      (exchanged (along u v to *ℤ side v) (dot_of (from_to u v) (from_to to v) *ℤ side u) (weighed to lies.ends on'))))
    where
      next : ℕ
      next = place_after (length polygon.corners) other

      next-in : next < length polygon.corners
      next-in = place_after-in (length polygon.corners) other there'

      u : Point
      u = edge_begin polygon other

      v : Point
      v = edge_end polygon other

      -- the side of a point on the way from u to v, from those of u and v
      weighed : (p : Point) → orient_of u v p ≡ pos 0 → side p ≡ pos 0 → along u v p *ℤ side v +ℤ dot_of (from_to u v) (from_to p v) *ℤ side u ≡ pos 0
      weighed p line on =
          sum_none (along u v v *ℤ side p) (along u v p *ℤ side v) (dot_of (from_to u v) (from_to p v) *ℤ side u)
          (orient_of u v p *ℤ dot_of (from_to (edge_begin polygon edge) (edge_end polygon edge)) (from_to u v))
          (orient_of-between (edge_begin polygon edge) (edge_end polygon edge) u v p) (*ℤ_comm (along u v v) (side p) ∙ none (side p) (along u v v) on) (none _ _ line)
        where
          sum_none : (a b c d : ℤ) → a ≡ b +ℤ c +ℤ d → a ≡ pos 0 → d ≡ pos 0 → b +ℤ c ≡ pos 0
          sum_none a b c d e z z' = omega (arith, ints)

      exchanged : (a b : ℤ) → a +ℤ b ≡ pos 0 → b +ℤ a ≡ pos 0
      exchanged a b e = omega (arith, ints)

      left_over : (a b c d : ℤ) → a <ℤ b → b ≤ℤ c → d ≡ c -ℤ a → pos 0 <ℤ d
      left_over a b c d h k e = omega (arith, ints)

      rest_over : (a b d : ℤ) → a ≤ℤ b → d ≡ b -ℤ a → pos 0 ≤ℤ d
      rest_over a b d h e = omega (arith, ints)

      some_over : (a b : ℤ) → pos 0 ≤ℤ a → a <ℤ b → pos 0 <ℤ b
      some_over a b h k = omega (arith, ints)

      -- of two products that are not negative and make 0 together the second is 0
      none_beside : (a x b y : ℤ) → pos 0 ≤ℤ a → pos 0 ≤ℤ x → pos 0 <ℤ b → pos 0 ≤ℤ y → a *ℤ x +ℤ b *ℤ y ≡ pos 0 → y ≡ pos 0
      none_beside a x b y ha hx hb hy e =
          factor-zero b y hb (second (a *ℤ x) (b *ℤ y) (product-not_negative a x ha hx) (product-not_negative b y (weaker b hb) hy) e)
        where
          weaker : (c : ℤ) → pos 0 <ℤ c → pos 0 ≤ℤ c
          weaker c h = omega (arith, ints)

          second : (m n : ℤ) → pos 0 ≤ℤ m → pos 0 ≤ℤ n → m +ℤ n ≡ pos 0 → n ≡ pos 0
          second m n h k z = omega (arith, ints)

-- ---- folds

-- a way turned, in a scalar product
dot_back : (p q from to : Point) → dot_of (from_to p q) (from_to to from) ≡ neg_ℤ (dot_of (from_to p q) (from_to from to))
unfolding dot_of
dot_back p q from to =
    let way = from_to_term (place 0) (place 1) in
    equal (coordinates (p ∷ q ∷ from ∷ to ∷ [])) (dot_term way (from_to_term (place 3) (place 2))) (opposite (dot_term way (from_to_term (place 2) (place 3)))) refl

dot_turned : (p q from to : Point) → dot_of (from_to q p) (from_to from to) ≡ neg_ℤ (dot_of (from_to p q) (from_to from to))
unfolding dot_of
dot_turned p q from to =
    let way = from_to_term (place 2) (place 3) in
    equal (coordinates (p ∷ q ∷ from ∷ to ∷ [])) (dot_term (from_to_term (place 1) (place 0)) way) (opposite (dot_term (from_to_term (place 0) (place 1)) way)) refl

positive : (a b : ℤ) → b <ℤ pos 0 → a ≡ neg_ℤ b → pos 0 <ℤ a
positive a b h e = omega (arith, ints)

-- a portal that folds with another has a common inner point with the other, turned
overlap : (polygon : Polygon) (edge : ℕ) (a b : Portal) → IsPortalOut polygon edge (turned a) → IsPortalOut polygon edge b → IsFold a b → Overlap polygon edge (turned a) b
overlap polygon edge a b out out' fold = record {
  first = out;
  second = out';
  before = order_kept u v a.left a.right out.lies b.right a.right (positive _ _ fold.right_inside (dot_turned a.right b.right a.left a.right));
  after = order_kept u v a.left a.right out.lies a.left b.left (positive _ _ fold.left_inside (dot_back a.left b.left a.right a.left));
}
  where
    u : Point
    u = edge_begin polygon edge

    v : Point
    v = edge_end polygon edge

-- two portals that fold, of which the one leads into a polygon and the other out of it, are on one edge and have a common inner point
pub fold_on_edge : (polygon : Polygon) (edge edge' : ℕ) (a b : Portal) → IsStrictlyConvex polygon.corners → IsPortalOut polygon edge (turned a)
    → IsPortalOut polygon edge' b → IsFold a b → (edge ≡ edge') × Overlap polygon edge' (turned a) b
fold_on_edge polygon edge edge' a b convex out out' fold =
    let u : Point = edge_begin polygon edge in
    let v : Point = edge_end polygon edge in
    let same : edge' ≡ edge =
    same_edge polygon edge edge' convex out.there out'.there b.right b.left out'.lies
    (on_both u v a.left a.right out.lies b.right fold.right_on_line) (on_both u v a.left a.right out.lies b.left fold.left_on_line) in
    (sym same, overlap polygon edge' a b (subst (λ (k : ℕ). IsPortalOut polygon k (turned a)) (sym same) out) out' fold)
