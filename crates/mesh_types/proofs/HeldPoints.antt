-- A point that a polygon holds obeys each half plane that the polygon's corners obey.
use Rattle.std.proofs.Common.{◌≡◌, ℕ, zero, suc, ◌-◌, ◌≤◌, ◌<◌, ℤ, pos, negsuc, ◌+ℤ◌, ◌-ℤ◌, ◌*ℤ◌, ◌≤ℤ◌, ◌<ℤ◌, [], ◌∷◌, length, refl, sym, subst, ◌∙◌, inl, inr, arith}
use Rattle.std.specs.Prelude.{All}
use Rattle.std.proofs.lemmas.Int.{ints, by_lt_z}
use Rattle.std.proofs.lemmas.Bool.{cases_eq}
use Rattle.std.proofs.lemmas.Bool.Decides.{nat_tests}
use lib.IntN.{neg_ℤ, *ℤ_comm}
use Rattle.nav_base.specs.declared.point.Point.{Point}
use Rattle.nav_base.specs.Point.{HasCoordinates, from_to, dot_of, cross_of, orient_of}
use Rattle.nav_base.specs.Convex.{IsStrictlyConvex, corner_at, place_after}
use Rattle.nav_base.proofs.Polynomials.{number, opposite, sum, difference, product, equal}
use Rattle.nav_base.proofs.PointTerms.{Place, place, coordinates, from_to_term, dot_term, orient_term}
use Rattle.nav_base.proofs.OrientLaws.{orient_of-rotated, orient_of-exchanged, dot_of-fan}
use Rattle.nav_base.proofs.Signs.{product-not_negative, product-positive, factor-not_negative, factor-positive}
use Rattle.nav_ground.specs.declared.cell.Window.{Window}
use Rattle.mesh_types.specs.declared.polygon.Polygon.{Polygon}
use Rattle.mesh_types.specs.BorderLinks.{scaled}
use Rattle.mesh_types.specs.FitTiles.{IsPolygon, IsInSquare}
use Rattle.mesh_types.specs.Portals.{edge_begin}
use Rattle.mesh_types.specs.Located.{Holds}

-- ---- sixteenths

scaled_place : Place → Place
scaled_place p = record { x = product (number (pos 16)) p.x; z = product (number (pos 16)) p.z }

-- a turn of cell corners, seen in sixteenths
pub orient_of-scaled : (a b c : Point) → orient_of (scaled a.x a.z) (scaled b.x b.z) (scaled c.x c.z) ≡ pos 256 *ℤ orient_of a b c
unfolding cross_of dot_of orient_of scaled_place
orient_of-scaled a b c =
    equal (coordinates (a ∷ b ∷ c ∷ [])) (orient_term (scaled_place (place 0)) (scaled_place (place 1)) (scaled_place (place 2)))
    (product (number (pos 256)) (orient_term (place 0) (place 1) (place 2))) refl

-- ---- a walk round a point

-- n points, 3 at least, one after the other and back to the first: seen from q no step turns to the right, and the first two turn to the left
pub record GoesRound (at : ℕ → Point) (n : ℕ) (q : Point) : Type 0 where
  pub enough : 3 ≤ n
  pub steps : (k : ℕ) → suc k < n → pos 0 ≤ℤ orient_of (at k) (at (suc k)) q
  pub closes : pos 0 ≤ℤ orient_of (at (n - 1)) (at 0) q
  pub bends : pos 0 <ℤ orient_of (at 0) (at 1) (at 2)

-- a turn seen from q, and from its begin
from_q : (a b q : Point) → pos 0 ≤ℤ orient_of a b q → pos 0 ≤ℤ orient_of q a b
from_q a b q h = subst (λ (n : ℤ). pos 0 ≤ℤ n) (orient_of-rotated q a b) h

-- a triangle, seen from q
triangle : (a b c q : Point) → orient_of a b c ≡ orient_of q a b +ℤ orient_of q b c -ℤ orient_of q a c
unfolding cross_of dot_of orient_of
triangle a b c q =
    equal (coordinates (a ∷ b ∷ c ∷ q ∷ [])) (orient_term (place 0) (place 1) (place 2))
    (difference (sum (orient_term (place 3) (place 0) (place 1)) (orient_term (place 3) (place 1) (place 2))) (orient_term (place 3) (place 0) (place 2))) refl

-- a number is positive where its product with a positive one is
positive : (c l x : ℤ) → c *ℤ l ≡ x → pos 0 <ℤ l → pos 0 <ℤ x → pos 0 <ℤ c
positive c l x e some more =
    factor-positive l c some (subst (λ (n : ℤ). pos 0 <ℤ n) (sym e ∙ *ℤ_comm c l) more)

-- a weighted sum of which one part is positive
sum_of_parts : (a b m n : ℤ) → pos 0 ≤ℤ a → pos 0 <ℤ b → pos 0 <ℤ m → pos 0 <ℤ n → pos 0 <ℤ (a *ℤ m +ℤ b *ℤ n)
sum_of_parts a b m n ha hb hm hn =
    more (a *ℤ m) (b *ℤ n) (product-not_negative a m ha (weak m hm)) (product-positive b n hb hn)
  where
    weak : (x : ℤ) → pos 0 <ℤ x → pos 0 ≤ℤ x
    weak x h = omega (arith, ints)

    more : (x y : ℤ) → pos 0 ≤ℤ x → pos 0 <ℤ y → pos 0 <ℤ (x +ℤ y)
    more x y h k = omega (arith, ints)

-- the third point lies to the left of the first, where the first two steps turn
first_turn : (c01 c12 c02 w l0 l1 l2 : ℤ) → c02 *ℤ l1 ≡ c12 *ℤ l0 +ℤ c01 *ℤ l2 → w ≡ c01 +ℤ c12 -ℤ c02 → pos 0 <ℤ w
    → pos 0 ≤ℤ c01 → pos 0 ≤ℤ c12 → pos 0 <ℤ l0 → pos 0 <ℤ l1 → pos 0 <ℤ l2 → pos 0 <ℤ c02
first_turn c01 c12 c02 w l0 l1 l2 e parts some h01 h12 h0 h1 h2 =
    by_lt_z (pos 0) c01 (λ more. positive c02 l1 _ e h1 (sum_of_parts c12 c01 l0 l2 h12 more h0 h2))
    (λ none. by_lt_z (pos 0) c12
    (λ more. positive c02 l1 _ (e ∙ turned (c12 *ℤ l0) (c01 *ℤ l2)) h1 (sum_of_parts c01 c12 l2 l0 h01 more h2 h0))
    (λ none'. absurd (still c01 c12 c02 w not_less parts some none none')))
  where
    turned : (x y : ℤ) → x +ℤ y ≡ y +ℤ x
    turned x y = omega (arith, ints)

    weak : (x : ℤ) → pos 0 <ℤ x → pos 0 ≤ℤ x
    weak x h = omega (arith, ints)

    added : (x y : ℤ) → pos 0 ≤ℤ x → pos 0 ≤ℤ y → pos 0 ≤ℤ (x +ℤ y)
    added x y h k = omega (arith, ints)

    not_less : pos 0 ≤ℤ c02
    not_less =
        factor-not_negative l1 c02 h1 (subst (λ (n : ℤ). pos 0 ≤ℤ n) (sym e ∙ *ℤ_comm c02 l1)
        (added (c12 *ℤ l0) (c01 *ℤ l2) (product-not_negative c12 l0 h12 (weak l0 h0)) (product-not_negative c01 l2 h01 (weak l2 h2))))

    still : (a b c d : ℤ) → pos 0 ≤ℤ c → d ≡ a +ℤ b -ℤ c → pos 0 <ℤ d → a ≤ℤ pos 0 → b ≤ℤ pos 0 → ⊥
    still a b c d least e some ha hb = omega (arith, ints)

-- seen from q all later points lie to the left of the first, where all lie ahead of q
left_of_first : (v : Point) (at : ℕ → Point) (n : ℕ) (q : Point) → GoesRound at n q
    → ((k : ℕ) → k < n → pos 0 <ℤ dot_of v (from_to q (at k))) → (k : ℕ) → 2 ≤ k → k < n → pos 0 <ℤ orient_of q (at 0) (at k)
left_of_first v at n q round ahead zero two there = absurd (omega (arith, two))
left_of_first v at n q round ahead (suc k) two there =
    elim (cases_eq k 1) [
      | inl one ↦ subst (λ (m : ℕ). pos 0 <ℤ orient_of q (at 0) (at (suc m))) (sym one) third
      | inr other ↦
          positive (orient_of q (at 0) (at (suc k))) (dot_of v (from_to q (at k))) _ (dot_of-fan v q (at 0) (at (suc k)) (at k)) (ahead k (omega (arith, there)))
          (sum_of_parts (orient_of q (at k) (at (suc k))) (orient_of q (at 0) (at k)) (dot_of v (from_to q (at 0))) (dot_of v (from_to q (at (suc k))))
          (from_q (at k) (at (suc k)) q (round.steps k there))
          (left_of_first v at n q round ahead k (omega (arith, two, other)) (omega (arith, there)))
          (ahead 0 (omega (arith, there))) (ahead (suc k) there))
    ]
  where
    third : pos 0 <ℤ orient_of q (at 0) (at 2)
    third =
        first_turn (orient_of q (at 0) (at 1)) (orient_of q (at 1) (at 2)) (orient_of q (at 0) (at 2)) (orient_of (at 0) (at 1) (at 2))
        (dot_of v (from_to q (at 0))) (dot_of v (from_to q (at 1))) (dot_of v (from_to q (at 2)))
        (dot_of-fan v q (at 0) (at 2) (at 1)) (triangle (at 0) (at 1) (at 2) q) round.bends
        (from_q (at 0) (at 1) q (round.steps 0 (omega (arith, round.enough)))) (from_q (at 1) (at 2) q (round.steps 1 (omega (arith, round.enough))))
        (ahead 0 (omega (arith, round.enough))) (ahead 1 (omega (arith, round.enough))) (ahead 2 (omega (arith, round.enough)))

-- but then the walk does not come back
not_ahead : (v : Point) (at : ℕ → Point) (n : ℕ) (q : Point) → GoesRound at n q
    → ((k : ℕ) → k < n → pos 0 <ℤ dot_of v (from_to q (at k))) → ⊥
not_ahead v at n q round ahead =
    apart (orient_of q (at 0) (at (n - 1))) (orient_of q (at (n - 1)) (at 0)) (orient_of-exchanged q (at 0) (at (n - 1)))
    (left_of_first v at n q round ahead (n - 1) (omega (arith, round.enough)) (omega (arith, round.enough)))
    (from_q (at (n - 1)) (at 0) q round.closes)
  where
    apart : (a b : ℤ) → b ≡ neg_ℤ a → pos 0 <ℤ a → pos 0 ≤ℤ b → ⊥
    apart a b e h k = omega (arith, ints)

-- ---- held points

scaled_up : (c x : ℤ) → c ≤ℤ x → (pos 16 *ℤ c) ≤ℤ (pos 16 *ℤ x)
scaled_up c x h = omega (arith, ints)

scaled_down : (x c : ℤ) → x ≤ℤ c → neg_ℤ (pos 16 *ℤ c) ≤ℤ neg_ℤ (pos 16 *ℤ x)
scaled_down x c h = omega (arith, ints)

turned : (x c : ℤ) → neg_ℤ c ≤ℤ neg_ℤ x → x ≤ℤ c
turned x c h = omega (arith, ints)

-- the corners of a polygon go round each point that it holds
pub goes_round : (polygon : Polygon) (q : Point) → IsStrictlyConvex polygon.corners → Holds polygon q → GoesRound (edge_begin polygon) (length polygon.corners) q
goes_round polygon q convex holds = record {
  enough = convex.enough;
  steps = λ k there. subst (λ (m : ℕ). pos 0 ≤ℤ orient_of (edge_begin polygon k) (edge_begin polygon m) q) (next n k there) (holds k (omega (arith, there)));
  closes = subst (λ (m : ℕ). pos 0 ≤ℤ orient_of (edge_begin polygon (n - 1)) (edge_begin polygon m) q) (last n convex.enough)
      (holds (n - 1) (omega (arith, convex.enough)));
  bends = subst (λ (m : ℤ). pos 0 <ℤ m) (sym (orient_of-scaled (corner_at polygon.corners 0) (corner_at polygon.corners 1) (corner_at polygon.corners 2)))
      (product-positive (pos 256) _ (omega (arith, ints)) turn);
}
  where
    n : ℕ
    n = length polygon.corners

    next : (count k : ℕ) → suc k < count → place_after count k ≡ suc k
    next count k there = grind (arith, nat_tests)

    last : (count : ℕ) → 3 ≤ count → place_after count (count - 1) ≡ 0
    last count enough = grind (arith, nat_tests)

    turn : pos 0 <ℤ orient_of (corner_at polygon.corners 0) (corner_at polygon.corners 1) (corner_at polygon.corners 2)
    turn =
        subst (λ (m : ℕ). pos 0 <ℤ orient_of (corner_at polygon.corners 0) (corner_at polygon.corners m) (corner_at polygon.corners 2))
        (next n 0 (omega (arith, convex.enough)))
        (convex.left 0 (omega (arith, convex.enough)) 2 (omega (arith, convex.enough)) (omega arith)
        (λ e. omega (arith, e, next n 0 (omega (arith, convex.enough)))))

-- a half plane is the points that lie at least so far along a vector
dot_of-apart : (v p q : Point) → dot_of v (from_to q p) ≡ dot_of v p -ℤ dot_of v q
unfolding cross_of dot_of orient_of
dot_of-apart v p q =
    equal (coordinates (v ∷ p ∷ q ∷ [])) (dot_term (place 0) (from_to_term (place 2) (place 1))) (difference (dot_term (place 0) (place 1)) (dot_term (place 0) (place 2))) refl

-- a held point lies in each half plane in which all corners lie, in sixteenths
pub held_half_plane : (polygon : Polygon) (q v : Point) (c : ℤ) → IsStrictlyConvex polygon.corners → Holds polygon q
    → ((k : ℕ) → k < length polygon.corners → c ≤ℤ dot_of v (edge_begin polygon k)) → c ≤ℤ dot_of v q
held_half_plane polygon q v c convex holds corners =
    by_lt_z (dot_of v q) c
    (λ outside. absurd (not_ahead v (edge_begin polygon) (length polygon.corners) q (goes_round polygon q convex holds)
    (λ k there. beyond (dot_of v (edge_begin polygon k)) (dot_of v q) _ (dot_of-apart v (edge_begin polygon k) q) outside (corners k there))))
    (λ inside. inside)
  where
    beyond : (a b d : ℤ) → d ≡ a -ℤ b → b <ℤ c → c ≤ℤ a → pos 0 <ℤ d
    beyond a b d e h k = omega (arith, ints)

-- ways along the axes
abbrev rightward : Point
rightward = record { x = pos 1; z = pos 0 }

abbrev leftward : Point
leftward = record { x = negsuc 0; z = pos 0 }

abbrev upward : Point
upward = record { x = pos 0; z = pos 1 }

abbrev downward : Point
downward = record { x = pos 0; z = negsuc 0 }

along_rightward : (p : Point) → dot_of rightward p ≡ p.x
unfolding dot_of
along_rightward p = equal (coordinates (p ∷ [])) (sum (product (number (pos 1)) (place 0).x) (product (number (pos 0)) (place 0).z)) (place 0).x refl

along_leftward : (p : Point) → dot_of leftward p ≡ neg_ℤ p.x
unfolding dot_of
along_leftward p =
    equal (coordinates (p ∷ [])) (sum (product (number (negsuc 0)) (place 0).x) (product (number (pos 0)) (place 0).z)) (opposite (place 0).x) refl

along_upward : (p : Point) → dot_of upward p ≡ p.z
unfolding dot_of
along_upward p = equal (coordinates (p ∷ [])) (sum (product (number (pos 0)) (place 0).x) (product (number (pos 1)) (place 0).z)) (place 0).z refl

along_downward : (p : Point) → dot_of downward p ≡ neg_ℤ p.z
unfolding dot_of
along_downward p =
    equal (coordinates (p ∷ [])) (sum (product (number (pos 0)) (place 0).x) (product (number (negsuc 0)) (place 0).z)) (opposite (place 0).z) refl

-- a bound of all corners is one of each held point, on each side of a box; the corners are in cells
pub held_from_x : (polygon : Polygon) (q : Point) (c : ℤ) → IsStrictlyConvex polygon.corners → Holds polygon q
    → All (λ (p : Point). c ≤ℤ p.x) polygon.corners → (pos 16 *ℤ c) ≤ℤ q.x
held_from_x polygon q c convex holds corners =
    subst (λ (n : ℤ). (pos 16 *ℤ c) ≤ℤ n) (along_rightward q)
    (held_half_plane polygon q rightward (pos 16 *ℤ c) convex holds
    (λ k there. subst (λ (n : ℤ). (pos 16 *ℤ c) ≤ℤ n) (sym (along_rightward (edge_begin polygon k))) (scaled_up c (corner_at polygon.corners k).x (corners k _ there))))

pub held_to_x : (polygon : Polygon) (q : Point) (c : ℤ) → IsStrictlyConvex polygon.corners → Holds polygon q
    → All (λ (p : Point). p.x ≤ℤ c) polygon.corners → q.x ≤ℤ (pos 16 *ℤ c)
held_to_x polygon q c convex holds corners =
    turned q.x (pos 16 *ℤ c) (subst (λ (n : ℤ). neg_ℤ (pos 16 *ℤ c) ≤ℤ n) (along_leftward q)
    (held_half_plane polygon q leftward (neg_ℤ (pos 16 *ℤ c)) convex holds
    (λ k there. subst (λ (n : ℤ). neg_ℤ (pos 16 *ℤ c) ≤ℤ n) (sym (along_leftward (edge_begin polygon k))) (scaled_down (corner_at polygon.corners k).x c (corners k _ there)))))

pub held_from_z : (polygon : Polygon) (q : Point) (c : ℤ) → IsStrictlyConvex polygon.corners → Holds polygon q
    → All (λ (p : Point). c ≤ℤ p.z) polygon.corners → (pos 16 *ℤ c) ≤ℤ q.z
held_from_z polygon q c convex holds corners =
    subst (λ (n : ℤ). (pos 16 *ℤ c) ≤ℤ n) (along_upward q)
    (held_half_plane polygon q upward (pos 16 *ℤ c) convex holds
    (λ k there. subst (λ (n : ℤ). (pos 16 *ℤ c) ≤ℤ n) (sym (along_upward (edge_begin polygon k))) (scaled_up c (corner_at polygon.corners k).z (corners k _ there))))

pub held_to_z : (polygon : Polygon) (q : Point) (c : ℤ) → IsStrictlyConvex polygon.corners → Holds polygon q
    → All (λ (p : Point). p.z ≤ℤ c) polygon.corners → q.z ≤ℤ (pos 16 *ℤ c)
held_to_z polygon q c convex holds corners =
    turned q.z (pos 16 *ℤ c) (subst (λ (n : ℤ). neg_ℤ (pos 16 *ℤ c) ≤ℤ n) (along_downward q)
    (held_half_plane polygon q downward (neg_ℤ (pos 16 *ℤ c)) convex holds
    (λ k there. subst (λ (n : ℤ). neg_ℤ (pos 16 *ℤ c) ≤ℤ n) (sym (along_downward (edge_begin polygon k))) (scaled_down (corner_at polygon.corners k).z c (corners k _ there)))))

-- a held point lies in the square in which the corners lie, with its border
pub record IsInScaledSquare (window : Window) (q : Point) : Type 0 where
  pub left : (pos 16 *ℤ window.x0) ≤ℤ q.x
  pub right : q.x ≤ℤ (pos 16 *ℤ (window.x1 +ℤ pos 1))
  pub bottom : (pos 16 *ℤ window.z0) ≤ℤ q.z
  pub top : q.z ≤ℤ (pos 16 *ℤ (window.z1 +ℤ pos 1))

pub held_in_square : (window : Window) (polygon : Polygon) (q : Point) → IsStrictlyConvex polygon.corners → All (IsInSquare window) polygon.corners
    → Holds polygon q → IsInScaledSquare window q
held_in_square window polygon q convex square holds = record {
  left = held_from_x polygon q window.x0 convex holds (λ k d there. (square k d there).left);
  right = held_to_x polygon q (window.x1 +ℤ pos 1) convex holds (λ k d there. (square k d there).right);
  bottom = held_from_z polygon q window.z0 convex holds (λ k d there. (square k d there).bottom);
  top = held_to_z polygon q (window.z1 +ℤ pos 1) convex holds (λ k d there. (square k d there).top);
}

-- so its coordinates are those of the largest field
pub held_coordinates : (polygon : Polygon) (q : Point) → IsPolygon polygon → Holds polygon q → HasCoordinates q
held_coordinates polygon q rules holds = record {
  across = record {
    low = at_least q.x (held_from_x polygon q (pos 0) rules.convex holds (λ k d there. (rules.corners k d there).left));
    high = at_most q.x (held_to_x polygon q (pos 1024) rules.convex holds (λ k d there. (rules.corners k d there).right));
  };
  along = record {
    low = at_least q.z (held_from_z polygon q (pos 0) rules.convex holds (λ k d there. (rules.corners k d there).bottom));
    high = at_most q.z (held_to_z polygon q (pos 1024) rules.convex holds (λ k d there. (rules.corners k d there).top));
  };
}
  where
    at_least : (n : ℤ) → (pos 16 *ℤ pos 0) ≤ℤ n → negsuc 65535 ≤ℤ n
    at_least n h = omega (arith, ints)

    at_most : (n : ℤ) → n ≤ℤ (pos 16 *ℤ pos 1024) → n ≤ℤ pos 65536
    at_most n h = omega (arith, ints)
