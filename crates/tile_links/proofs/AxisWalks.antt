-- Walks along an axis: the points of a way between two points on one line, in sixteenths.
use Rattle.std.proofs.Common.{◌≡◌, ℤ, pos, ◌≤ℤ◌, ◌<ℤ◌, ◌+ℤ◌, ◌-ℤ◌, ◌*ℤ◌, [], ◌∷◌, sym, refl, subst, arith}
use Rattle.std.proofs.lemmas.Int.{ints}
use Rattle.nav_base.specs.Point.{dot_of, cross_of, orient_of}
use Rattle.nav_base.proofs.Polynomials.{at, number, sum, difference, product, equal}
use Rattle.nav_base.proofs.Signs.{product-not_negative, product-positive}
use Rattle.mesh_types.specs.BorderLinks.{scaled}
use Rattle.mesh_types.specs.Portals.{LiesAlong, along}

-- along one axis: from u to v, first r and then l
pub record Rises (u v r l : ℤ) : Type 0 where
  pub begins : u ≤ℤ r
  pub forward : r <ℤ l
  pub ends : l ≤ℤ v

-- three facts of products that a way along an axis needs
record IsOnTheWay (u v r l : ℤ) : Type 0 where
  after : pos 0 ≤ℤ ((v -ℤ u) *ℤ (r -ℤ u))
  forward : ((v -ℤ u) *ℤ (r -ℤ u)) <ℤ ((v -ℤ u) *ℤ (l -ℤ u))
  before : ((v -ℤ u) *ℤ (l -ℤ u)) ≤ℤ ((v -ℤ u) *ℤ (v -ℤ u))

-- (v - u) (y - u) is (v - u) (x - u) and (v - u) (y - x)
pub split : (u v x y : ℤ) → (v -ℤ u) *ℤ (y -ℤ u) ≡ (v -ℤ u) *ℤ (x -ℤ u) +ℤ (v -ℤ u) *ℤ (y -ℤ x)
split u v x y =
    equal (u ∷ v ∷ x ∷ y ∷ []) (product (difference (at 1) (at 0)) (difference (at 3) (at 0)))
    (sum (product (difference (at 1) (at 0)) (difference (at 2) (at 0))) (product (difference (at 1) (at 0)) (difference (at 3) (at 2)))) refl

-- (v - u) (y - x) is (u - v) (x - y)
pub turned : (u v x y : ℤ) → (v -ℤ u) *ℤ (y -ℤ x) ≡ (u -ℤ v) *ℤ (x -ℤ y)
turned u v x y =
    equal (u ∷ v ∷ x ∷ y ∷ []) (product (difference (at 1) (at 0)) (difference (at 3) (at 2)))
    (product (difference (at 0) (at 1)) (difference (at 2) (at 3))) refl

more : (a b c : ℤ) → c ≡ a +ℤ b → pos 0 <ℤ b → a <ℤ c
more a b c is some = omega (arith, ints)

no_less : (a b c : ℤ) → c ≡ a +ℤ b → pos 0 ≤ℤ b → a ≤ℤ c
no_less a b c is some = omega (arith, ints)

-- a way up an axis
rising : (u v r l : ℤ) → Rises u v r l → IsOnTheWay u v r l
rising u v r l up = record {
  after = product-not_negative (v -ℤ u) (r -ℤ u) (omega (arith, ints, up.begins, up.forward, up.ends)) (omega (arith, ints, up.begins));
  forward = more _ ((v -ℤ u) *ℤ (l -ℤ r)) _ (split u v r l)
      (product-positive (v -ℤ u) (l -ℤ r) (omega (arith, ints, up.begins, up.forward, up.ends)) (omega (arith, ints, up.forward)));
  before = no_less _ ((v -ℤ u) *ℤ (v -ℤ l)) _ (split u v l v)
      (product-not_negative (v -ℤ u) (v -ℤ l) (omega (arith, ints, up.begins, up.forward, up.ends)) (omega (arith, ints, up.ends)));
}

-- a way down an axis: from v down to u, first l and then r
falling : (u v r l : ℤ) → Rises v u l r → IsOnTheWay u v r l
falling u v r l up = record {
  after = subst (λ (n : ℤ). pos 0 ≤ℤ n) (sym (turned u v u r))
      (product-not_negative (u -ℤ v) (u -ℤ r) (omega (arith, ints, up.begins, up.forward, up.ends)) (omega (arith, ints, up.ends)));
  forward = more _ ((v -ℤ u) *ℤ (l -ℤ r)) _ (split u v r l)
      (subst (λ (n : ℤ). pos 0 <ℤ n) (sym (turned u v r l))
      (product-positive (u -ℤ v) (r -ℤ l) (omega (arith, ints, up.begins, up.forward, up.ends)) (omega (arith, ints, up.forward))));
  before = no_less _ ((v -ℤ u) *ℤ (v -ℤ l)) _ (split u v l v)
      (subst (λ (n : ℤ). pos 0 ≤ℤ n) (sym (turned u v l v))
      (product-not_negative (u -ℤ v) (l -ℤ v) (omega (arith, ints, up.begins, up.forward, up.ends)) (omega (arith, ints, up.begins))));
}

-- the products of a way along z, at one x
dot_z : (x u v p : ℤ) → along (record { x = x; z = u }) (record { x = x; z = v }) (record { x = x; z = p }) ≡ (v -ℤ u) *ℤ (p -ℤ u)
unfolding dot_of
dot_z x u v p =
    equal (x ∷ u ∷ v ∷ p ∷ [])
    (sum (product (difference (at 0) (at 0)) (difference (at 0) (at 0))) (product (difference (at 2) (at 1)) (difference (at 3) (at 1))))
    (product (difference (at 2) (at 1)) (difference (at 3) (at 1))) refl

orient_z : (x u v p : ℤ) → orient_of (record { x = x; z = u }) (record { x = x; z = v }) (record { x = x; z = p }) ≡ pos 0
unfolding orient_of cross_of
orient_z x u v p =
    equal (x ∷ u ∷ v ∷ p ∷ [])
    (difference (product (difference (at 0) (at 0)) (difference (at 3) (at 1))) (product (difference (at 2) (at 1)) (difference (at 0) (at 0))))
    (number (pos 0)) refl

dot_x : (z u v p : ℤ) → along (record { x = u; z = z }) (record { x = v; z = z }) (record { x = p; z = z }) ≡ (v -ℤ u) *ℤ (p -ℤ u)
unfolding dot_of
dot_x z u v p =
    equal (z ∷ u ∷ v ∷ p ∷ [])
    (sum (product (difference (at 2) (at 1)) (difference (at 3) (at 1))) (product (difference (at 0) (at 0)) (difference (at 0) (at 0))))
    (product (difference (at 2) (at 1)) (difference (at 3) (at 1))) refl

orient_x : (z u v p : ℤ) → orient_of (record { x = u; z = z }) (record { x = v; z = z }) (record { x = p; z = z }) ≡ pos 0
unfolding orient_of cross_of
orient_x z u v p =
    equal (z ∷ u ∷ v ∷ p ∷ [])
    (difference (product (difference (at 2) (at 1)) (difference (at 0) (at 0))) (product (difference (at 0) (at 0)) (difference (at 3) (at 1))))
    (number (pos 0)) refl

lies_z : (x u v r l : ℤ) → IsOnTheWay u v r l
    → LiesAlong (record { x = x; z = u }) (record { x = x; z = v }) (record { x = x; z = r }) (record { x = x; z = l })
lies_z x u v r l way = record {
  begins = orient_z x u v r;
  ends = orient_z x u v l;
  after = subst (λ (n : ℤ). pos 0 ≤ℤ n) (sym (dot_z x u v r)) way.after;
  forward = subst (λ (n : ℤ). n <ℤ along (record { x = x; z = u }) (record { x = x; z = v }) (record { x = x; z = l })) (sym (dot_z x u v r))
      (subst (λ (n : ℤ). ((v -ℤ u) *ℤ (r -ℤ u)) <ℤ n) (sym (dot_z x u v l)) way.forward);
  before = subst (λ (n : ℤ). n ≤ℤ along (record { x = x; z = u }) (record { x = x; z = v }) (record { x = x; z = v })) (sym (dot_z x u v l))
      (subst (λ (n : ℤ). ((v -ℤ u) *ℤ (l -ℤ u)) ≤ℤ n) (sym (dot_z x u v v)) way.before);
}

lies_x : (z u v r l : ℤ) → IsOnTheWay u v r l
    → LiesAlong (record { x = u; z = z }) (record { x = v; z = z }) (record { x = r; z = z }) (record { x = l; z = z })
lies_x z u v r l way = record {
  begins = orient_x z u v r;
  ends = orient_x z u v l;
  after = subst (λ (n : ℤ). pos 0 ≤ℤ n) (sym (dot_x z u v r)) way.after;
  forward = subst (λ (n : ℤ). n <ℤ along (record { x = u; z = z }) (record { x = v; z = z }) (record { x = l; z = z })) (sym (dot_x z u v r))
      (subst (λ (n : ℤ). ((v -ℤ u) *ℤ (r -ℤ u)) <ℤ n) (sym (dot_x z u v l)) way.forward);
  before = subst (λ (n : ℤ). n ≤ℤ along (record { x = u; z = z }) (record { x = v; z = z }) (record { x = v; z = z })) (sym (dot_x z u v l))
      (subst (λ (n : ℤ). ((v -ℤ u) *ℤ (l -ℤ u)) ≤ℤ n) (sym (dot_x z u v v)) way.before);
}

-- sixteen times as far
scaled_rise : (u v r l : ℤ) → Rises u v r l → Rises (pos 16 *ℤ u) (pos 16 *ℤ v) (pos 16 *ℤ r) (pos 16 *ℤ l)
scaled_rise u v r l up = record {
  begins = omega (arith, ints, up.begins);
  forward = omega (arith, ints, up.forward);
  ends = omega (arith, ints, up.ends);
}

-- an edge along z or x, up or down, and two points of it in whole cells
pub up_z : (x u v r l : ℤ) → Rises u v r l → LiesAlong (scaled x u) (scaled x v) (scaled x r) (scaled x l)
up_z x u v r l up = lies_z (pos 16 *ℤ x) _ _ _ _ (rising _ _ _ _ (scaled_rise u v r l up))

pub down_z : (x u v r l : ℤ) → Rises v u l r → LiesAlong (scaled x u) (scaled x v) (scaled x r) (scaled x l)
down_z x u v r l down = lies_z (pos 16 *ℤ x) _ _ _ _ (falling _ _ _ _ (scaled_rise v u l r down))

pub up_x : (z u v r l : ℤ) → Rises u v r l → LiesAlong (scaled u z) (scaled v z) (scaled r z) (scaled l z)
up_x z u v r l up = lies_x (pos 16 *ℤ z) _ _ _ _ (rising _ _ _ _ (scaled_rise u v r l up))

pub down_x : (z u v r l : ℤ) → Rises v u l r → LiesAlong (scaled u z) (scaled v z) (scaled r z) (scaled l z)
down_x z u v r l down = lies_x (pos 16 *ℤ z) _ _ _ _ (falling _ _ _ _ (scaled_rise v u l r down))
