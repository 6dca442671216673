-- Rectangles along the axes, and ways along their edges.
use Rattle.std.proofs.Common.{◌≡◌, ℕ, ◌*◌, ◌<◌, ◌≤◌, ℤ, pos, ◌≤ℤ◌, ◌<ℤ◌, ◌+ℤ◌, ◌-ℤ◌, ◌*ℤ◌, List, [], ◌∷◌, sym, refl, subst, arith, zero, suc}
use Rattle.std.proofs.lemmas.Int.{ints}
use Rattle.nav_base.specs.declared.point.Point.{Point}
use Rattle.nav_base.specs.Point.{orient_of, cross_of, dot_of}
use Rattle.nav_base.specs.Convex.{IsStrictlyConvex, LiesLeft}
use Rattle.nav_base.proofs.Polynomials.{Term, at, number, sum, difference, product, equal}
use Rattle.nav_base.proofs.PointTerms.{Place, orient_term, dot_term, from_to_term}
use Rattle.nav_base.proofs.Signs.{product-not_negative, product-positive}
use Rattle.mesh_types.specs.Portals.{LiesAlong, along}
use Rattle.mesh_types.specs.StripPolygons.{sixteenths}

abbrev pub point : ℤ → ℤ → Point
point x z = record { x = x; z = z }

-- the corners of a rectangle, as terms over its sides x, X, z, Z
abbrev pub q₀ : Place
q₀ = record { x = at 0; z = at 2 }

abbrev pub q₁ : Place
q₁ = record { x = at 1; z = at 2 }

abbrev pub q₂ : Place
q₂ = record { x = at 1; z = at 3 }

abbrev pub q₃ : Place
q₃ = record { x = at 0; z = at 3 }

abbrev area : Term
area = product (difference (at 1) (at 0)) (difference (at 3) (at 2))

pub positive_difference : (a b : ℤ) → a <ℤ b → pos 0 <ℤ (b -ℤ a)
positive_difference a b h = omega (arith, ints)

pub not_negative_difference : (a b : ℤ) → a ≤ℤ b → pos 0 ≤ℤ (b -ℤ a)
not_negative_difference a b h = omega (arith, ints)

-- a rectangle listed counterclockwise is strictly convex
pub rectangle_convex : (x X z Z : ℤ) → x <ℤ X → z <ℤ Z → IsStrictlyConvex (point x z ∷ point X z ∷ point X Z ∷ point x Z ∷ [])
unfolding cross_of dot_of orient_of
rectangle_convex x X z Z wide deep = record { enough = omega arith; left = each }
  where
    corners : List Point
    corners = point x z ∷ point X z ∷ point X Z ∷ point x Z ∷ []

    sides : List ℤ
    sides = x ∷ X ∷ z ∷ Z ∷ []

    some : pos 0 <ℤ ((X -ℤ x) *ℤ (Z -ℤ z))
    some = product-positive (X -ℤ x) (Z -ℤ z) (positive_difference x X wide) (positive_difference z Z deep)

    left : (n : ℤ) → n ≡ (X -ℤ x) *ℤ (Z -ℤ z) → pos 0 <ℤ n
    left n is = subst (λ (m : ℤ). pos 0 <ℤ m) (sym is) some

    each : (i : ℕ) → i < 4 → (j : ℕ) → j < 4 → LiesLeft corners i j
    each zero i-in zero j-in ne after = absurd (ne refl)
    each zero i-in (suc zero) j-in ne after = absurd (after refl)
    each zero i-in (suc (suc zero)) j-in ne after = left _ (equal sides (orient_term q₀ q₁ q₂) area refl)
    each zero i-in (suc (suc (suc zero))) j-in ne after = left _ (equal sides (orient_term q₀ q₁ q₃) area refl)
    each zero i-in (suc (suc (suc (suc j)))) j-in ne after = absurd (omega arith)
    each (suc zero) i-in zero j-in ne after = left _ (equal sides (orient_term q₁ q₂ q₀) area refl)
    each (suc zero) i-in (suc zero) j-in ne after = absurd (ne refl)
    each (suc zero) i-in (suc (suc zero)) j-in ne after = absurd (after refl)
    each (suc zero) i-in (suc (suc (suc zero))) j-in ne after = left _ (equal sides (orient_term q₁ q₂ q₃) area refl)
    each (suc zero) i-in (suc (suc (suc (suc j)))) j-in ne after = absurd (omega arith)
    each (suc (suc zero)) i-in zero j-in ne after = left _ (equal sides (orient_term q₂ q₃ q₀) area refl)
    each (suc (suc zero)) i-in (suc zero) j-in ne after = left _ (equal sides (orient_term q₂ q₃ q₁) area refl)
    each (suc (suc zero)) i-in (suc (suc zero)) j-in ne after = absurd (ne refl)
    each (suc (suc zero)) i-in (suc (suc (suc zero))) j-in ne after = absurd (after refl)
    each (suc (suc zero)) i-in (suc (suc (suc (suc j)))) j-in ne after = absurd (omega arith)
    each (suc (suc (suc zero))) i-in zero j-in ne after = absurd (after refl)
    each (suc (suc (suc zero))) i-in (suc zero) j-in ne after = left _ (equal sides (orient_term q₃ q₀ q₁) area refl)
    each (suc (suc (suc zero))) i-in (suc (suc zero)) j-in ne after = left _ (equal sides (orient_term q₃ q₀ q₂) area refl)
    each (suc (suc (suc zero))) i-in (suc (suc (suc zero))) j-in ne after = absurd (ne refl)
    each (suc (suc (suc zero))) i-in (suc (suc (suc (suc j)))) j-in ne after = absurd (omega arith)
    each (suc (suc (suc (suc i)))) i-in j j-in ne after = absurd (omega arith)

-- numbers that lie between two others, one before the other, as products
record AreOrdered (u v f t : ℤ) : Type 0 where
  after : pos 0 ≤ℤ ((v -ℤ u) *ℤ (f -ℤ u))
  forward : ((v -ℤ u) *ℤ (f -ℤ u)) <ℤ ((v -ℤ u) *ℤ (t -ℤ u))
  before : ((v -ℤ u) *ℤ (t -ℤ u)) ≤ℤ ((v -ℤ u) *ℤ (v -ℤ u))

more : (a b c : ℤ) → b ≡ a +ℤ c → pos 0 <ℤ c → a <ℤ b
more a b c e h = omega (arith, ints)

no_less : (a b c : ℤ) → b ≡ a +ℤ c → pos 0 ≤ℤ c → a ≤ℤ b
no_less a b c e h = omega (arith, ints)

between : (a b c : ℤ) → a ≤ℤ b → b <ℤ c → a <ℤ c
between a b c h k = omega (arith, ints)

before_that : (a b c : ℤ) → a <ℤ b → b ≤ℤ c → a <ℤ c
before_that a b c h k = omega (arith, ints)

less_or_equal : (a b : ℤ) → a <ℤ b → a ≤ℤ b
less_or_equal a b h = omega (arith, ints)

rising : (u v f t : ℤ) → u ≤ℤ f → f <ℤ t → t ≤ℤ v → AreOrdered u v f t
rising u v f t low up high =
    let all : List ℤ = u ∷ v ∷ f ∷ t ∷ [] in
    let far : pos 0 <ℤ (v -ℤ u) = positive_difference u v (before_that u t v (between u f t low up) high) in
    let far' : pos 0 ≤ℤ (v -ℤ u) = less_or_equal (pos 0) (v -ℤ u) far in
    record {
      after = product-not_negative (v -ℤ u) (f -ℤ u) far' (not_negative_difference u f low);
      forward = more ((v -ℤ u) *ℤ (f -ℤ u)) ((v -ℤ u) *ℤ (t -ℤ u)) ((v -ℤ u) *ℤ (t -ℤ f))
          (equal all (product (difference (at 1) (at 0)) (difference (at 3) (at 0)))
          (sum (product (difference (at 1) (at 0)) (difference (at 2) (at 0))) (product (difference (at 1) (at 0)) (difference (at 3) (at 2)))) refl)
          (product-positive (v -ℤ u) (t -ℤ f) far (positive_difference f t up));
      before = no_less ((v -ℤ u) *ℤ (t -ℤ u)) ((v -ℤ u) *ℤ (v -ℤ u)) ((v -ℤ u) *ℤ (v -ℤ t))
          (equal all (product (difference (at 1) (at 0)) (difference (at 1) (at 0)))
          (sum (product (difference (at 1) (at 0)) (difference (at 3) (at 0))) (product (difference (at 1) (at 0)) (difference (at 1) (at 3)))) refl)
          (product-not_negative (v -ℤ u) (v -ℤ t) far' (not_negative_difference t v high));
    }

falling : (u v f t : ℤ) → v ≤ℤ t → t <ℤ f → f ≤ℤ u → AreOrdered u v f t
falling u v f t low down high =
    let all : List ℤ = u ∷ v ∷ f ∷ t ∷ [] in
    let far : pos 0 <ℤ (u -ℤ v) = positive_difference v u (before_that v f u (between v t f low down) high) in
    let far' : pos 0 ≤ℤ (u -ℤ v) = less_or_equal (pos 0) (u -ℤ v) far in
    record {
      after = subst (λ (n : ℤ). pos 0 ≤ℤ n)
          (equal all (product (difference (at 0) (at 1)) (difference (at 0) (at 2))) (product (difference (at 1) (at 0)) (difference (at 2) (at 0))) refl)
          (product-not_negative (u -ℤ v) (u -ℤ f) far' (not_negative_difference f u high));
      forward = more ((v -ℤ u) *ℤ (f -ℤ u)) ((v -ℤ u) *ℤ (t -ℤ u)) ((u -ℤ v) *ℤ (f -ℤ t))
          (equal all (product (difference (at 1) (at 0)) (difference (at 3) (at 0)))
          (sum (product (difference (at 1) (at 0)) (difference (at 2) (at 0))) (product (difference (at 0) (at 1)) (difference (at 2) (at 3)))) refl)
          (product-positive (u -ℤ v) (f -ℤ t) far (positive_difference t f down));
      before = no_less ((v -ℤ u) *ℤ (t -ℤ u)) ((v -ℤ u) *ℤ (v -ℤ u)) ((u -ℤ v) *ℤ (t -ℤ v))
          (equal all (product (difference (at 1) (at 0)) (difference (at 1) (at 0)))
          (sum (product (difference (at 1) (at 0)) (difference (at 3) (at 0))) (product (difference (at 0) (at 1)) (difference (at 3) (at 1)))) refl)
          (product-not_negative (u -ℤ v) (t -ℤ v) far' (not_negative_difference v t low));
    }

-- the points of a way along x
abbrev x₀ : Place
x₀ = record { x = at 0; z = at 4 }

abbrev x₁ : Place
x₁ = record { x = at 1; z = at 4 }

abbrev x₂ : Place
x₂ = record { x = at 2; z = at 4 }

abbrev x₃ : Place
x₃ = record { x = at 3; z = at 4 }

way_x : (z u v f t : ℤ) → AreOrdered u v f t → LiesAlong (point u z) (point v z) (point f z) (point t z)
unfolding cross_of dot_of orient_of
way_x z u v f t ordered =
    let all : List ℤ = u ∷ v ∷ f ∷ t ∷ z ∷ [] in
    let from = equal all (product (difference (at 1) (at 0)) (difference (at 2) (at 0))) (dot_term (from_to_term x₀ x₁) (from_to_term x₀ x₂)) refl in
    let to = equal all (product (difference (at 1) (at 0)) (difference (at 3) (at 0))) (dot_term (from_to_term x₀ x₁) (from_to_term x₀ x₃)) refl in
    let end = equal all (product (difference (at 1) (at 0)) (difference (at 1) (at 0))) (dot_term (from_to_term x₀ x₁) (from_to_term x₀ x₁)) refl in
    record {
      begins = equal all (orient_term x₀ x₁ x₂) (number (pos 0)) refl;
      ends = equal all (orient_term x₀ x₁ x₃) (number (pos 0)) refl;
      after = subst (λ (n : ℤ). pos 0 ≤ℤ n) from ordered.after;
      forward = subst (λ (n : ℤ). along (point u z) (point v z) (point f z) <ℤ n) to (subst (λ (n : ℤ). n <ℤ ((v -ℤ u) *ℤ (t -ℤ u))) from ordered.forward);
      before = subst (λ (n : ℤ). along (point u z) (point v z) (point t z) ≤ℤ n) end (subst (λ (n : ℤ). n ≤ℤ ((v -ℤ u) *ℤ (v -ℤ u))) to ordered.before);
    }

-- the points of a way along z
abbrev z₀ : Place
z₀ = record { x = at 4; z = at 0 }

abbrev z₁ : Place
z₁ = record { x = at 4; z = at 1 }

abbrev z₂ : Place
z₂ = record { x = at 4; z = at 2 }

abbrev z₃ : Place
z₃ = record { x = at 4; z = at 3 }

way_z : (x u v f t : ℤ) → AreOrdered u v f t → LiesAlong (point x u) (point x v) (point x f) (point x t)
unfolding cross_of dot_of orient_of
way_z x u v f t ordered =
    let all : List ℤ = u ∷ v ∷ f ∷ t ∷ x ∷ [] in
    let from = equal all (product (difference (at 1) (at 0)) (difference (at 2) (at 0))) (dot_term (from_to_term z₀ z₁) (from_to_term z₀ z₂)) refl in
    let to = equal all (product (difference (at 1) (at 0)) (difference (at 3) (at 0))) (dot_term (from_to_term z₀ z₁) (from_to_term z₀ z₃)) refl in
    let end = equal all (product (difference (at 1) (at 0)) (difference (at 1) (at 0))) (dot_term (from_to_term z₀ z₁) (from_to_term z₀ z₁)) refl in
    record {
      begins = equal all (orient_term z₀ z₁ z₂) (number (pos 0)) refl;
      ends = equal all (orient_term z₀ z₁ z₃) (number (pos 0)) refl;
      after = subst (λ (n : ℤ). pos 0 ≤ℤ n) from ordered.after;
      forward = subst (λ (n : ℤ). along (point x u) (point x v) (point x f) <ℤ n) to (subst (λ (n : ℤ). n <ℤ ((v -ℤ u) *ℤ (t -ℤ u))) from ordered.forward);
      before = subst (λ (n : ℤ). along (point x u) (point x v) (point x t) ≤ℤ n) end (subst (λ (n : ℤ). n ≤ℤ ((v -ℤ u) *ℤ (v -ℤ u))) to ordered.before);
    }

pub sixteen_le : (a b : ℕ) → a ≤ b → pos (16 * a) ≤ℤ pos (16 * b)
sixteen_le a b h = omega (arith, ints)

pub sixteen_lt : (a b : ℕ) → a < b → pos (16 * a) <ℤ pos (16 * b)
sixteen_lt a b h = omega (arith, ints)

-- ways toward x + 1, z + 1, x - 1 and z - 1, in whole cells
pub toward_right : (z u v f t : ℕ) → u ≤ f → f < t → t ≤ v → LiesAlong (sixteenths u z) (sixteenths v z) (sixteenths f z) (sixteenths t z)
toward_right z u v f t low up high =
    way_x (pos (16 * z)) _ _ _ _ (rising (pos (16 * u)) (pos (16 * v)) (pos (16 * f)) (pos (16 * t)) (sixteen_le u f low) (sixteen_lt f t up) (sixteen_le t v high))

pub toward_top : (x u v f t : ℕ) → u ≤ f → f < t → t ≤ v → LiesAlong (sixteenths x u) (sixteenths x v) (sixteenths x f) (sixteenths x t)
toward_top x u v f t low up high =
    way_z (pos (16 * x)) _ _ _ _ (rising (pos (16 * u)) (pos (16 * v)) (pos (16 * f)) (pos (16 * t)) (sixteen_le u f low) (sixteen_lt f t up) (sixteen_le t v high))

pub toward_left : (z u v f t : ℕ) → v ≤ t → t < f → f ≤ u → LiesAlong (sixteenths u z) (sixteenths v z) (sixteenths f z) (sixteenths t z)
toward_left z u v f t low down high =
    way_x (pos (16 * z)) _ _ _ _ (falling (pos (16 * u)) (pos (16 * v)) (pos (16 * f)) (pos (16 * t)) (sixteen_le v t low) (sixteen_lt t f down) (sixteen_le f u high))

pub toward_bottom : (x u v f t : ℕ) → v ≤ t → t < f → f ≤ u → LiesAlong (sixteenths x u) (sixteenths x v) (sixteenths x f) (sixteenths x t)
toward_bottom x u v f t low down high =
    way_z (pos (16 * x)) _ _ _ _ (falling (pos (16 * u)) (pos (16 * v)) (pos (16 * f)) (pos (16 * t)) (sixteen_le v t low) (sixteen_lt t f down) (sixteen_le f u high))
