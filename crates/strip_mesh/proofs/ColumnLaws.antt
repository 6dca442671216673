-- The rectangle of a strip holds the columns of its cells, and no others.
use Rattle.std.proofs.Common.{◌≡◌, ℕ, zero, suc, ◌+◌, ◌-◌, ◌*◌, ◌<◌, ◌≤◌, ℤ, pos, ◌≤ℤ◌, ◌<ℤ◌, ◌-ℤ◌, ◌*ℤ◌, List, [], ◌∷◌, length, get_or, ◌∙◌, sym, refl, subst, arith}
use Rattle.std.proofs.lemmas.Int.{ints}
use Rattle.std.proofs.lemmas.List.{get_or_default}
use Rattle.nav_base.specs.declared.point.Point.{Point}
use Rattle.nav_base.specs.Point.{orient_of, cross_of, dot_of}
use Rattle.nav_base.proofs.Polynomials.{at, difference, product, equal}
use Rattle.nav_base.proofs.PointTerms.{Place, orient_term}
use Rattle.nav_base.proofs.Signs.{product-not_negative, factor-not_negative}
use Rattle.nav_ground.specs.declared.cell.Cell.{Cell}
use Rattle.mesh_types.specs.Located.{Holds}
use Rattle.mesh_types.specs.StripCover.{IsInColumn, HoldsColumn, HoldsColumnsOf}
use Rattle.mesh_types.specs.StripPolygons.{some_cell, sixteenths, first_of, strip_polygon}
use Rattle.strip_mesh.proofs.Rectangles.{point, q₀, q₁, q₂, q₃, not_negative_difference, positive_difference, sixteen_lt}
use Rattle.strip_mesh.proofs.RowLaws.{IsRow}

-- a point beside a rectangle's sides x, X, z, Z, and the point as a term
abbrev numbers : ℤ → ℤ → ℤ → ℤ → Point → List ℤ
numbers x X z Z p = x ∷ X ∷ z ∷ Z ∷ p.x ∷ p.z ∷ []

abbrev spot : Place
spot = record { x = at 4; z = at 5 }

-- where a point lies, seen from each edge
over_bottom : (x X z Z : ℤ) (p : Point) → orient_of (point x z) (point X z) p ≡ (X -ℤ x) *ℤ (p.z -ℤ z)
unfolding cross_of dot_of orient_of
over_bottom x X z Z p =
    equal (numbers x X z Z p) (orient_term q₀ q₁ spot) (product (difference (at 1) (at 0)) (difference (at 5) (at 2))) refl

over_right : (x X z Z : ℤ) (p : Point) → orient_of (point X z) (point X Z) p ≡ (Z -ℤ z) *ℤ (X -ℤ p.x)
unfolding cross_of dot_of orient_of
over_right x X z Z p =
    equal (numbers x X z Z p) (orient_term q₁ q₂ spot) (product (difference (at 3) (at 2)) (difference (at 1) (at 4))) refl

over_top : (x X z Z : ℤ) (p : Point) → orient_of (point X Z) (point x Z) p ≡ (X -ℤ x) *ℤ (Z -ℤ p.z)
unfolding cross_of dot_of orient_of
over_top x X z Z p =
    equal (numbers x X z Z p) (orient_term q₂ q₃ spot) (product (difference (at 1) (at 0)) (difference (at 3) (at 5))) refl

over_left : (x X z Z : ℤ) (p : Point) → orient_of (point x Z) (point x z) p ≡ (Z -ℤ z) *ℤ (p.x -ℤ x)
unfolding cross_of dot_of orient_of
over_left x X z Z p =
    equal (numbers x X z Z p) (orient_term q₃ q₀ spot) (product (difference (at 3) (at 2)) (difference (at 4) (at 0))) refl

-- a point between two sides lies to the left of each of them, and the other way round
within : (n a b u v : ℤ) → n ≡ (b -ℤ a) *ℤ (v -ℤ u) → a <ℤ b → u ≤ℤ v → pos 0 ≤ℤ n
within n a b u v is wide order =
    subst (λ (m : ℤ). pos 0 ≤ℤ m) (sym is)
    (product-not_negative (b -ℤ a) (v -ℤ u) (not_negative_difference a b (no_more a b wide)) (not_negative_difference u v order))
  where
    no_more : (a b : ℤ) → a <ℤ b → a ≤ℤ b
    no_more a b h = omega (arith, ints)

held_between : (n a b u v : ℤ) → n ≡ (b -ℤ a) *ℤ (v -ℤ u) → a <ℤ b → pos 0 ≤ℤ n → u ≤ℤ v
held_between n a b u v is wide left =
    in_order u v (factor-not_negative (b -ℤ a) (v -ℤ u) (positive_difference a b wide) (subst (λ (m : ℤ). pos 0 ≤ℤ m) is left))
  where
    in_order : (u v : ℤ) → pos 0 ≤ℤ (v -ℤ u) → u ≤ℤ v
    in_order u v h = omega (arith, ints)

-- the sides of a strip's rectangle, in sixteenths
abbrev left_of : List Cell → ℕ
left_of own = (first_of own).at.x

abbrev right_of : List Cell → ℕ
right_of own = (first_of own).at.x + length own - 1 + 1

abbrev bottom_of : List Cell → ℕ
bottom_of own = (first_of own).at.z

up_to : (a b : ℕ) (n : ℤ) → a ≤ b → pos (16 * b) ≤ℤ n → pos (16 * a) ≤ℤ n
up_to a b n le h = omega (arith, ints)

down_from : (a b : ℕ) (n : ℤ) → a ≤ b → n ≤ℤ pos (16 * a) → n ≤ℤ pos (16 * b)
down_from a b n le h = omega (arith, ints)

column_held : (own : List Cell) → IsRow own → (x : ℕ) → left_of own ≤ x → x + 1 ≤ right_of own → HoldsColumn (strip_polygon own) x (bottom_of own)
column_held own row x low high p inside = each
  where
    x₀ : ℤ
    x₀ = pos (16 * left_of own)

    x₁ : ℤ
    x₁ = pos (16 * right_of own)

    z₀ : ℤ
    z₀ = pos (16 * bottom_of own)

    z₁ : ℤ
    z₁ = pos (16 * (bottom_of own + 1))

    wide : x₀ <ℤ x₁
    wide = sixteen_lt (left_of own) (right_of own) (omega (arith, row.some))

    deep : z₀ <ℤ z₁
    deep = sixteen_lt (bottom_of own) (bottom_of own + 1) (omega arith)

    each : Holds (strip_polygon own) p
    each zero there = within _ x₀ x₁ z₀ p.z (over_bottom x₀ x₁ z₀ z₁ p) wide inside.bottom
    each (suc zero) there = within _ z₀ z₁ p.x x₁ (over_right x₀ x₁ z₀ z₁ p) deep (down_from (x + 1) (right_of own) p.x high inside.right)
    each (suc (suc zero)) there = within _ x₀ x₁ p.z z₁ (over_top x₀ x₁ z₀ z₁ p) wide inside.top
    each (suc (suc (suc zero))) there = within _ z₀ z₁ x₀ p.x (over_left x₀ x₁ z₀ z₁ p) deep (up_to (left_of own) x p.x low inside.left)
    each (suc (suc (suc (suc edge)))) there = absurd (omega (arith, there))

same_or_less : (a b : ℕ) → pos (16 * a) ≤ℤ pos (16 * b) → a ≤ b
same_or_less a b h = omega (arith, ints)

no_less : (a b : ℕ) → a ≤ b → pos (16 * a) ≤ℤ pos (16 * b)
no_less a b h = omega (arith, ints)

-- where a column lies that the rectangle holds
record LiesIn (own : List Cell) (x z : ℕ) : Type 0 where
  left : left_of own ≤ x
  right : x + 1 ≤ right_of own
  row : z ≡ bottom_of own

column_lies : (own : List Cell) → IsRow own → (x z : ℕ) → HoldsColumn (strip_polygon own) x z → LiesIn own x z
column_lies own row x z holds =
    let x₀ : ℤ = pos (16 * left_of own) in
    let x₁ : ℤ = pos (16 * right_of own) in
    let z₀ : ℤ = pos (16 * bottom_of own) in
    let z₁ : ℤ = pos (16 * (bottom_of own + 1)) in
    let wide : x₀ <ℤ x₁ = sixteen_lt (left_of own) (right_of own) (omega (arith, row.some)) in
    let deep : z₀ <ℤ z₁ = sixteen_lt (bottom_of own) (bottom_of own + 1) (omega arith) in
    let low : Point = sixteenths x z in
    let high : Point = sixteenths (x + 1) (z + 1) in
    let at_low = holds low (record {
      left = no_less x x (omega arith);
      right = no_less x (x + 1) (omega arith);
      bottom = no_less z z (omega arith);
      top = no_less z (z + 1) (omega arith);
    }) in
    let at_high = holds high (record {
      left = no_less x (x + 1) (omega arith);
      right = no_less (x + 1) (x + 1) (omega arith);
      bottom = no_less z (z + 1) (omega arith);
      top = no_less (z + 1) (z + 1) (omega arith);
    }) in
    let under = same_or_less (bottom_of own) z (held_between _ x₀ x₁ z₀ low.z (over_bottom x₀ x₁ z₀ z₁ low) wide (at_low 0 (omega arith))) in
    let over = same_or_less (z + 1) (bottom_of own + 1) (held_between _ x₀ x₁ high.z z₁ (over_top x₀ x₁ z₀ z₁ high) wide (at_high 2 (omega arith))) in
    record {
      left = same_or_less (left_of own) x (held_between _ z₀ z₁ x₀ low.x (over_left x₀ x₁ z₀ z₁ low) deep (at_low 3 (omega arith)));
      right = same_or_less (x + 1) (right_of own) (held_between _ z₀ z₁ high.x x₁ (over_right x₀ x₁ z₀ z₁ high) deep (at_high 1 (omega arith)));
      row = omega (arith, under, over);
    }

pub columns_held : (own : List Cell) → IsRow own → HoldsColumnsOf own (strip_polygon own)
columns_held own row = record {
  held = λ k d there p inside.
      let z = row.z k d there in
      let Q : ℕ → Type 0 = λ n. IsInColumn (get_or own k d).at.x n p in
      let x = row.x k d there in
      column_held own row (get_or own k d).at.x (omega (arith, x)) (omega (arith, x, there)) p (subst Q z inside);
  only = λ x z holds.
      let lies = column_lies own row x z holds in
      let k : ℕ = x - left_of own in
      let there : k < length own = omega (arith, lies.left, lies.right, row.some) in
      let cell : Cell = get_or own k some_cell in
      let at = row.x k some_cell there in
      (k, cell, there, get_or_default own k cell some_cell there, (omega (arith, at, lies.left), row.z k some_cell there ∙ sym lies.row));
}
