-- The box of a polygon: its corners lie in it, so do the ends of the portals on its edges, and its middle is not far from them.
use Rattle.std.proofs.Common.{◌≡◌, ℕ, zero, suc, ◌<◌, ℤ, pos, ◌+ℤ◌, ◌-ℤ◌, ◌*ℤ◌, ◌≤ℤ◌, ◌<ℤ◌, List, [], ◌∷◌, ◌++◌, length, map, get_or, refl, sym, subst, ap, ◌∙◌, arith}
use Rattle.std.specs.Prelude.{All}
use Rattle.std.specs.Int.{int_min, int_max}
use Rattle.std.proofs.lemmas.Int.{ints, clamps}
use Rattle.std.proofs.lemmas.List.{get_or-map, length-map}
use Rattle.std.proofs.lemmas.List.Elements.{All-map}
use lib.IntN.{*ℤ_comm, *ℤ-zero}
use Rattle.nav_base.specs.declared.point.Point.{Point}
use Rattle.nav_base.specs.Point.{from_to, dot_of, cross_of, orient_of}
use Rattle.nav_base.specs.Convex.{corner_at}
use Rattle.nav_base.proofs.Polynomials.{at, sum, difference, product, equal}
use Rattle.nav_base.proofs.PointTerms.{place, coordinates, from_to_term, dot_term, orient_term}
use Rattle.nav_base.proofs.Signs.{product-not_negative, product-not_positive, factor-not_negative, factor-not_positive}
use Rattle.mesh_types.specs.Extents.{least_of, greatest_of}
use Rattle.mesh_types.specs.Portals.{along, LiesAlong}

-- the least of numbers is none above the first and none above any other, and the greatest none below
least_first : (first : ℤ) (xs : List ℤ) → least_of first xs ≤ℤ first
least_first first [] = omega (arith, ints)
least_first first (x ∷ xs) = omega (arith, ints, clamps, least_first (int_min first x) xs)

greatest_first : (first : ℤ) (xs : List ℤ) → first ≤ℤ greatest_of first xs
greatest_first first [] = omega (arith, ints)
greatest_first first (x ∷ xs) = omega (arith, ints, clamps, greatest_first (int_max first x) xs)

least_other : (first : ℤ) (xs : List ℤ) (i : ℕ) (d : ℤ) → i < length xs → least_of first xs ≤ℤ get_or xs i d
least_other first [] i d there = absurd (omega (arith, there))
least_other first (x ∷ xs) zero d there = omega (arith, ints, clamps, least_first (int_min first x) xs)
least_other first (x ∷ xs) (suc i) d there = least_other (int_min first x) xs i d (omega (arith, there))

greatest_other : (first : ℤ) (xs : List ℤ) (i : ℕ) (d : ℤ) → i < length xs → get_or xs i d ≤ℤ greatest_of first xs
greatest_other first [] i d there = absurd (omega (arith, there))
greatest_other first (x ∷ xs) zero d there = omega (arith, ints, clamps, greatest_first (int_max first x) xs)
greatest_other first (x ∷ xs) (suc i) d there = greatest_other (int_max first x) xs i d (omega (arith, there))

-- a bound of all numbers is one of the least and of the greatest
least_bound : (k first : ℤ) (xs : List ℤ) → k ≤ℤ first → All (λ x. k ≤ℤ x) xs → k ≤ℤ least_of first xs
least_bound k first [] low each = low
least_bound k first (x ∷ xs) low each =
    let here : k ≤ℤ x = each 0 x (omega arith) in
    least_bound k (int_min first x) xs (omega (arith, ints, clamps)) (λ i d there. each (suc i) d (omega (arith, there)))

greatest_bound : (k first : ℤ) (xs : List ℤ) → first ≤ℤ k → All (λ x. x ≤ℤ k) xs → greatest_of first xs ≤ℤ k
greatest_bound k first [] high each = high
greatest_bound k first (x ∷ xs) high each =
    let here : x ≤ℤ k = each 0 x (omega arith) in
    greatest_bound k (int_max first x) xs (omega (arith, ints, clamps)) (λ i d there. each (suc i) d (omega (arith, there)))

-- along one axis: the least and the greatest coordinate of corners
module _ (c : Point → ℤ) (corners : List Point) where
  abbrev pub low : ℤ
  low = least_of (c (corner_at corners 0)) (map c corners)

  abbrev pub high : ℤ
  high = greatest_of (c (corner_at corners 0)) (map c corners)

  each-map : (P : ℤ → Type 0) → All (λ p. P (c p)) corners → All P (map c corners)
  each-map P each = All-map P c corners each

  pub low-corner : (i : ℕ) → i < length corners → low ≤ℤ c (corner_at corners i)
  low-corner i there =
      subst (λ (n : ℤ). low ≤ℤ n) (get_or-map c corners i (record { x = pos 0; z = pos 0 }) (pos 0) there)
      (least_other (c (corner_at corners 0)) (map c corners) i (pos 0) (subst (λ (n : ℕ). i < n) (sym (length-map corners c)) there))

  pub high-corner : (i : ℕ) → i < length corners → c (corner_at corners i) ≤ℤ high
  high-corner i there =
      subst (λ (n : ℤ). n ≤ℤ high) (get_or-map c corners i (record { x = pos 0; z = pos 0 }) (pos 0) there)
      (greatest_other (c (corner_at corners 0)) (map c corners) i (pos 0) (subst (λ (n : ℕ). i < n) (sym (length-map corners c)) there))

  pub low-bound : (k : ℤ) → 0 < length corners → All (λ p. k ≤ℤ c p) corners → k ≤ℤ low
  low-bound k some each =
      least_bound k (c (corner_at corners 0)) (map c corners) (each 0 (record { x = pos 0; z = pos 0 }) some) (each-map (λ n. k ≤ℤ n) each)

  pub high-bound : (k : ℤ) → 0 < length corners → All (λ p. c p ≤ℤ k) corners → high ≤ℤ k
  high-bound k some each =
      greatest_bound k (c (corner_at corners 0)) (map c corners) (each 0 (record { x = pos 0; z = pos 0 }) some) (each-map (λ n. n ≤ℤ k) each)

-- a point lies on a way from u to v that has a length
pub record IsOn (u v p : Point) : Type 0 where
  pub line : orient_of u v p ≡ pos 0
  pub after : pos 0 ≤ℤ dot_of (from_to u v) (from_to u p)
  pub before : pos 0 ≤ℤ dot_of (from_to u v) (from_to p v)
  pub long : pos 0 <ℤ dot_of (from_to u v) (from_to u v)

-- what is left of a way behind a point
rest_of_way : (u v p : Point) → dot_of (from_to u v) (from_to p v) ≡ along u v v -ℤ along u v p
unfolding dot_of
rest_of_way u v p =
    let way = from_to_term (place 0) (place 1) in
    equal (coordinates (u ∷ v ∷ p ∷ [])) (dot_term way (from_to_term (place 2) (place 1)))
    (difference (dot_term way (from_to_term (place 0) (place 1))) (dot_term way (from_to_term (place 0) (place 2)))) refl

pub begin_on : (u v from to : Point) → LiesAlong u v from to → IsOn u v from
begin_on u v from to lies = record {
  line = lies.begins;
  after = lies.after;
  before = left (along u v from) (along u v to) (along u v v) _ (rest_of_way u v from) lies.forward lies.before;
  long = long_way (along u v from) (along u v to) (along u v v) lies.after lies.forward lies.before;
}
  where
    left : (a b e d : ℤ) → d ≡ e -ℤ a → a <ℤ b → b ≤ℤ e → pos 0 ≤ℤ d
    left a b e d is h k = omega (arith, ints)

    long_way : (a b e : ℤ) → pos 0 ≤ℤ a → a <ℤ b → b ≤ℤ e → pos 0 <ℤ e
    long_way a b e g h k = omega (arith, ints)

pub end_on : (u v from to : Point) → LiesAlong u v from to → IsOn u v to
end_on u v from to lies = record {
  line = lies.ends;
  after = from_on (along u v from) (along u v to) lies.after lies.forward;
  before = left (along u v to) (along u v v) _ (rest_of_way u v to) lies.before;
  long = (begin_on u v from to lies).long;
}
  where
    from_on : (a b : ℤ) → pos 0 ≤ℤ a → a <ℤ b → pos 0 ≤ℤ b
    from_on a b h k = omega (arith, ints)

    left : (b e d : ℤ) → d ≡ e -ℤ b → b ≤ℤ e → pos 0 ≤ℤ d
    left b e d is k = omega (arith, ints)

-- a coordinate of a point on a way is a mean of those of its ends
mean_x : (u v p : Point) (k : ℤ) → dot_of (from_to u v) (from_to u v) *ℤ (p.x -ℤ k)
    ≡ dot_of (from_to u v) (from_to u p) *ℤ (v.x -ℤ k) +ℤ dot_of (from_to u v) (from_to p v) *ℤ (u.x -ℤ k) +ℤ orient_of u v p *ℤ (u.z -ℤ v.z)
unfolding dot_of orient_of cross_of
mean_x u v p k =
    let way = from_to_term (place 0) (place 1) in
    equal (coordinates (u ∷ v ∷ p ∷ []) ++ k ∷ []) (product (dot_term way way) (difference (at 4) (at 6)))
    (sum (sum (product (dot_term way (from_to_term (place 0) (place 2))) (difference (at 2) (at 6)))
    (product (dot_term way (from_to_term (place 2) (place 1))) (difference (at 0) (at 6))))
    (product (orient_term (place 0) (place 1) (place 2)) (difference (at 1) (at 3)))) refl

mean_z : (u v p : Point) (k : ℤ) → dot_of (from_to u v) (from_to u v) *ℤ (p.z -ℤ k)
    ≡ dot_of (from_to u v) (from_to u p) *ℤ (v.z -ℤ k) +ℤ dot_of (from_to u v) (from_to p v) *ℤ (u.z -ℤ k) +ℤ orient_of u v p *ℤ (v.x -ℤ u.x)
unfolding dot_of orient_of cross_of
mean_z u v p k =
    let way = from_to_term (place 0) (place 1) in
    equal (coordinates (u ∷ v ∷ p ∷ []) ++ k ∷ []) (product (dot_term way way) (difference (at 5) (at 6)))
    (sum (sum (product (dot_term way (from_to_term (place 0) (place 2))) (difference (at 3) (at 6)))
    (product (dot_term way (from_to_term (place 2) (place 1))) (difference (at 1) (at 6))))
    (product (orient_term (place 0) (place 1) (place 2)) (difference (at 2) (at 0)))) refl

-- a mean of numbers is above a bound of both, and below one
module _ (e d d' o y a b c k : ℤ) (long : pos 0 <ℤ e) (after : pos 0 ≤ℤ d) (before : pos 0 ≤ℤ d') (line : o ≡ pos 0)
    (mean : e *ℤ (c -ℤ k) ≡ d *ℤ (a -ℤ k) +ℤ d' *ℤ (b -ℤ k) +ℤ o *ℤ y) where
  none : o *ℤ y ≡ pos 0
  none = ap (λ (n : ℤ). n *ℤ y) line ∙ *ℤ_comm (pos 0) y ∙ *ℤ-zero y

  mean-above : k ≤ℤ a → k ≤ℤ b → k ≤ℤ c
  mean-above ha hb =
      let first = product-not_negative d (a -ℤ k) after (omega (arith, ints)) in
      let next = product-not_negative d' (b -ℤ k) before (omega (arith, ints)) in
      let whole = factor-not_negative e (c -ℤ k) long (joined (e *ℤ (c -ℤ k)) (d *ℤ (a -ℤ k)) (d' *ℤ (b -ℤ k)) (o *ℤ y) mean none first next) in
      apart c whole
    where
      joined : (n p q r : ℤ) → n ≡ p +ℤ q +ℤ r → r ≡ pos 0 → pos 0 ≤ℤ p → pos 0 ≤ℤ q → pos 0 ≤ℤ n
      joined n p q r is nothing hp hq = omega (arith, ints)

      apart : (c : ℤ) → pos 0 ≤ℤ (c -ℤ k) → k ≤ℤ c
      apart c h = omega (arith, ints)

  mean-below : a ≤ℤ k → b ≤ℤ k → c ≤ℤ k
  mean-below ha hb =
      let first = product-not_positive d (a -ℤ k) after (omega (arith, ints)) in
      let next = product-not_positive d' (b -ℤ k) before (omega (arith, ints)) in
      let whole = factor-not_positive e (c -ℤ k) long (joined (e *ℤ (c -ℤ k)) (d *ℤ (a -ℤ k)) (d' *ℤ (b -ℤ k)) (o *ℤ y) mean none first next) in
      apart c whole
    where
      joined : (n p q r : ℤ) → n ≡ p +ℤ q +ℤ r → r ≡ pos 0 → p ≤ℤ pos 0 → q ≤ℤ pos 0 → n ≤ℤ pos 0
      joined n p q r is nothing hp hq = omega (arith, ints)

      apart : (c : ℤ) → (c -ℤ k) ≤ℤ pos 0 → c ≤ℤ k
      apart c h = omega (arith, ints)

-- so a point on a way lies between bounds of its ends
module _ (u v p : Point) (on : IsOn u v p) (k : ℤ) where
  pub on_above_x : k ≤ℤ u.x → k ≤ℤ v.x → k ≤ℤ p.x
  on_above_x hu hv = mean-above _ _ _ _ _ v.x u.x p.x k on.long on.after on.before on.line (mean_x u v p k) hv hu

  pub on_below_x : u.x ≤ℤ k → v.x ≤ℤ k → p.x ≤ℤ k
  on_below_x hu hv = mean-below _ _ _ _ _ v.x u.x p.x k on.long on.after on.before on.line (mean_x u v p k) hv hu

  pub on_above_z : k ≤ℤ u.z → k ≤ℤ v.z → k ≤ℤ p.z
  on_above_z hu hv = mean-above _ _ _ _ _ v.z u.z p.z k on.long on.after on.before on.line (mean_z u v p k) hv hu

  pub on_below_z : u.z ≤ℤ k → v.z ≤ℤ k → p.z ≤ℤ k
  on_below_z hu hv = mean-below _ _ _ _ _ v.z u.z p.z k on.long on.after on.before on.line (mean_z u v p k) hv hu
