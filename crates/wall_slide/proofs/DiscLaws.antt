-- A portal beside the disc of a way: what its tests tell.
use Rattle.std.proofs.Common.{◌≡◌, ℕ, ◌*◌, ◌≤◌, ◌<◌, ◌↔◌, ℤ, pos, ◌+ℤ◌, ◌*ℤ◌, ◌≤ℤ◌, ◌<ℤ◌, true, false, [], ◌∷◌, refl, sym, ap, subst, ◌∙◌, arith}
use Rattle.std.specs.Prelude.{unsigned_abs, nat_le}
use Rattle.std.specs.Int.Signed.{le_z}
use Rattle.std.proofs.lemmas.Int.{ints, unsigned_abs-mul}
use Rattle.nav_base.specs.declared.deviation.Deviation.{Deviation}
use Rattle.nav_base.specs.declared.point.Point.{Point}
use Rattle.nav_base.specs.Deviation.{deviation_of, square_of}
use Rattle.nav_base.specs.Point.{from_to, dot_of, cross_of, orient_of}
use Rattle.nav_base.proofs.LengthLaws.{dot_of-itself}
use Rattle.nav_base.proofs.Polynomials.{number, sum, product, equal}
use Rattle.nav_base.proofs.PointTerms.{Place, place, coordinates, moved_term, from_to_term, dot_term, cross_term, orient_term}
use Rattle.mesh_types.specs.declared.links.Portal.{Portal}
use Rattle.wall_slide.specs.Discs.{SeesEnds, aside_of, toward_of}
use Rattle.wall_slide.specs.Slides.{TouchesDisc, added, doubled}

twice : Place → Place
twice p = record { x = product (number (pos 2)) p.x; z = product (number (pos 2)) p.z }

test_true : (m n : ℤ) → m ≤ℤ n → le_z m n ≡ true
test_true m n most = grind (arith, ints)

test_false : (m n : ℤ) → n <ℤ m → le_z m n ≡ false
test_false m n less = grind (arith, ints)

-- what the tests of a number say, where it is read from a value
pub not_above : (read n : ℤ) → read ≡ n → le_z read (pos 0) ≡ true → n ≤ℤ pos 0
not_above read n is test = subst (λ (m : ℤ). m ≤ℤ pos 0) is (grind (arith, ints))

pub above : (read n : ℤ) → read ≡ n → le_z read (pos 0) ≡ false → pos 0 <ℤ n
above read n is test = subst (λ (m : ℤ). pos 0 <ℤ m) is (grind (arith, ints))

pub passes : (m n : ℕ) → m ≤ n → nat_le m n ≡ true
passes m n most = grind (arith)

pub passed : (m n : ℕ) → nat_le m n ≡ true → m ≤ n
passed m n test = grind (arith)

-- a number above 0 beside twice the square of a way
pub is_far : (u v : Point) (n : ℤ) → pos 0 <ℤ n → 2 * square_of (from_to u v) ≤ unsigned_abs n → (pos 2 *ℤ dot_of (from_to u v) (from_to u v)) ≤ℤ n
is_far u v n some far = omega (arith, ints, dot_of-itself (from_to u v), some, far)

pub is_near : (u v : Point) (n : ℤ) → pos 0 <ℤ n → unsigned_abs n < 2 * square_of (from_to u v) → n <ℤ (pos 2 *ℤ dot_of (from_to u v) (from_to u v))
is_near u v n some near = omega (arith, ints, dot_of-itself (from_to u v), some, near)

module _ (a b : Point) (portal : Portal) where
  abbrev r : Point
  r = portal.right

  abbrev l : Point
  l = portal.left

  abbrev segment : Point
  segment = from_to (doubled r) (doubled l)

  abbrev middle : Point
  middle = from_to (doubled r) (added a b)

  abbrev middle' : Point
  middle' = from_to (doubled l) (added a b)

  reached_is : dot_of segment middle ≡ pos 2 *ℤ toward_of a b portal
  unfolding dot_of twice
  reached_is =
      let way = from_to_term (place 0) (place 1) in
      equal (coordinates (r ∷ l ∷ a ∷ b ∷ []))
      (dot_term (from_to_term (twice (place 0)) (twice (place 1))) (from_to_term (twice (place 0)) (moved_term (place 2) (place 3))))
      (product (number (pos 2)) (sum (dot_term way (from_to_term (place 0) (place 2))) (dot_term way (from_to_term (place 0) (place 3))))) refl

  length_is : dot_of segment segment ≡ pos 4 *ℤ dot_of (from_to r l) (from_to r l)
  unfolding dot_of twice
  length_is =
      let way = from_to_term (place 0) (place 1) in
      let long = from_to_term (twice (place 0)) (twice (place 1)) in
      equal (coordinates (r ∷ l ∷ [])) (dot_term long long) (product (number (pos 4)) (dot_term way way)) refl

  aside_is : cross_of segment middle ≡ pos 2 *ℤ aside_of a b portal
  unfolding dot_of cross_of orient_of twice
  aside_is =
      equal (coordinates (r ∷ l ∷ a ∷ b ∷ []))
      (cross_term (from_to_term (twice (place 0)) (twice (place 1))) (from_to_term (twice (place 0)) (moved_term (place 2) (place 3))))
      (product (number (pos 2)) (sum (orient_term (place 0) (place 1) (place 2)) (orient_term (place 0) (place 1) (place 3)))) refl

  -- how far the middle is from a point, beside half the way
  apart_is : (p : Point) → dot_of (from_to (doubled p) (added a b)) (from_to (doubled p) (added a b))
      ≡ dot_of (from_to a b) (from_to a b) +ℤ pos 4 *ℤ dot_of (from_to p a) (from_to p b)
  unfolding dot_of twice
  apart_is p =
      let far = from_to_term (twice (place 0)) (moved_term (place 1) (place 2)) in
      let way = from_to_term (place 1) (place 2) in
      equal (coordinates (p ∷ a ∷ b ∷ [])) (dot_term far far)
      (sum (dot_term way way) (product (number (pos 4)) (dot_term (from_to_term (place 0) (place 1)) (from_to_term (place 0) (place 2))))) refl

  in_disc : (x d : ℕ) (c : ℤ) → pos x ≡ pos d +ℤ pos 4 *ℤ c → (x * 1 ≤ d * 1) ↔ (c ≤ℤ pos 0)
  in_disc x d c is = (λ most. omega (arith, ints, is, most), λ most. omega (arith, ints, is, most))

  sees : (p : Point) → (square_of (from_to (doubled p) (added a b)) * 1 ≤ square_of (from_to a b) * 1) ↔ SeesEnds a b p
  sees p =
      in_disc (square_of (from_to (doubled p) (added a b))) (square_of (from_to a b)) (dot_of (from_to p a) (from_to p b))
      (sym (dot_of-itself (from_to (doubled p) (added a b))) ∙ apart_is p ∙ (λ i. dot_of-itself (from_to a b) i +ℤ pos 4 *ℤ dot_of (from_to p a) (from_to p b)))

  -- the portal's right end is the nearest to the middle
  first_case : toward_of a b portal ≤ℤ pos 0 → deviation_of (doubled r) (doubled l) (added a b) ≡ record { num = square_of middle; den = 1 }
  unfolding deviation_of
  first_case low =
      let test : le_z (dot_of segment middle) (pos 0) ≡ true = test_true (dot_of segment middle) (pos 0) (omega (arith, ints, reached_is, low)) in
      rw test refl

  pub at_right : toward_of a b portal ≤ℤ pos 0 → TouchesDisc a b portal ↔ SeesEnds a b r
  at_right low = subst (λ (d : Deviation). (d.num * 1 ≤ square_of (from_to a b) * d.den) ↔ SeesEnds a b r) (sym (first_case low)) (sees r)

  -- its left end
  second_case : pos 0 <ℤ toward_of a b portal → (pos 2 *ℤ dot_of (from_to r l) (from_to r l)) ≤ℤ toward_of a b portal
      → deviation_of (doubled r) (doubled l) (added a b) ≡ record { num = square_of middle'; den = 1 }
  unfolding deviation_of
  second_case some far =
      let test : le_z (dot_of segment middle) (pos 0) ≡ false = test_false (dot_of segment middle) (pos 0) (omega (arith, ints, reached_is, some)) in
      let test' : le_z (dot_of segment segment) (dot_of segment middle) ≡ true =
      test_true (dot_of segment segment) (dot_of segment middle) (omega (arith, ints, reached_is, length_is, far)) in
      rw test (rw test' refl)

  pub at_left : pos 0 <ℤ toward_of a b portal → (pos 2 *ℤ dot_of (from_to r l) (from_to r l)) ≤ℤ toward_of a b portal
      → TouchesDisc a b portal ↔ SeesEnds a b l
  at_left some far = subst (λ (d : Deviation). (d.num * 1 ≤ square_of (from_to a b) * d.den) ↔ SeesEnds a b l) (sym (second_case some far)) (sees l)

  -- a point between them
  third_case : pos 0 <ℤ toward_of a b portal → toward_of a b portal <ℤ (pos 2 *ℤ dot_of (from_to r l) (from_to r l))
      → deviation_of (doubled r) (doubled l) (added a b)
      ≡ record { num = unsigned_abs (cross_of segment middle) * unsigned_abs (cross_of segment middle); den = square_of segment }
  unfolding deviation_of
  third_case some near =
      let test : le_z (dot_of segment middle) (pos 0) ≡ false = test_false (dot_of segment middle) (pos 0) (omega (arith, ints, reached_is, some)) in
      let test' : le_z (dot_of segment segment) (dot_of segment middle) ≡ false =
      test_false (dot_of segment segment) (dot_of segment middle) (omega (arith, ints, reached_is, length_is, near)) in
      rw test (rw test' refl)

  scaled : (n m k q s : ℕ) → n ≡ 4 * m → k ≡ 4 * q → n * 1 ≤ s * k ↔ (m ≤ q * s)
  scaled n m k q s is is' =
      let e : s * k ≡ 4 * (q * s) = ap (λ (j : ℕ). s * j) is' ∙ times s q in
      (λ most. omega (arith, is, e, most), λ most. omega (arith, is, e, most))
    where
      times : (s q : ℕ) → s * (4 * q) ≡ 4 * (q * s)
      times s q = omega arith

  pub between : pos 0 <ℤ toward_of a b portal → toward_of a b portal <ℤ (pos 2 *ℤ dot_of (from_to r l) (from_to r l))
      → TouchesDisc a b portal
      ↔ (unsigned_abs (aside_of a b portal) * unsigned_abs (aside_of a b portal) ≤ square_of (from_to r l) * square_of (from_to a b))
  between some near =
      subst (λ (d : Deviation). (d.num * 1 ≤ square_of (from_to a b) * d.den) ↔ (m * m ≤ square_of (from_to r l) * square_of (from_to a b)))
      (sym (third_case some near)) (scaled _ (m * m) _ (square_of (from_to r l)) (square_of (from_to a b)) num_is den_is)
    where
      m : ℕ
      m = unsigned_abs (aside_of a b portal)

      size : unsigned_abs (cross_of segment middle) ≡ 2 * m
      size = ap unsigned_abs aside_is ∙ unsigned_abs-mul (pos 2) (aside_of a b portal)

      square_twice : (n m : ℕ) → n ≡ 2 * m → n * n ≡ 4 * (m * m)
      square_twice n m is = (λ i. is i * is i) ∙ by m
        where
          by : (m : ℕ) → 2 * m * (2 * m) ≡ 4 * (m * m)
          by m = omega arith

      num_is : unsigned_abs (cross_of segment middle) * unsigned_abs (cross_of segment middle) ≡ 4 * (m * m)
      num_is = square_twice _ m size

      den_is : square_of segment ≡ 4 * square_of (from_to r l)
      den_is = ap unsigned_abs length_is ∙ unsigned_abs-mul (pos 4) (dot_of (from_to r l) (from_to r l))
