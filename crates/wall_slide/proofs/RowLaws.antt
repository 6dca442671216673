-- The part of a row that lies no farther from the start of a motion than its target does.
use Rattle.std.proofs.Common.{◌≡◌, ℕ, ◌+◌, ◌*◌, ◌-◌, ◌≤◌, ◌<◌, ℤ, pos, negsuc, ◌-ℤ◌, ◌≤ℤ◌, sym, ap, ◌∙◌, arith, inl, inr}
use Rattle.std.specs.Prelude.{min, unsigned_abs}
use Rattle.std.specs.Int.{abs_diff}
use Rattle.std.proofs.lemmas.Bool.{cases_lt}
use Rattle.std.proofs.lemmas.Int.{ints}
use Rattle.std.proofs.lemmas.Nat.{mul-le}
use Rattle.nav_base.specs.Deviation.{square_of}
use Rattle.nav_base.specs.Point.{HasCoordinates, from_to}
use Rattle.nav_base.proofs.Sizes.{dot_of-bound, from_to-coordinates}
use Rattle.nav_base.specs.declared.point.Point.{Point}
use Rattle.mesh_place.specs.Lines.{IsInSpan, IsPartOf, point_on}
use Rattle.mesh_place.proofs.Squares.{square_parts}
use Rattle.wall_slide.specs.declared.discs.Motion.{Motion}
use Rattle.wall_slide.specs.Rows.{IsWithin, span_of, whole_row}

-- the square of the way between two points with coordinates
pub square-most : (a b : Point) → HasCoordinates a → HasCoordinates b → square_of (from_to a b) ≤ 34359738368
square-most a b ha hb =
    let near = from_to-coordinates a b ha hb in
    let bound = dot_of-bound 131072 (from_to a b) (from_to a b) near near in
    omega (arith, bound)

-- a number whose square is at most another is no greater than the root of that
pub root_most : (a h rest : ℕ) → a * a ≤ rest → rest < (h + 1) * (h + 1) → a ≤ h
root_most a h rest small large =
    elim (cases_lt h a) [ inl less ↦ absurd (omega (arith, small, large, mul-le (h + 1) (h + 1) a a (omega (arith, less)) (omega (arith, less)))) | inr least ↦ least ]

-- a coordinate of a point of the field, as it is read
pub record IsRead (n : ℤ) (k : ℕ) : Type 0 where
  pub is : n ≡ pos k
  pub few : k ≤ 16384

pub read : (n : ℤ) (k : ℕ) → pos 0 ≤ℤ n → n ≤ℤ pos 16384 → k ≡ unsigned_abs n → IsRead n k
read (pos m) k low high is = record { is = ap pos (sym is); few = omega (arith, ints, is, high) }
read (negsuc m) k low high is = absurd (omega (arith, ints))

pub apart : (n : ℤ) (z k : ℕ) → n ≡ pos k → abs_diff z k ≡ unsigned_abs (pos z -ℤ n)
apart n z k is = sym (ap (λ (m : ℤ). unsigned_abs (pos z -ℤ m)) is ∙ by)
  where
    by : unsigned_abs (pos z -ℤ pos k) ≡ abs_diff z k
    by = elim (cases_lt z k) [ inl less ↦ omega (arith, ints, less) | inr least ↦ omega (arith, ints, least) ]

module _ (motion : Motion) (z aside : ℕ) (is : aside ≡ unsigned_abs (pos z -ℤ motion.from.z)) where
  abbrev whole : ℕ
  whole = square_of (from_to motion.from motion.to)

  abbrev across : ℕ → ℕ
  across x = unsigned_abs (pos x -ℤ motion.from.x)

  parts : (x : ℕ) → square_of (from_to motion.from (point_on x z)) ≡ across x * across x + aside * aside
  parts x =
      let same : unsigned_abs (pos z -ℤ motion.from.z) * unsigned_abs (pos z -ℤ motion.from.z) ≡ aside * aside = λ i. sym is i * sym is i in
      omega (arith, same, square_parts (from_to motion.from (point_on x z)))

  -- a row that lies too far aside
  pub row_out : whole < aside * aside → (x : ℕ) → IsInSpan (span_of whole_row) x → IsWithin motion (point_on x z) → ⊥
  row_out far x inside within = omega (arith, far, within, parts x)

  below : (m h x : ℕ) → m ≤ x + h → x ≤ m + h → unsigned_abs (pos x -ℤ pos m) ≤ h
  below m h x low high = omega (arith, ints, low, high)

  above : (m h x : ℕ) → unsigned_abs (pos x -ℤ pos m) ≤ h → m ≤ x + h
  above m h x most = omega (arith, ints, most)

  above' : (m h x : ℕ) → unsigned_abs (pos x -ℤ pos m) ≤ h → x ≤ m + h
  above' m h x most = omega (arith, ints, most)

  module _ (rest half middle : ℕ) (inside : aside * aside ≤ whole) (rest_is : rest ≡ whole - aside * aside) (under : half * half ≤ rest)
      (over : rest < (half + 1) * (half + 1)) (middle_is : motion.from.x ≡ pos middle) (few : middle ≤ 16384) where
    near : (x : ℕ) → across x ≡ unsigned_abs (pos x -ℤ pos middle)
    near x = ap (λ (n : ℤ). unsigned_abs (pos x -ℤ n)) middle_is

    pub row_in : (first last : ℕ) → first ≡ middle - half → last ≡ min (middle + half) 16384
        → IsPartOf (λ x. IsWithin motion (point_on x z)) (span_of whole_row) (record { first = first; last = last })
    row_in first last first_is last_is = record {
      order = omega (arith, first_is, last_is, few);
      begins = omega arith;
      ends = omega (arith, last_is);
      are = λ x in_part.
          let low = in_part.first in
          let high = in_part.last in
          let most : across x ≤ half = near_most x (below middle half x (omega (arith, low, first_is)) (omega (arith, high, last_is))) in
          omega (arith, parts x, mul-le (across x) (across x) half half most most, under, rest_is, inside);
      all = λ x in_row within.
          let last' = in_row.last in
          let most : across x ≤ half = root_most (across x) half rest (omega (arith, within, parts x, rest_is, inside)) over in
          let most' : unsigned_abs (pos x -ℤ pos middle) ≤ half = omega (arith, most, near x) in
          record { first = omega (arith, first_is, above middle half x most'); last = omega (arith, last_is, last', above' middle half x most') };
    }
      where
        near_most : (x : ℕ) → unsigned_abs (pos x -ℤ pos middle) ≤ half → across x ≤ half
        near_most x most = omega (arith, most, near x)
