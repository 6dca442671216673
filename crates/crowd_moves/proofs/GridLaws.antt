-- The grid: two that could come to touch in one step are in neighbouring cells.
use Rattle.std.proofs.Common.{ℕ, ◌+◌, ◌-◌, ◌*◌, ◌/◌, ◌<◌, ◌≤◌, ◌^◌, ℤ, pos, ◌+ℤ◌, ◌-ℤ◌, inl, inr, arith}
use Rattle.std.specs.Prelude.{unsigned_abs, ◌⊎◌}
use Rattle.std.proofs.lemmas.Bool.{cases_lt}
use Rattle.std.proofs.lemmas.Int.{ints}
use Rattle.std.proofs.lemmas.Nat.{div_below}
use Rattle.std.proofs.Math.Nat.{lt-div-mul-add}
use Rattle.nav_base.specs.declared.point.Point.{Point}
use Rattle.nav_base.specs.Point.{IsWithin, from_to}
use Rattle.crowd_moves.specs.Contacts.{line_of, cell_of}

-- a number that is less than one more side away is at most one line on
next_line : (side p q : ℕ) → 0 < side → q < p + side → q / side ≤ p / side + 1
next_line side p q some near = below (q / side) (p / side) (div_below q side (p / side + 2) some (within (p / side) near (lt-div-mul-add some)))
  where
    within : (x : ℕ) → q < p + side → p < x * side + side → q < (x + 2) * side
    within x h k = omega (arith, h, k)

    below : (m n : ℕ) → m < n + 2 → m ≤ n + 1
    below m n h = omega (arith, h)

lines_near : (most : ℕ) (m n : ℤ) → unsigned_abs m ≤ 2 ^ 20 → unsigned_abs n ≤ 2 ^ 20 → unsigned_abs (n -ℤ m) ≤ 2 * most
    → (line_of (2 * most + 1) n ≤ line_of (2 * most + 1) m + 1) × (line_of (2 * most + 1) m ≤ line_of (2 * most + 1) n + 1)
lines_near most m n first second near =
    let p = unsigned_abs (m +ℤ pos 1048576) in
    let q = unsigned_abs (n +ℤ pos 1048576) in
    let on : q < p + (2 * most + 1) = omega (arith, ints, first, second, near) in
    let back : p < q + (2 * most + 1) = omega (arith, ints, first, second, near) in (
      more (q / (2 * most + 1)) (p / (2 * most + 1)) (next_line (2 * most + 1) p q (omega arith) on),
      more (p / (2 * most + 1)) (q / (2 * most + 1)) (next_line (2 * most + 1) q p (omega arith) back),
    )
  where
    more : (x y : ℕ) → x ≤ y + 1 → x + 1 ≤ y + 1 + 1
    more x y h = omega (arith, h)

-- a cell is one of three that follow each other
abbrev pub IsOfThree : ℕ → ℕ → Type 0
IsOfThree low cell = (low ≤ cell) × (cell < low + 3)

-- it is one of three in the row above, in the own one, or in the one below
abbrev pub IsInRows : ℕ → ℕ → Type 0
IsInRows own cell = IsOfThree (own - 16777216 - 1) cell ⊎ (IsOfThree (own - 1) cell ⊎ IsOfThree (own + 16777216 - 1) cell)

-- rows and columns that differ by one at most
pub rows_near : (r k r' k' : ℕ) → 1 ≤ r → 1 ≤ k → r' ≤ r + 1 → r ≤ r' + 1 → k' ≤ k + 1 → k ≤ k' + 1
    → IsInRows (r * 16777216 + k) (r' * 16777216 + k')
rows_near r k r' k' some some' h h' g g' = elim (cases_lt r' r) [
  | inl less ↦ inl (omega (arith, less, some, some', h, h', g, g'), omega (arith, less, some, some', h, h', g, g'))
  | inr most ↦ inr (elim (cases_lt r r') [
    | inl more ↦ inr (omega (arith, more, some, some', h, h', g, g'), omega (arith, more, some, some', h, h', g, g'))
    | inr least ↦ inl (omega (arith, most, least, some, some', g, g'), omega (arith, most, least, some, some', g, g'))
  ])
]

pub cells_near : (most : ℕ) (p q : Point) → IsWithin (2 ^ 20) p → IsWithin (2 ^ 20) q → IsWithin (2 * most) (from_to p q)
    → IsInRows (cell_of (2 * most + 1) p) (cell_of (2 * most + 1) q)
cells_near most p q first second near =
    let rows = lines_near most p.z q.z first.along second.along near.along in
    let columns = lines_near most p.x q.x first.across second.across near.across in
    rows_near (line_of (2 * most + 1) p.z) (line_of (2 * most + 1) p.x) (line_of (2 * most + 1) q.z) (line_of (2 * most + 1) q.x)
    (omega arith) (omega arith) rows.0 rows.1 columns.0 columns.1
