-- The square of a vector by its parts. A point over a column is no nearer to another than the column.
use Rattle.std.proofs.Common.{◌≡◌, ℕ, ◌+◌, ◌*◌, ◌-◌, ◌≤◌, ◌<◌, ℤ, pos, negsuc, ◌+ℤ◌, ◌-ℤ◌, ◌*ℤ◌, ◌≤ℤ◌, inl, inr, refl, sym, ap, subst, ◌∙◌, arith}
use Rattle.std.specs.Prelude.{max, unsigned_abs}
use Rattle.std.specs.Int.{int_max}
use Rattle.std.proofs.lemmas.Bool.{cases_lt}
use Rattle.std.proofs.lemmas.Int.{ints, clamps}
use Rattle.std.proofs.lemmas.Nat.{mul-lt, mul-le}
use Rattle.nav_base.specs.declared.point.Point.{Point}
use Rattle.nav_base.specs.Point.{IsCellCorner, from_to, dot_of}
use Rattle.nav_base.specs.Deviation.{square_of}
use Rattle.nav_base.proofs.LengthLaws.{square-absolute}
use Rattle.mesh_types.specs.declared.extent.Extent.{Extent}
use Rattle.mesh_types.specs.Places.{column_gap, outside}
use Rattle.mesh_locate.specs.Nearest.{IsInBox}
use Rattle.mesh_place.specs.Columns.{IsAmong, column_out, columns_around, columns_touched, over_by}
use Rattle.mesh_place.specs.Searches.{box_gap}
use Rattle.mesh_place.proofs.Spans.{size_right, size_left, out_right, out_left}

pub square_parts : (v : Point) → square_of v ≡ unsigned_abs v.x * unsigned_abs v.x + unsigned_abs v.z * unsigned_abs v.z
unfolding dot_of
square_parts v =
    ap unsigned_abs (ap (λ (n : ℤ). n +ℤ v.z *ℤ v.z) (square-absolute v.x) ∙ ap (λ (n : ℤ). pos (unsigned_abs v.x * unsigned_abs v.x) +ℤ n) (square-absolute v.z))

-- how far two numbers are apart, that are not less than 0
apart_right : (m n : ℕ) → unsigned_abs (pos m -ℤ pos n) ≡ max (m - n) (n - m)
apart_right m n =
    elim (cases_lt m n) [
      | inl less ↦ ap unsigned_abs (below less) ∙ omega (arith, less)
      | inr least ↦ ap unsigned_abs (above least) ∙ omega (arith, least)
    ]
  where
    below : m < n → (pos m -ℤ pos n) ≡ negsuc (n - m - 1)
    below less = omega (arith, ints, less)

    above : n ≤ m → (pos m -ℤ pos n) ≡ pos (m - n)
    above least = omega (arith, ints, least)

apart_left : (m k : ℕ) → unsigned_abs (pos m -ℤ negsuc k) ≡ m + k + 1
apart_left m k = ap unsigned_abs is
  where
    is : (pos m -ℤ negsuc k) ≡ pos (m + k + 1)
    is = omega (arith, ints)

-- a coordinate on a column
pub record IsOn (x : ℕ) (q : ℤ) : Type 0 where
  pub m : ℕ
  pub is : q ≡ pos m
  pub left : 16 * x ≤ m
  pub right : m ≤ 16 * x + 16

pub on_column : (x : ℕ) (q : ℤ) → column_out x q ≡ 0 → IsOn x q
on_column x (pos m) none = record { m = m; is = refl; left = omega (arith, none, out_right x m); right = omega (arith, none, out_right x m) }
on_column x (negsuc k) none = absurd (omega (arith, none, out_left x k))

pub column_on : (x i : ℕ) → i ≤ 16 → column_out x (pos (16 * x + i)) ≡ 0
column_on x i few = omega (arith, few, out_right x (16 * x + i))

near_column : (x m : ℕ) (p : ℤ) → 16 * x ≤ m → m ≤ 16 * x + 16 → column_out x p ≤ unsigned_abs (pos m -ℤ p)
near_column x m (pos n) left right = omega (arith, left, right, out_right x n, apart_right m n)
near_column x m (negsuc k) left right = omega (arith, left, right, out_left x k, apart_left m k)

-- two squares make nothing where both are nothing
pub record AreNone (a b : ℕ) : Type 0 where
  pub first : a ≡ 0
  pub second : b ≡ 0

pub both_none : (a b : ℕ) → 0 ≡ a * a + b * b → AreNone a b
both_none a b none = record { first = one; second = two }
  where
    one : a ≡ 0
    one = elim (cases_lt 0 a) [ inl some ↦ absurd (omega (arith, none, mul-lt 0 0 a a some some)) | inr least ↦ omega (arith, least) ]

    two : b ≡ 0
    two = elim (cases_lt 0 b) [ inl some ↦ absurd (omega (arith, none, mul-lt 0 0 b b some some)) | inr least ↦ omega (arith, least) ]

-- a point over a column
pub record IsOnColumn (x z : ℕ) (q : Point) : Type 0 where
  pub across : IsOn x q.x
  pub along : IsOn z q.z

pub over_column : (x z : ℕ) (q : Point) → 0 ≡ column_gap x z q → IsOnColumn x z q
over_column x z q none =
    let parts = both_none (column_out x q.x) (column_out z q.z) none in
    record { across = on_column x q.x parts.first; along = on_column z q.z parts.second }

pub gap_of_point : (x z i j : ℕ) → i ≤ 16 → j ≤ 16 → 0 ≡ column_gap x z (record { x = pos (16 * x + i); z = pos (16 * z + j) })
gap_of_point x z i j few few' =
    let across = column_on x i few in
    let along = column_on z j few' in
    sym (ap (λ (n : ℕ). n * n + column_out z (pos (16 * z + j)) * column_out z (pos (16 * z + j))) across ∙ ap (λ (n : ℕ). 0 * 0 + n * n) along)

-- it is no nearer to another point than the column
pub gap_least : (x z : ℕ) (p q : Point) → 0 ≡ column_gap x z q → column_gap x z p ≤ square_of (from_to p q)
gap_least x z p q none =
    let over = over_column x z q none in
    let a = column_out x p.x in
    let b = column_out z p.z in
    let across : a ≤ unsigned_abs (q.x -ℤ p.x) =
    subst (λ (n : ℤ). a ≤ unsigned_abs (n -ℤ p.x)) (sym over.across.is) (near_column x over.across.m p.x over.across.left over.across.right) in
    let along : b ≤ unsigned_abs (q.z -ℤ p.z) =
    subst (λ (n : ℤ). b ≤ unsigned_abs (n -ℤ p.z)) (sym over.along.is) (near_column z over.along.m p.z over.along.left over.along.right) in
    omega (
      arith,
      square_parts (from_to p q),
      mul-le a a (unsigned_abs (q.x -ℤ p.x)) (unsigned_abs (q.x -ℤ p.x)) across across,
      mul-le b b (unsigned_abs (q.z -ℤ p.z)) (unsigned_abs (q.z -ℤ p.z)) along along,
    )

-- ---- what is within a reach

root_below : (a r rest : ℕ) → a * a + rest ≤ r * r → a ≤ r
root_below a r rest most =
    elim (cases_lt r a) [ inl less ↦ absurd (omega (arith, most, mul-lt r r a a less less)) | inr least ↦ least ]

pub record IsWithin (p q : Point) (reach : ℕ) : Type 0 where
  pub across : unsigned_abs (q.x -ℤ p.x) ≤ reach
  pub along : unsigned_abs (q.z -ℤ p.z) ≤ reach

pub within : (p q : Point) (reach : ℕ) → square_of (from_to p q) ≤ reach * reach → IsWithin p q reach
within p q reach flat =
    let a = unsigned_abs (q.x -ℤ p.x) in
    let b = unsigned_abs (q.z -ℤ p.z) in
    let parts = square_parts (from_to p q) in
    record { across = root_below a reach (b * b) (omega (arith, flat, parts)); along = root_below b reach (a * a) (omega (arith, flat, parts)) }

pub size_bounds : (n : ℤ) (r : ℕ) → unsigned_abs n ≤ r → (n ≤ℤ pos r) × (pos 0 ≤ℤ (n +ℤ pos r))
size_bounds (pos a) r most = (omega (arith, ints, most), omega (arith, ints, most))
size_bounds (negsuc k) r most = (omega (arith, ints), omega (arith, ints, most))

pub clamp_most : (n : ℤ) (m : ℕ) → n ≤ℤ pos m → unsigned_abs (int_max n (pos 0)) ≤ m
clamp_most (pos a) m most = omega (arith, ints, most, size_right a)
clamp_most (negsuc k) m most = omega (arith, size_left k)

pub clamp_least : (n : ℤ) (m : ℕ) → pos m ≤ℤ n → m ≤ unsigned_abs (int_max n (pos 0))
clamp_least (pos a) m least = omega (arith, ints, least, size_right a)
clamp_least (negsuc k) m least = absurd (omega (arith, ints, least))

-- the columns within a reach are those of each point that is within
reached : (x m : ℕ) (p : ℤ) (reach : ℕ) → unsigned_abs (pos m -ℤ p) ≤ reach → 16 * x ≤ m → m ≤ 16 * x + 16 → IsAmong (columns_around p reach) x
reached x m p reach most left right =
    let bounds = size_bounds (pos m -ℤ p) reach most in
    let low = clamp_most (p -ℤ pos reach) m (omega (arith, ints, bounds.0)) in
    let high = clamp_least (p +ℤ pos reach) m (omega (arith, ints, bounds.1)) in
    record { first = omega (arith, low, left, right); last = omega (arith, high, left, right) }

pub among_columns : (x z : ℕ) (p q : Point) (reach : ℕ) → 0 ≡ column_gap x z q → square_of (from_to p q) ≤ reach * reach
    → IsAmong (columns_around p.x reach) x × IsAmong (columns_around p.z reach) z
among_columns x z p q reach none flat =
    let over = over_column x z q none in
    let near = within p q reach flat in (
      reached x over.across.m p.x reach (subst (λ (n : ℤ). unsigned_abs (n -ℤ p.x) ≤ reach) over.across.is near.across) over.across.left over.across.right,
      reached z over.along.m p.z reach (subst (λ (n : ℤ). unsigned_abs (n -ℤ p.z) ≤ reach) over.along.is near.along) over.along.left over.along.right,
    )

-- a column on which a point of a box lies is one that the box touches
touched : (x : ℕ) (low high q : ℤ) → IsOn x q → pos 0 ≤ℤ low → pos 0 ≤ℤ high → (pos 16 *ℤ low) ≤ℤ q → q ≤ℤ (pos 16 *ℤ high)
    → IsAmong (columns_touched low high) x
touched x (pos a) (pos b) q on least least' begins ends =
    let left : 16 * a ≤ on.m = omega (arith, ints, on.is, begins) in
    let right : on.m ≤ 16 * b = omega (arith, ints, on.is, ends) in
    let from = on.left in
    let to = on.right in
    record { first = omega (arith, left, to); last = omega (arith, right, from) }
touched x (negsuc k) high q on least least' begins ends = absurd (omega (arith, ints, least))
touched x (pos a) (negsuc k) q on least least' begins ends = absurd (omega (arith, ints, least'))

pub among_touched : (box : Extent) (x z : ℕ) (q : Point) → IsCellCorner box.low → IsCellCorner box.high → 0 ≡ column_gap x z q → IsInBox box q
    → IsAmong (columns_touched box.low.x box.high.x) x × IsAmong (columns_touched box.low.z box.high.z) z
among_touched box x z q low high none is =
    let over = over_column x z q none in (
      touched x box.low.x box.high.x q.x over.across low.left high.left is.low.across is.high.across,
      touched z box.low.z box.high.z q.z over.along low.bottom high.bottom is.low.along is.high.along,
    )

-- a point of a box is no nearer than the box
outside_least : (low high p q : ℤ) → low ≤ℤ q → q ≤ℤ high → outside low high p ≤ unsigned_abs (q -ℤ p)
outside_least low high p q begins ends = omega (arith, ints, clamps, begins, ends)

pub outside_parts : (low high p : ℤ) → outside low high p ≡ max (over_by p low) (over_by high p)
outside_parts low high p = omega (arith, ints, clamps)

pub box_least : (box : Extent) (p q : Point) → IsInBox box q → box_gap box p ≤ square_of (from_to p q)
box_least box p q is =
    let a = outside (pos 16 *ℤ box.low.x) (pos 16 *ℤ box.high.x) p.x in
    let b = outside (pos 16 *ℤ box.low.z) (pos 16 *ℤ box.high.z) p.z in
    let across : a ≤ unsigned_abs (q.x -ℤ p.x) = outside_least (pos 16 *ℤ box.low.x) (pos 16 *ℤ box.high.x) p.x q.x is.low.across is.high.across in
    let along : b ≤ unsigned_abs (q.z -ℤ p.z) = outside_least (pos 16 *ℤ box.low.z) (pos 16 *ℤ box.high.z) p.z q.z is.low.along is.high.along in
    omega (
      arith,
      square_parts (from_to p q),
      mul-le a a (unsigned_abs (q.x -ℤ p.x)) (unsigned_abs (q.x -ℤ p.x)) across across,
      mul-le b b (unsigned_abs (q.z -ℤ p.z)) (unsigned_abs (q.z -ℤ p.z)) along along,
    )

-- ---- which of two points is farther

more_square : (a b : ℕ) → a < b → a * a < b * b
more_square a b less = mul-lt a a b b less less

pub farther_both : (p a b : Point) → unsigned_abs (a.x -ℤ p.x) < unsigned_abs (b.x -ℤ p.x) → unsigned_abs (a.z -ℤ p.z) ≤ unsigned_abs (b.z -ℤ p.z)
    → square_of (from_to p a) < square_of (from_to p b)
farther_both p a b across along =
    omega (
      arith,
      square_parts (from_to p a),
      square_parts (from_to p b),
      more_square (unsigned_abs (a.x -ℤ p.x)) (unsigned_abs (b.x -ℤ p.x)) across,
      mul-le (unsigned_abs (a.z -ℤ p.z)) (unsigned_abs (a.z -ℤ p.z)) (unsigned_abs (b.z -ℤ p.z)) (unsigned_abs (b.z -ℤ p.z)) along along,
    )

pub farther_across : (p a b : Point) → unsigned_abs (a.x -ℤ p.x) < unsigned_abs (b.x -ℤ p.x) → a.z ≡ b.z → square_of (from_to p a) < square_of (from_to p b)
farther_across p a b across same =
    farther_both p a b across (subst (λ (n : ℤ). unsigned_abs (a.z -ℤ p.z) ≤ unsigned_abs (n -ℤ p.z)) same (omega arith))

pub farther_along : (p a b : Point) → a.x ≡ b.x → unsigned_abs (a.z -ℤ p.z) < unsigned_abs (b.z -ℤ p.z) → square_of (from_to p a) < square_of (from_to p b)
farther_along p a b same along =
    let across : unsigned_abs (a.x -ℤ p.x) ≤ unsigned_abs (b.x -ℤ p.x) =
    subst (λ (n : ℤ). unsigned_abs (a.x -ℤ p.x) ≤ unsigned_abs (n -ℤ p.x)) same (omega arith) in
    omega (
      arith,
      square_parts (from_to p a),
      square_parts (from_to p b),
      more_square (unsigned_abs (a.z -ℤ p.z)) (unsigned_abs (b.z -ℤ p.z)) along,
      mul-le (unsigned_abs (a.x -ℤ p.x)) (unsigned_abs (a.x -ℤ p.x)) (unsigned_abs (b.x -ℤ p.x)) (unsigned_abs (b.x -ℤ p.x)) across across,
    )
