-- A corner half of a squared cell from the line through two others deviates over each error up to 49 from the segment between them; and so does, of two
-- corners in the column and in the row of one of them, the one or the other.
use Rattle.std.proofs.Common.{◌≡◌, ℕ, ◌+◌, ◌*◌, ◌≤◌, ◌<◌, ℤ, pos, ◌+ℤ◌, ◌-ℤ◌, ◌*ℤ◌, Bool, true, false, cond, refl, sym, ap, ◌∙◌, inl, inr, arith}
use Rattle.std.specs.Prelude.{unsigned_abs}
use Rattle.std.specs.Int.Signed.{le_z}
use Rattle.std.proofs.lemmas.Int.{ints, unsigned_abs-mul}
use Rattle.std.proofs.lemmas.Nat.{mul-le}
use Rattle.std.proofs.lemmas.Bool.{cases_lt, lt-ltb}
use Rattle.std.proofs.Math.Nat.{le_refl}
use lib.IntN.{neg_ℤ, *ℤ-zero}
use Rattle.nav_base.specs.declared.point.Point.{Point}
use Rattle.nav_base.specs.Point.{from_to, dot_of, cross_of, orient_of}
use Rattle.nav_base.specs.Deviation.{Exceeds, deviation_of, square_of}
use Rattle.nav_base.proofs.LengthLaws.{square-absolute}
use Rattle.nav_base.proofs.OrientLaws.{orient_of-turned}
use Rattle.mesh_types.specs.Rings.{AreApart}
use Rattle.mesh_types.specs.Simplified.{deviates_over}

-- a squared length by the coordinates
pub square_is : (u : Point) → square_of u ≡ unsigned_abs u.x * unsigned_abs u.x + unsigned_abs u.z * unsigned_abs u.z
unfolding dot_of
square_is u = ap unsigned_abs (λ i. square-absolute u.x i +ℤ square-absolute u.z i)

some_square : (n : ℕ) → 0 < n → 0 < n * n
some_square n some = mul-le 1 1 n n some some

-- different corners have a distance
apart_by : (a b : Point) → AreApart a b → 0 < square_of (from_to a b)
apart_by a b apart = elim (cases_lt 0 (unsigned_abs (b.x -ℤ a.x))) [
  | inl across ↦ omega (arith, square_is (from_to a b), some_square (unsigned_abs (b.x -ℤ a.x)) across)
  | inr same_x ↦ elim (cases_lt 0 (unsigned_abs (b.z -ℤ a.z))) [
    | inl along ↦ omega (arith, square_is (from_to a b), some_square (unsigned_abs (b.z -ℤ a.z)) along)
    | inr same_z ↦ absurd (apart (λ i. record { x = level a.x b.x same_x i; z = level a.z b.z same_z i }))
  ]
]
  where
    level : (m n : ℤ) → unsigned_abs (n -ℤ m) ≤ 0 → m ≡ n
    level m n none = omega (arith, ints)

-- a corner that is not one of the two, and half of a squared cell or more from the line through them
pub record IsFar (a b c : Point) : Type 0 where
  pub first : AreApart a c
  pub last : AreApart b c
  pub half : square_of (from_to a b) ≤ 2 * (unsigned_abs (orient_of a b c) * unsigned_abs (orient_of a b c))

pub far_turned : (a b c : Point) → IsFar a b c → IsFar b a c
far_turned a b c far = record {
  first = far.last;
  last = far.first;
  half = rw (side, length) far.half;
}
  where
    without_sign : (n : ℤ) → unsigned_abs (neg_ℤ n) ≡ unsigned_abs n
    without_sign n = omega (arith, ints)

    side : unsigned_abs (orient_of b a c) ≡ unsigned_abs (orient_of a b c)
    side = ap unsigned_abs (orient_of-turned a b c) ∙ without_sign (orient_of a b c)

    back : (m n : ℤ) → unsigned_abs (n -ℤ m) ≡ unsigned_abs (m -ℤ n)
    back m n = omega (arith, ints)

    length : square_of (from_to b a) ≡ square_of (from_to a b)
    length =
        square_is (from_to b a)
        ∙ ap (λ (k : ℕ). k * k + unsigned_abs (a.z -ℤ b.z) * unsigned_abs (a.z -ℤ b.z)) (back b.x a.x)
        ∙ ap (λ (k : ℕ). unsigned_abs (b.x -ℤ a.x) * unsigned_abs (b.x -ℤ a.x) + k * k) (back b.z a.z)
        ∙ sym (square_is (from_to a b))

-- (iii) such a corner deviates over each error up to 49
exceeding : (error : ℕ) (a b c : Point) → error ≤ 49 → IsFar a b c → Exceeds (deviation_of a b c) error
unfolding deviation_of orient_of
exceeding error a b c fine far =
    chosen (le_z (dot_of (from_to a b) (from_to a c)) (pos 0)) (le_z (dot_of (from_to a b) (from_to a b)) (dot_of (from_to a b) (from_to a c))) refl refl
  where
    positive : (reached length : ℤ) → le_z reached (pos 0) ≡ false → le_z length reached ≡ false → 0 < unsigned_abs length
    positive reached length e e' = omega (arith, ints)

    aside : ℕ
    aside = unsigned_abs (cross_of (from_to a b) (from_to a c))

    between : (length side : ℕ) → 0 < length → length ≤ 2 * side → error * length < 100 * side
    between length side some half = omega (arith, mul-le error length 49 length fine (le_refl length))

    chosen : (behind beyond : Bool) → le_z (dot_of (from_to a b) (from_to a c)) (pos 0) ≡ behind → le_z (dot_of (from_to a b) (from_to a b)) (dot_of (from_to a b) (from_to a c)) ≡ beyond
        → Exceeds (cond behind (record { num = square_of (from_to a c); den = 1 }) (cond beyond (record { num = square_of (from_to b c); den = 1 })
        (record { num = unsigned_abs (cross_of (from_to a b) (from_to a c)) * unsigned_abs (cross_of (from_to a b) (from_to a c)); den = square_of (from_to a b) }))) error
    chosen true beyond e e' = record { over = omega (arith, apart_by a c far.first) }
    chosen false true e e' = record { over = omega (arith, apart_by b c far.last) }
    chosen false false e e' = record {
      over = between (square_of (from_to a b)) (aside * aside) (positive (dot_of (from_to a b) (from_to a c)) (dot_of (from_to a b) (from_to a b)) e e') far.half;
    }

pub deviating : (error : ℕ) (a b c : Point) → error ≤ 49 → IsFar a b c → deviates_over error a b c ≡ true
deviating error a b c fine far = lt-ltb _ _ (exceeding error a b c fine far).over

-- the cross of two vectors of which one runs along an axis
first_alone : (m n p q : ℤ) → q ≡ pos 0 → unsigned_abs (m *ℤ n -ℤ p *ℤ q) ≡ unsigned_abs m * unsigned_abs n
first_alone m n p q none =
    ap (λ (k : ℤ). unsigned_abs (m *ℤ n -ℤ p *ℤ k)) none
    ∙ ap (λ (k : ℤ). unsigned_abs (m *ℤ n -ℤ k)) (*ℤ-zero p)
    ∙ less_nothing (m *ℤ n) ∙ unsigned_abs-mul m n
  where
    less_nothing : (k : ℤ) → unsigned_abs (k -ℤ pos 0) ≡ unsigned_abs k
    less_nothing k = omega (arith, ints)

second_alone : (m n p q : ℤ) → n ≡ pos 0 → unsigned_abs (m *ℤ n -ℤ p *ℤ q) ≡ unsigned_abs p * unsigned_abs q
second_alone m n p q none =
    ap (λ (k : ℤ). unsigned_abs (m *ℤ k -ℤ p *ℤ q)) none
    ∙ ap (λ (k : ℤ). unsigned_abs (k -ℤ p *ℤ q)) (*ℤ-zero m)
    ∙ from_nothing (p *ℤ q) ∙ unsigned_abs-mul p q
  where
    from_nothing : (k : ℤ) → unsigned_abs (pos 0 -ℤ k) ≡ unsigned_abs k
    from_nothing k = omega (arith, ints)

none_between : (m n : ℤ) → n ≡ m → n -ℤ m ≡ pos 0
none_between m n same = omega (arith, ints)

-- the side of a corner in the column or in the row of a
side_in_column : (a b c : Point) → c.x ≡ a.x → unsigned_abs (orient_of a b c) ≡ unsigned_abs (b.x -ℤ a.x) * unsigned_abs (c.z -ℤ a.z)
unfolding orient_of cross_of
side_in_column a b c same = first_alone (b.x -ℤ a.x) (c.z -ℤ a.z) (b.z -ℤ a.z) (c.x -ℤ a.x) (none_between a.x c.x same)

side_in_row : (a b c : Point) → c.z ≡ a.z → unsigned_abs (orient_of a b c) ≡ unsigned_abs (b.z -ℤ a.z) * unsigned_abs (c.x -ℤ a.x)
unfolding orient_of cross_of
side_in_row a b c same = second_alone (b.x -ℤ a.x) (c.z -ℤ a.z) (b.z -ℤ a.z) (c.x -ℤ a.x) (none_between a.z c.z same)

-- of the two parts of a vector the greater is some, and half of the squared length is no more than the greater part times any number, squared
greater_some : (m n : ℕ) → n ≤ m → 0 < m * m + n * n → 0 < m
greater_some m n less some = elim (cases_lt 0 m) [
  | inl is ↦ is
  | inr none ↦ absurd (omega (arith, mul-le m m 0 0 none none, mul-le n n 0 0 (omega (arith, less, none)) (omega (arith, less, none)), some))
]

greater_half : (m n k : ℕ) → n ≤ m → 0 < k → m * m + n * n ≤ 2 * ((m * k) * (m * k))
greater_half m n k less some =
    let longer : m ≤ m * k = omega (arith, mul-le m 1 m k (le_refl m) some) in
    omega (arith, mul-le n n m m less less, mul-le m m (m * k) (m * k) longer longer)

distance : (m n : ℤ) → ((m ≡ n) → ⊥) → 0 < unsigned_abs (n -ℤ m)
distance m n apart = elim (cases_lt 0 (unsigned_abs (n -ℤ m))) [ inl some ↦ some | inr none ↦ absurd (apart (level none)) ]
  where
    level : unsigned_abs (n -ℤ m) ≤ 0 → m ≡ n
    level none = omega (arith, ints)

no_distance : (m n k : ℤ) → k ≡ m → n ≡ k → 0 < unsigned_abs (n -ℤ m) → ⊥
no_distance m n k same same' some = omega (arith, ints)

-- where the segment goes as far along x as along z, another corner in the column of a is far; and where as far along z, one in its row
pub far_in_column : (a b c : Point) → AreApart a b → unsigned_abs (b.z -ℤ a.z) ≤ unsigned_abs (b.x -ℤ a.x) → AreApart a c → c.x ≡ a.x → IsFar a b c
far_in_column a b c apart wide other same =
    let some : 0 < unsigned_abs (b.x -ℤ a.x) = greater_some (unsigned_abs (b.x -ℤ a.x)) (unsigned_abs (b.z -ℤ a.z)) wide (omega (arith, apart_by a b apart, square_is (from_to a b))) in
    let step : 0 < unsigned_abs (c.z -ℤ a.z) = distance a.z c.z (λ level. other (λ i. record { x = sym same i; z = level i })) in
    record {
      first = other;
      last = λ met. no_distance a.x b.x c.x same (ap (λ (p : Point). p.x) met) some;
      half = rw (square_is (from_to a b), side_in_column a b c same)
          (greater_half (unsigned_abs (b.x -ℤ a.x)) (unsigned_abs (b.z -ℤ a.z)) (unsigned_abs (c.z -ℤ a.z)) wide step);
    }

pub far_in_row : (a b c : Point) → AreApart a b → unsigned_abs (b.x -ℤ a.x) ≤ unsigned_abs (b.z -ℤ a.z) → AreApart a c → c.z ≡ a.z → IsFar a b c
far_in_row a b c apart high other same =
    let m : ℕ = unsigned_abs (b.x -ℤ a.x) in
    let n : ℕ = unsigned_abs (b.z -ℤ a.z) in
    let some : 0 < n = greater_some n m high (omega (arith, apart_by a b apart, square_is (from_to a b))) in
    let step : 0 < unsigned_abs (c.x -ℤ a.x) = distance a.x c.x (λ level. other (λ i. record { x = level i; z = sym same i })) in
    let turned : m * m + n * n ≡ n * n + m * m = omega arith in
    record {
      first = other;
      last = λ met. no_distance a.z b.z c.z same (ap (λ (p : Point). p.z) met) some;
      half = rw (square_is (from_to a b), side_in_row a b c same, turned) (greater_half n m (unsigned_abs (c.x -ℤ a.x)) high step);
    }
