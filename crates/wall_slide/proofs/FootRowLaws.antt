-- Points to the left of an edge are the farther from a point on its right, the farther their rows are from the row of the point's foot on the
-- edge's line.
use Rattle.std.proofs.Common.{◌≡◌, ℕ, ◌+◌, ◌*◌, ◌-◌, ◌≤◌, ◌<◌, ◌⊎◌, inl, inr, ℤ, pos, negsuc, ◌+ℤ◌, ◌-ℤ◌, ◌*ℤ◌, ◌≤ℤ◌, ◌<ℤ◌, [], ◌∷◌, refl, sym, ap, subst, ◌∙◌, arith}
use Rattle.std.specs.Prelude.{unsigned_abs}
use Rattle.std.proofs.lemmas.Bool.{cases_lt}
use Rattle.std.proofs.lemmas.Int.{ints, unsigned_abs-mul}
use Rattle.std.proofs.lemmas.Nat.{mul-le}
use Rattle.nav_base.specs.declared.point.Point.{Point}
use Rattle.nav_base.specs.Deviation.{square_of}
use Rattle.nav_base.specs.Point.{cross_of, dot_of, from_to, orient_of}
use Rattle.nav_base.proofs.LengthLaws.{dot_of-itself, square_of-product}
use Rattle.nav_base.proofs.OrientLaws.{orient_of-apart}
use Rattle.nav_base.proofs.Polynomials.{at, number, sum, difference, product, equal}
use Rattle.mesh_place.proofs.Squares.{square_parts}
use Rattle.wall_slide.specs.declared.facing.FacingEdge.{FacingEdge}
use Rattle.wall_slide.specs.declared.facing.FootRow.{FootRow}
use Rattle.wall_slide.specs.Facing.{IsFootRise, IsFootRow}

-- ---- numbers

foot_identity : (ux uz vx vz f : ℤ)
    → (ux *ℤ (f +ℤ (ux *ℤ vz -ℤ uz *ℤ vx)) +ℤ uz *ℤ (ux *ℤ vx +ℤ uz *ℤ vz)) ≡ ((ux *ℤ ux +ℤ uz *ℤ uz) *ℤ vz +ℤ ux *ℤ f)
foot_identity ux uz vx vz f =
    equal (ux ∷ uz ∷ vx ∷ vz ∷ f ∷ [])
    (sum (product (at 0) (sum (at 4) (difference (product (at 0) (at 3)) (product (at 1) (at 2)))))
    (product (at 1) (sum (product (at 0) (at 2)) (product (at 1) (at 3)))))
    (sum (product (sum (product (at 0) (at 0)) (product (at 1) (at 1))) (at 3)) (product (at 0) (at 4)))
    refl

row_identity : (l d r e f : ℤ) → (l *ℤ (d -ℤ r)) ≡ ((l *ℤ d +ℤ e *ℤ f) -ℤ (l *ℤ r +ℤ e *ℤ f))
row_identity l d r e f =
    equal (l ∷ d ∷ r ∷ e ∷ f ∷ []) (product (at 0) (difference (at 1) (at 2)))
    (difference (sum (product (at 0) (at 1)) (product (at 3) (at 4))) (sum (product (at 0) (at 2)) (product (at 3) (at 4)))) refl

apart : (a b : ℤ) → unsigned_abs (a -ℤ b) ≤ unsigned_abs a + unsigned_abs b
apart a b = omega (arith, ints)

-- a number of the left and one of the right, and how far they are apart
far_apart : (f g c : ℤ) → (g -ℤ f) ≡ c → f <ℤ pos 0 → pos 0 ≤ℤ g → unsigned_abs c ≡ unsigned_abs f + unsigned_abs g
far_apart f g c is right left = omega (arith, ints)

square_more : (a b c : ℕ) → c ≡ a + b → a * a + b * b ≤ c * c
square_more a b c is =
    let square : (a + b) * (a + b) ≡ a * a + b * b + (a * b + a * b) = omega arith in
    let same : c * c ≡ (a + b) * (a + b) = λ i. is i * is i in
    omega (arith, square, same)

cancel : (l m n : ℕ) → 0 < l → l * m ≤ l * n → m ≤ n
cancel l m n some less =
    elim (cases_lt n m) [
      | inl more ↦
          let step : l * (n + 1) ≤ l * m = mul-le l (n + 1) l m (omega arith) (omega (arith, more)) in
          let next : l * (n + 1) ≡ l * n + l = omega arith in
          absurd (omega (arith, step, next, less, some))
      | inr least ↦ least
    ]

product_by_rows : (u v : Point) (g f : ℤ) → (g -ℤ f) ≡ cross_of u v
    → dot_of u (record { x = g; z = dot_of u v }) ≡ (pos (square_of u) *ℤ v.z +ℤ u.x *ℤ f)
unfolding dot_of cross_of
product_by_rows u v g f is =
    ap (λ (n : ℤ). u.x *ℤ n +ℤ u.z *ℤ (u.x *ℤ v.x +ℤ u.z *ℤ v.z)) (summed g f _ is)
    ∙ foot_identity u.x u.z v.x v.z f
    ∙ ap (λ (n : ℤ). n *ℤ v.z +ℤ u.x *ℤ f) (dot_of-itself u)
  where
    summed : (g f c : ℤ) → (g -ℤ f) ≡ c → g ≡ f +ℤ c
    summed g f c is = omega (arith, ints)

-- ---- the product of an edge's way, and of the way that the turn and the scalar product make

module _ (s t p q : Point) (right : orient_of s t p <ℤ pos 0) (left : pos 0 ≤ℤ orient_of s t q) where
  abbrev pub u : Point
  u = from_to s t

  abbrev pub v : Point
  v = from_to p q

  abbrev pub turn : ℕ
  turn = unsigned_abs (orient_of s t p)

  abbrev pub made : Point
  made = record { x = orient_of s t q; z = dot_of (from_to s t) (from_to p q) }

  cross_is : (orient_of s t q -ℤ orient_of s t p) ≡ cross_of u v
  cross_is = orient_of-apart s t p q

  -- the product by rows
  by_rows : dot_of u made ≡ (pos (square_of u) *ℤ v.z +ℤ u.x *ℤ orient_of s t p)
  by_rows = product_by_rows u v (orient_of s t q) (orient_of s t p) cross_is

  far : square_of u * square_of made + square_of u * (turn * turn) ≤ square_of u * (square_of u * square_of v)
  far =
      let l = square_of u in
      let g = unsigned_abs (orient_of s t q) in
      let d = unsigned_abs (dot_of u v) in
      let c = unsigned_abs (cross_of u v) in
      let more : turn * turn + g * g ≤ c * c = square_more turn g c (far_apart (orient_of s t p) (orient_of s t q) (cross_of u v) cross_is right left) in
      let parts : square_of made ≡ g * g + d * d = square_parts made in
      let whole : l * square_of v ≡ d * d + c * c = square_of-product u v in
      let sums : square_of made + turn * turn ≤ l * square_of v = omega (arith, more, parts, whole) in
      let times = mul-le l (square_of made + turn * turn) l (l * square_of v) (omega arith) sums in
      let split : l * (square_of made + turn * turn) ≡ l * square_of made + l * (turn * turn) = omega arith in
      omega (arith, times, split)

  product_least : unsigned_abs (dot_of u made) * unsigned_abs (dot_of u made) + square_of u * (turn * turn) ≤ square_of u * (square_of u * square_of v)
  product_least = omega (arith, far, square_of-product u made)

  -- a row that is near enough to the foot's
  module _ (rise : ℤ) (away : ℕ) (some : 0 < square_of u) (near : unsigned_abs (pos (square_of u) *ℤ rise +ℤ u.x *ℤ orient_of s t p) ≤ square_of u)
      (under : square_of u * away ≤ turn * turn) where
    abbrev pub rows : ℕ
    rows = unsigned_abs (v.z -ℤ rise)

    reaches : square_of u * rows ≤ unsigned_abs (dot_of u made) + square_of u
    reaches =
        let f = orient_of s t p in
        let l = square_of u in
        let product : l * rows ≡ unsigned_abs (pos l *ℤ (v.z -ℤ rise)) = sym (unsigned_abs-mul (pos l) (v.z -ℤ rise)) in
        let split : unsigned_abs (pos l *ℤ (v.z -ℤ rise)) ≡ unsigned_abs ((pos l *ℤ v.z +ℤ u.x *ℤ f) -ℤ (pos l *ℤ rise +ℤ u.x *ℤ f)) =
        ap unsigned_abs (row_identity (pos l) v.z rise u.x f) in
        let parts = apart (pos l *ℤ v.z +ℤ u.x *ℤ f) (pos l *ℤ rise +ℤ u.x *ℤ f) in
        let made_is : unsigned_abs (dot_of u made) ≡ unsigned_abs (pos l *ℤ v.z +ℤ u.x *ℤ f) = ap unsigned_abs by_rows in
        added (l * rows) _ (unsigned_abs (pos l *ℤ v.z +ℤ u.x *ℤ f)) (unsigned_abs (pos l *ℤ rise +ℤ u.x *ℤ f)) (unsigned_abs (dot_of u made)) l
        (product ∙ split) parts made_is near
      where
        added : (a b c d m l : ℕ) → a ≡ b → b ≤ c + d → m ≡ c → d ≤ l → a ≤ m + l
        added a b c d m l is parts same few = omega (arith, is, parts, same, few)

    less_one : square_of u * (rows - 1) ≤ unsigned_abs (dot_of u made)
    less_one =
        elim (cases_lt 0 rows) [
          | inl some' ↦
              let one : square_of u * rows ≡ square_of u * (rows - 1) + square_of u = next (square_of u) rows some' in
              omega (arith, reaches, one)
          | inr none ↦
              let zero : square_of u * (rows - 1) ≤ square_of u * 0 = mul-le (square_of u) (rows - 1) (square_of u) 0 (omega arith) (omega (arith, none)) in
              omega (arith, zero)
        ]
      where
        next : (l n : ℕ) → 0 < n → l * n ≡ l * (n - 1) + l
        next l n some'' =
            let is : n ≡ n - 1 + 1 = omega (arith, some'') in
            ap (λ m. l * m) is ∙ after l (n - 1)
          where
            after : (l m : ℕ) → l * (m + 1) ≡ l * m + l
            after l m = omega arith

    pub least_by_row : away + (rows - 1) * (rows - 1) ≤ square_of v
    least_by_row =
        let l = square_of u in
        let k = rows - 1 in
        let square = mul-le (l * k) (l * k) (unsigned_abs (dot_of u made)) (unsigned_abs (dot_of u made)) less_one less_one in
        let turned : l * (l * away) ≤ l * (turn * turn) = mul-le l (l * away) l (turn * turn) (omega arith) under in
        let as_is : l * k * (l * k) ≡ l * (l * (k * k)) = omega arith in
        let sums : l * (l * away) + l * (l * (k * k)) ≤ l * (l * square_of v) = omega (arith, square, turned, as_is, product_least) in
        let together : l * (l * (away + k * k)) ≡ l * (l * away) + l * (l * (k * k)) = omega arith in
        cancel l (away + k * k) (square_of v) some (cancel l (l * (away + k * k)) (l * square_of v) some (omega (arith, sums, together)))

-- ---- the row that is told

no_more : (f : ℤ) → f ≤ℤ pos 0 → f ≡ pos 0 -ℤ pos (unsigned_abs f)
no_more f less = omega (arith, ints)

no_less : (f : ℤ) → pos 0 ≤ℤ f → f ≡ pos (unsigned_abs f)
no_less f more = omega (arith, ints)

between : (x y l : ℕ) → x ≤ y → y ≤ x + l → unsigned_abs (pos x -ℤ pos y) ≤ l
between x y l least most = omega (arith, ints, least, most)

between' : (x y l : ℕ) → x ≤ y → y ≤ x + l → unsigned_abs (pos y -ℤ pos x) ≤ l
between' x y l least most = omega (arith, ints, least, most)

module _ (l m a t : ℕ) (rules : IsFootRise t a l m) where
  least : l * m ≤ a * t
  least = let under = rules.under in omega (arith, under)

  most : a * t ≤ l * m + l
  most =
      let over = rules.over in
      let next : l * (m + 1) ≡ l * m + l = omega arith in
      let turned : a * t ≡ t * a = omega arith in
      omega (arith, over, next, turned)

  near_up : unsigned_abs (pos l *ℤ pos m +ℤ pos a *ℤ (pos 0 -ℤ pos t)) ≤ l
  near_up = subst (λ (n : ℤ). unsigned_abs n ≤ l) (sym (is (pos l) (pos m) (pos a) (pos t))) (between (l * m) (a * t) l least most)
    where
      is : (x y z w : ℤ) → (x *ℤ y +ℤ z *ℤ (pos 0 -ℤ w)) ≡ (x *ℤ y -ℤ z *ℤ w)
      is x y z w =
          equal (x ∷ y ∷ z ∷ w ∷ []) (sum (product (at 0) (at 1)) (product (at 2) (difference (number (pos 0)) (at 3))))
          (difference (product (at 0) (at 1)) (product (at 2) (at 3))) refl

  near_down : unsigned_abs (pos l *ℤ (pos 0 -ℤ pos m) +ℤ (pos 0 -ℤ pos a) *ℤ (pos 0 -ℤ pos t)) ≤ l
  near_down = subst (λ (n : ℤ). unsigned_abs n ≤ l) (sym (is (pos l) (pos m) (pos a) (pos t))) (between' (l * m) (a * t) l least most)
    where
      is : (x y z w : ℤ) → (x *ℤ (pos 0 -ℤ y) +ℤ (pos 0 -ℤ z) *ℤ (pos 0 -ℤ w)) ≡ (z *ℤ w -ℤ x *ℤ y)
      is x y z w =
          equal (x ∷ y ∷ z ∷ w ∷ [])
          (sum (product (at 0) (difference (number (pos 0)) (at 1))) (product (difference (number (pos 0)) (at 2)) (difference (number (pos 0)) (at 3))))
          (difference (product (at 2) (at 3)) (product (at 0) (at 1))) refl

module _ (facing : FacingEdge) (p : Point) (foot : FootRow) where
  -- a row that is near enough to the foot's, so many rows upward
  of_rise : (rise : ℤ) → orient_of facing.begin facing.end p <ℤ pos 0 → 0 < square_of (from_to facing.begin facing.end)
      → unsigned_abs (pos (square_of (from_to facing.begin facing.end)) *ℤ rise +ℤ (facing.end.x -ℤ facing.begin.x) *ℤ orient_of facing.begin facing.end p)
      ≤ square_of (from_to facing.begin facing.end)
      → square_of (from_to facing.begin facing.end) * foot.away ≤ unsigned_abs (orient_of facing.begin facing.end p) * unsigned_abs (orient_of facing.begin facing.end p)
      → foot.row ≡ p.z +ℤ rise → IsFootRow facing p foot
  of_rise rise right some near under row q left =
      subst (λ (n : ℕ). foot.away + (n - 1) * (n - 1) ≤ square_of (from_to p q)) (ap unsigned_abs (same q.z p.z rise foot.row row))
      (least_by_row facing.begin facing.end p q right left rise foot.away some near under)
    where
      same : (n m r row' : ℤ) → row' ≡ m +ℤ r → (n -ℤ m -ℤ r) ≡ (n -ℤ row')
      same n m r row' is = omega (arith, ints)

  module _ (m length width turn : ℕ) (right : orient_of facing.begin facing.end p <ℤ pos 0)
      (length_is : length ≡ square_of (from_to facing.begin facing.end)) (width_is : width ≡ unsigned_abs (facing.end.x -ℤ facing.begin.x))
      (turn_is : turn ≡ unsigned_abs (orient_of facing.begin facing.end p)) (rules : IsFootRise turn width length m)
      (under : length * foot.away ≤ turn * turn) where
    turn_as : orient_of facing.begin facing.end p ≡ pos 0 -ℤ pos turn
    turn_as = no_more _ (omega (arith, ints, right)) ∙ ap (λ (n : ℕ). pos 0 -ℤ pos n) (sym turn_is)

    some : 0 < square_of (from_to facing.begin facing.end)
    some = let any = rules.some in omega (arith, any, length_is)

    under_as : square_of (from_to facing.begin facing.end) * foot.away ≤ unsigned_abs (orient_of facing.begin facing.end p) * unsigned_abs (orient_of facing.begin facing.end p)
    under_as = subst (λ (n : ℕ). n * foot.away ≤ unsigned_abs (orient_of facing.begin facing.end p) * unsigned_abs (orient_of facing.begin facing.end p)) length_is
        (subst (λ (n : ℕ). length * foot.away ≤ n * n) turn_is under)

    pub foot_up : facing.begin.x <ℤ facing.end.x → foot.row ≡ p.z +ℤ pos m → IsFootRow facing p foot
    foot_up up row =
        of_rise (pos m) right some
        (subst (λ (n : ℕ). unsigned_abs (pos n *ℤ pos m +ℤ (facing.end.x -ℤ facing.begin.x) *ℤ orient_of facing.begin facing.end p) ≤ n) length_is
        (subst (λ (n : ℤ). unsigned_abs (pos length *ℤ pos m +ℤ n *ℤ orient_of facing.begin facing.end p) ≤ length) (sym width_as)
        (subst (λ (n : ℤ). unsigned_abs (pos length *ℤ pos m +ℤ pos width *ℤ n) ≤ length) (sym turn_as) (near_up length m width turn rules))))
        under_as row
      where
        width_as : (facing.end.x -ℤ facing.begin.x) ≡ pos width
        width_as = no_less _ (positive facing.begin.x facing.end.x up) ∙ ap pos (sym width_is)
          where
            positive : (a b : ℤ) → a <ℤ b → pos 0 ≤ℤ (b -ℤ a)
            positive a b less' = omega (arith, ints, less')

    pub foot_down : facing.end.x ≤ℤ facing.begin.x → foot.row ≡ p.z -ℤ pos m → IsFootRow facing p foot
    foot_down down row =
        of_rise (pos 0 -ℤ pos m) right some
        (subst (λ (n : ℕ). unsigned_abs (pos n *ℤ (pos 0 -ℤ pos m) +ℤ (facing.end.x -ℤ facing.begin.x) *ℤ orient_of facing.begin facing.end p) ≤ n) length_is
        (subst (λ (n : ℤ). unsigned_abs (pos length *ℤ (pos 0 -ℤ pos m) +ℤ n *ℤ orient_of facing.begin facing.end p) ≤ length) (sym width_as)
        (subst (λ (n : ℤ). unsigned_abs (pos length *ℤ (pos 0 -ℤ pos m) +ℤ (pos 0 -ℤ pos width) *ℤ n) ≤ length) (sym turn_as)
        (near_down length m width turn rules))))
        under_as (row ∙ less foot.row p.z m)
      where
        less : (row' z : ℤ) (n : ℕ) → (z -ℤ pos n) ≡ (z +ℤ (pos 0 -ℤ pos n))
        less row' z n = omega (arith, ints)

        width_as : (facing.end.x -ℤ facing.begin.x) ≡ (pos 0 -ℤ pos width)
        width_as = no_more _ (negative facing.begin.x facing.end.x down) ∙ ap (λ (n : ℕ). pos 0 -ℤ pos n) (sym width_is)
          where
            negative : (a b : ℤ) → b ≤ℤ a → (b -ℤ a) ≤ℤ pos 0
            negative a b less' = omega (arith, ints, less')

  -- the point's own row
  pub own_row : foot.row ≡ p.z → foot.away ≡ 0 → IsFootRow facing p foot
  own_row row none q left =
      let k = unsigned_abs (q.z -ℤ foot.row) in
      let same : k ≡ unsigned_abs (q.z -ℤ p.z) = ap (λ (n : ℤ). unsigned_abs (q.z -ℤ n)) row in
      let squares : k * k ≡ unsigned_abs (q.z -ℤ p.z) * unsigned_abs (q.z -ℤ p.z) = λ i. same i * same i in
      omega (arith, none, square_parts (from_to p q), mul-le (k - 1) (k - 1) k k (omega arith) (omega arith), squares)

-- one coordinate is less than another, or not
pub either_way : (a b : ℤ) → (a <ℤ b) ⊎ (b ≤ℤ a)
either_way a b = by (b -ℤ a) refl
  where
    by : (d : ℤ) → (b -ℤ a) ≡ d → (a <ℤ b) ⊎ (b ≤ℤ a)
    by (pos k) is = elim (cases_lt 0 k) [ inl some ↦ inl (more k is some) | inr none ↦ inr (few k is none) ]
      where
        more : (k : ℕ) → (b -ℤ a) ≡ pos k → 0 < k → a <ℤ b
        more k is some = omega (arith, ints, is, some)

        few : (k : ℕ) → (b -ℤ a) ≡ pos k → k ≤ 0 → b ≤ℤ a
        few k is none = omega (arith, ints, is, none)
    by (negsuc k) is = inr (omega (arith, ints, is))
