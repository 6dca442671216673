-- Two that are far apart keep their distance, whatever they do in one step.
use Rattle.std.proofs.Common.{◌≡◌, ℕ, ◌+◌, ◌*◌, ◌<◌, ◌≤◌, ◌^◌, Bool, true, false, ℤ, pos, ◌+ℤ◌, ◌*ℤ◌, ◌≤ℤ◌, refl, subst, ap, ◌∙◌, inl, inr, arith}
use Rattle.std.specs.Prelude.{unsigned_abs, nat_le, ◌||◌, if◌then◌else◌, ◌⊎◌}
use Rattle.std.proofs.lemmas.Bool.{cases_lt}
use Rattle.std.proofs.lemmas.Int.{ints, unsigned_abs-mul}
use Rattle.std.proofs.lemmas.Nat.{mul-le}
use Rattle.nav_base.specs.declared.point.Point.{Point}
use Rattle.nav_base.specs.Point.{IsWithin, dot_of, from_to}
use Rattle.nav_base.specs.Deviation.{square_of}
use Rattle.nav_base.proofs.Signs.{square-not_negative}
use Rattle.crowd_moves.specs.declared.agents.CrowdAgent.{CrowdAgent}
use Rattle.crowd_moves.specs.declared.agents.CrowdMove.{CrowdMove}
use Rattle.crowd_moves.specs.Beyond.{place_along, KeepsBeyond}
use Rattle.crowd_moves.specs.Pairs.{gap_of, is_apart, touching_square, square_between, HasSizes, IsMover, IsNear}
use Rattle.crowd_moves.specs.Laws.{ComeNoNearer, DoStayApart}

-- the square of a part is no more than that of the whole
part_below : (m n : ℤ) → pos 0 ≤ℤ m → pos 0 ≤ℤ n → unsigned_abs m ≤ unsigned_abs (m +ℤ n)
part_below m n h k = omega (arith, ints)

other_below : (m n : ℤ) → pos 0 ≤ℤ m → pos 0 ≤ℤ n → unsigned_abs n ≤ unsigned_abs (m +ℤ n)
other_below m n h k = omega (arith, ints)

pub across_below : (v : Point) → unsigned_abs v.x * unsigned_abs v.x ≤ square_of v
unfolding dot_of
across_below v = rw (← unsigned_abs-mul v.x v.x) (part_below (v.x *ℤ v.x) (v.z *ℤ v.z) (square-not_negative v.x) (square-not_negative v.z))

pub along_below : (v : Point) → unsigned_abs v.z * unsigned_abs v.z ≤ square_of v
unfolding dot_of
along_below v = rw (← unsigned_abs-mul v.z v.z) (other_below (v.x *ℤ v.x) (v.z *ℤ v.z) (square-not_negative v.x) (square-not_negative v.z))

-- and the square of the whole is that of both parts
pub squares_sum : (v : Point) → square_of v ≡ unsigned_abs v.x * unsigned_abs v.x + unsigned_abs v.z * unsigned_abs v.z
unfolding dot_of
squares_sum v =
    both (v.x *ℤ v.x) (v.z *ℤ v.z) (square-not_negative v.x) (square-not_negative v.z)
    ∙ (λ i. unsigned_abs-mul v.x v.x i + unsigned_abs-mul v.z v.z i)
  where
    both : (m n : ℤ) → pos 0 ≤ℤ m → pos 0 ≤ℤ n → unsigned_abs (m +ℤ n) ≡ unsigned_abs m + unsigned_abs n
    both m n h k = omega (arith, ints)

-- who goes no farther than its speed goes no farther either way
root_below : (m n : ℕ) → m * m ≤ n * n → m ≤ n
root_below m n h = elim (cases_lt n m) [ inl above ↦ absurd (clash above (mul-le (n + 1) (n + 1) m m (omega (arith, above)) (omega (arith, above)))) | inr most ↦ most ]
  where
    clash : n < m → (n + 1) * (n + 1) ≤ m * m → ⊥
    clash above k = apart n (n * n) (m * m) ((n + 1) * (n + 1)) (spread n) h k
      where
        spread : (n : ℕ) → (n + 1) * (n + 1) ≡ n * n + 2 * n + 1
        spread n = omega arith

        apart : (n a b c : ℕ) → c ≡ a + 2 * n + 1 → b ≤ a → c ≤ b → ⊥
        apart n a b c e f g = omega arith

pub slow_within : (v : Point) (speed : ℕ) → square_of v ≤ speed * speed → IsWithin speed v
slow_within v speed slow = record {
  across = root_below (unsigned_abs v.x) speed (omega (arith, slow, across_below v));
  along = root_below (unsigned_abs v.z) speed (omega (arith, slow, along_below v));
}

-- what is within a bound is within each larger one
pub within_more : (v : Point) (p q : ℕ) → p ≤ q → IsWithin p v → IsWithin q v
within_more v p q h within = record { across = omega (arith, h, within.across); along = omega (arith, h, within.along) }

-- two vectors of no more than their speeds differ by no more than both
pub both_within : (m n : Point) (p q : ℕ) → IsWithin p m → IsWithin q n → IsWithin (p + q) (from_to m n)
both_within m n p q first second = record { across = omega (arith, ints); along = omega (arith, ints) }

-- ---- a coordinate that is too large to be used up

coordinate_left : (r s num den : ℕ) (d v : ℤ) → r + s ≤ unsigned_abs d → unsigned_abs v ≤ s → num ≤ den
    → den * r ≤ unsigned_abs (pos den *ℤ d +ℤ pos num *ℤ v)
coordinate_left r s num den d v far slow within =
    left (pos den *ℤ d) (pos num *ℤ v) (den * r) (den * s) (num * s)
    (rw (unsigned_abs-mul (pos den) d) (room (mul-le den (r + s) den (unsigned_abs d) (omega arith) far)))
    (rw (unsigned_abs-mul (pos num) v) (mul-le num (unsigned_abs v) num s (omega arith) slow))
    (mul-le num s den s within (omega arith))
  where
    room : den * (r + s) ≤ den * unsigned_abs d → den * r + den * s ≤ den * unsigned_abs d
    room h = omega (arith, h)

    left : (x y : ℤ) (a b c : ℕ) → a + b ≤ unsigned_abs x → unsigned_abs y ≤ c → c ≤ b → a ≤ unsigned_abs (x +ℤ y)
    left x y a b c h k l = omega (arith, ints)

squares : (r den k : ℕ) → den * r ≤ k → r * r * (den * den) ≤ k * k
squares r den k h = same (mul-le (den * r) (den * r) k k h h)
  where
    same : den * r * (den * r) ≤ k * k → r * r * (den * den) ≤ k * k
    same g = omega (arith, g)

-- so two whose way across or along exceeds r by s, and which change by no more than s, keep r
pub far_across : (r s : ℕ) (place way : Point) → r + s ≤ unsigned_abs place.x → unsigned_abs way.x ≤ s → KeepsBeyond (r * r) place way
far_across r s place way far slow num den some within =
    together _ _ _ (squares r den _ (coordinate_left r s num den place.x way.x far slow within)) (across_below (place_along place way num den))
  where
    together : (a b c : ℕ) → a ≤ b → b ≤ c → a ≤ c
    together a b c h k = omega arith

pub far_along : (r s : ℕ) (place way : Point) → r + s ≤ unsigned_abs place.z → unsigned_abs way.z ≤ s → KeepsBeyond (r * r) place way
far_along r s place way far slow num den some within =
    together _ _ _ (squares r den _ (coordinate_left r s num den place.z way.z far slow within)) (along_below (place_along place way num den))
  where
    together : (a b c : ℕ) → a ≤ b → b ≤ c → a ≤ c
    together a b c h k = omega arith

-- who keeps a distance keeps each smaller one
pub keeps_less : (less gap : ℕ) (place way : Point) → less ≤ gap → KeepsBeyond gap place way → KeepsBeyond less place way
keeps_less less gap place way h keeps num den some within =
    together _ _ _ (mul-le less (den * den) gap (den * den) h (omega arith)) (keeps num den some within)
  where
    together : (a b c : ℕ) → a ≤ b → b ≤ c → a ≤ c
    together a b c h k = omega arith

-- ---- two agents

-- what two are to keep is no more than their radii together
pub gap_small : (height : ℕ) (a b : CrowdAgent) → gap_of height a b ≤ touching_square a b
gap_small height a b = by_case (is_apart height a b) refl
  where
    overlap : (x y : Bool) → (x || y) ≡ false → y ≡ false
    overlap true y is = absurd cc
    overlap false y is = is

    less : (m n : ℕ) → nat_le m n ≡ false → n ≤ m
    less m n is = grind arith

    chosen : (v : Bool) → is_apart height a b ≡ v → (if v then touching_square a b else square_between a b) ≤ touching_square a b
    chosen true is = omega arith
    chosen false is = less (touching_square a b) (square_between a b) (overlap _ _ is)

    by_case : (v : Bool) → is_apart height a b ≡ v → gap_of height a b ≤ touching_square a b
    by_case v is = chosen (is_apart height a b) refl

-- two are near or not
pub near_or_far : (a b : CrowdAgent) → IsNear a b ⊎ (IsNear a b → ⊥)
near_or_far a b = elim (cases_lt (a.radius + b.radius + a.speed + b.speed) (unsigned_abs (from_to a.at b.at).x)) [
  | inl across ↦ inr (λ near. omega (arith, across, near.across))
  | inr within ↦ elim (cases_lt (a.radius + b.radius + a.speed + b.speed) (unsigned_abs (from_to a.at b.at).z)) [
    | inl along ↦ inr (λ near. omega (arith, along, near.along))
    | inr within' ↦ inl (record { across = within; along = within' })
  ]
]

-- two that are not near keep it, whatever they do in one step
pub far_clear : (height : ℕ) (a b : CrowdAgent) (m n : CrowdMove) → IsMover a m → IsMover b n → (IsNear a b → ⊥)
    → KeepsBeyond (gap_of height a b) (from_to a.at b.at) (from_to m.by n.by)
far_clear height a b m n first second far =
    keeps_less (gap_of height a b) (touching_square a b) (from_to a.at b.at) (from_to m.by n.by) (gap_small height a b)
    (elim (cases_lt (a.radius + b.radius + a.speed + b.speed) (unsigned_abs place.x)) [
      | inl across ↦ far_across (a.radius + b.radius) (a.speed + b.speed) place way (omega (arith, across)) slow.across
      | inr within ↦ elim (cases_lt (a.radius + b.radius + a.speed + b.speed) (unsigned_abs place.z)) [
        | inl along ↦ far_along (a.radius + b.radius) (a.speed + b.speed) place way (omega (arith, along)) slow.along
        | inr within' ↦ absurd (far (record { across = within; along = within' }))
      ]
    ])
  where
    place : Point
    place = from_to a.at b.at

    way : Point
    way = from_to m.by n.by

    slow : IsWithin (a.speed + b.speed) way
    slow = both_within m.by n.by a.speed b.speed (slow_within m.by a.speed first.slow) (slow_within n.by b.speed second.slow)

-- ---- the gap by cases

-- the square of two radii together
pub touching_small : (a b : CrowdAgent) → HasSizes a → HasSizes b → touching_square a b ≤ 2 ^ 30
touching_small a b first second =
    let most = mul-le (a.radius + b.radius) (a.radius + b.radius) 16382 16382 (omega (arith, first.radius, second.radius)) (omega (arith, first.radius, second.radius)) in
    omega (arith, most)

chosen_gap : (v : Bool) (height : ℕ) (a b : CrowdAgent) → is_apart height a b ≡ v → gap_of height a b ≡ (if v then touching_square a b else square_between a b)
chosen_gap v height a b is = ap (λ (w : Bool). if w then touching_square a b else square_between a b) is

pub apart_gap : (height : ℕ) (a b : CrowdAgent) → is_apart height a b ≡ true → gap_of height a b ≡ touching_square a b
apart_gap height a b is = chosen_gap true height a b is

pub overlap_gap : (height : ℕ) (a b : CrowdAgent) → is_apart height a b ≡ false → gap_of height a b ≡ square_between a b
overlap_gap height a b is = chosen_gap false height a b is

pub stays_apart : DoStayApart
stays_apart height a b m n clear is = elim clear [
  | inl passes ↦ inl passes
  | inr keeps ↦ inr (subst (λ (gap : ℕ). KeepsBeyond gap (from_to a.at b.at) (from_to m.by n.by)) (apart_gap height a b is) keeps)
]

pub comes_no_nearer : ComeNoNearer
comes_no_nearer height a b m n clear is = elim clear [
  | inl passes ↦ inl passes
  | inr keeps ↦ inr (subst (λ (gap : ℕ). KeepsBeyond gap (from_to a.at b.at) (from_to m.by n.by)) (overlap_gap height a b is) keeps)
]
