-- Where the point lies between the ends of the segment, and where it lies beyond one, the tests choose the definition's case.
use Rattle.std.proofs.Common.{◌≡◌, ℕ, ◌*◌, ◌^◌, ◌≤◌, ℤ, pos, Bool, true, false, cond, FitsSigned, Fits, w64, to_z, of_z, refl, sym, ap, ◌∙◌, rules, arith}
use Rattle.std.specs.Prelude.{unsigned_abs}
use Rattle.std.specs.Int.Signed.{le_z}
use Rattle.std.proofs.lemmas.Int.{to_z-of_z}
use Rattle.std.proofs.lemmas.Nat.{mul-le}
use Rattle.nav_base.specs.declared.deviation.Deviation.{Deviation}
use Rattle.nav_base.specs.declared.point.Point.{Point}
use Rattle.nav_base.specs.Point.{IsInField, from_to, cross_of, orient_of}
use Rattle.nav_base.specs.Deviation.{deviation_of}
use Rattle.nav_base.proofs.Sizes.{cross_of-bound, from_to-field}
use Rattle.wall_query.proofs.distances.distance_to.Goals as goal

-- what the code tests is what the definition tests
test_is : (m n m' n' : ℤ) (answer : Bool) → FitsSigned w64 m → FitsSigned w64 n → m ≡ m' → n ≡ n' → le_z (to_z w64 (of_z w64 m)) (to_z w64 (of_z w64 n)) ≡ answer → le_z m' n' ≡ answer
test_is m n m' n' answer fits fits' e e' test = (λ i. le_z (sym (to_z-of_z w64 m fits ∙ e) i) (sym (to_z-of_z w64 n fits' ∙ e') i)) ∙ test

first : (x : Bool) (a b d : Deviation) → x ≡ true → d ≡ a → d ≡ cond x a b
first x a b d e f = rw e f

second : (x y : Bool) (a b c d : Deviation) → x ≡ false → y ≡ true → d ≡ b → d ≡ cond x a (cond y b c)
second x y a b c d e f g = rw e (rw f g)

third : (x y : Bool) (a b c d : Deviation) → x ≡ false → y ≡ false → d ≡ c → d ≡ cond x a (cond y b c)
third x y a b c d e f g = rw e (rw f g)

-- a record of two equal parts
fraction : (m n m' n' : ℕ) → m ≡ m' → n ≡ n' → (let first : Deviation = record { num = m; den = n } in let other : Deviation = record { num = m'; den = n' } in first ≡ other)
fraction m n m' n' e f = λ i. record { num = e i; den = f i }

square_fits : (n : ℕ) → n ≤ 2 ^ 29 → Fits w64 (n * n)
square_fits n small = record { fits = omega (arith, mul-le n n (2 ^ 29) (2 ^ 29) small small) }

small_turn : (a b p : Point) → IsInField a → IsInField b → IsInField p → unsigned_abs (orient_of a b p) ≤ 2 ^ 29
unfolding orient_of
small_turn a b p ha hb hp =
    let bound = cross_of-bound 16384 (from_to a b) (from_to a p) (from_to-field a b ha hb) (from_to-field a p ha hp) in
    omega (arith, bound)

turn_is : (a b p : Point) → unsigned_abs (orient_of a b p) ≡ unsigned_abs (cross_of (from_to a b) (from_to a p))
unfolding orient_of
turn_is a b p = refl

pub returns-then-reached-le0 : goal.returns-then-reached-le0
unfolding deviation_of
returns-then-reached-le0 c =
    first _ _ _ _
    (test_is c.dot-reached.result (pos 0) _ (pos 0) true (search rules) (search rules) c.dot-reached.ensures refl c.if-reached-le0.true)
    c.to_point.ensures

pub returns-then-reached-dot : goal.returns-then-reached-dot
unfolding deviation_of
returns-then-reached-dot c =
    second _ _ _ _ _ _
    (test_is c.dot-reached.result (pos 0) _ (pos 0) false (search rules) (search rules) c.dot-reached.ensures refl c.if-reached-le0.false)
    (test_is c.dot.result c.dot-reached.result _ _ true (search rules) (search rules) c.dot.ensures c.dot-reached.ensures c.if-reached-dot.true)
    c.to_point-then-reached-dot.ensures

pub overflow_mul-result : goal.overflow_mul-result
overflow_mul-result c =
    let aside = c.unsigned_abs-aside.ensures.value ∙ ap unsigned_abs (to_z-of_z w64 c.orient.result (search rules) ∙ c.orient.ensures) in
    square_fits _ (omega (arith, aside, small_turn c.args.a c.args.b c.args.p c.requires.first c.requires.second c.requires.point))

pub returns : goal.returns
unfolding deviation_of
returns c =
    let aside = c.unsigned_abs-aside.ensures.value ∙ ap unsigned_abs (to_z-of_z w64 c.orient.result (search rules) ∙ c.orient.ensures)
    ∙ turn_is c.args.a c.args.b c.args.p in
    third _ _ _ _ _ _
    (test_is c.dot-reached.result (pos 0) _ (pos 0) false (search rules) (search rules) c.dot-reached.ensures refl c.if-reached-le0.false)
    (test_is c.dot.result c.dot-reached.result _ _ false (search rules) (search rules) c.dot.ensures c.dot-reached.ensures c.if-reached-dot.false)
    (fraction _ _ _ _ (λ i. aside i * aside i) c.square_distance.ensures)
