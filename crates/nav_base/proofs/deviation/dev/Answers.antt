-- Where the point lies between the ends of the segment, and where it lies beyond the second, the tests choose the definition's case.
use Rattle.std.proofs.Common.{◌≡◌, ℕ, ◌*◌, ◌^◌, ◌≤◌, ℤ, pos, Bool, true, false, cond, FitsSigned, Fits, w64, to_z, of_z, refl, sym, ap, ◌∙◌, rules, arith}
use Rattle.std.specs.Prelude.{unsigned_abs}
use Rattle.std.specs.Int.Signed.{le_z}
use Rattle.std.proofs.lemmas.Int.{to_z-of_z}
use Rattle.std.proofs.lemmas.Nat.{mul-le}
use Rattle.nav_base.specs.declared.deviation.Deviation.{Deviation}
use Rattle.nav_base.specs.Point.{from_to, dot_of, cross_of}
use Rattle.nav_base.specs.Deviation.{square_of, deviation_of}
use Rattle.nav_base.specs.Vector.{point_of}
use Rattle.nav_base.proofs.Sizes.{from_to-corners, cross_of-bound}
use Rattle.nav_base.proofs.deviation.dev.Goals as goal

-- what the code tests is what the definition tests
test_is : (m n m' n' : ℤ) (answer : Bool) → FitsSigned w64 m → FitsSigned w64 n → m ≡ m' → n ≡ n' → le_z (to_z w64 (of_z w64 m)) (to_z w64 (of_z w64 n)) ≡ answer → le_z m' n' ≡ answer
test_is m n m' n' answer fits fits' e e' test = (λ i. le_z (sym (to_z-of_z w64 m fits ∙ e) i) (sym (to_z-of_z w64 n fits' ∙ e') i)) ∙ test

second : (x y : Bool) (a b c d : Deviation) → x ≡ false → y ≡ true → d ≡ b → d ≡ cond x a (cond y b c)
second x y a b c d e f g = rw e (rw f g)

third : (x y : Bool) (a b c d : Deviation) → x ≡ false → y ≡ false → d ≡ c → d ≡ cond x a (cond y b c)
third x y a b c d e f g = rw e (rw f g)

-- a record of two equal parts
fraction : (m n m' n' : ℕ) → m ≡ m' → n ≡ n' → (let first : Deviation = record { num = m; den = n } in let other : Deviation = record { num = m'; den = n' } in first ≡ other)
fraction m n m' n' e f = λ i. record { num = e i; den = f i }

pub returns-then-reached-length-clause-value : goal.returns-then-reached-length-clause-value
unfolding deviation_of
returns-then-reached-length-clause-value c =
    let along = c.between-along.ensures.value in
    let to_point = c.between-to_point.ensures.value in
    let reached = c.dot-reached.ensures ∙ (λ i. dot_of (point_of (along i)) (point_of (to_point i))) in
    let length = c.dot-length.ensures ∙ (λ i. dot_of (point_of (along i)) (point_of (along i))) in
    let beyond = c.square-then-reached-length.ensures ∙ (λ i. square_of (point_of (c.between.ensures.value i))) in
    second _ _ _ _ _ _
    (test_is c.dot-reached.result (pos 0) _ (pos 0) false (search rules) (search rules) reached refl c.if-reached-le0.false)
    (test_is c.dot-length.result c.dot-reached.result _ _ true (search rules) (search rules) length reached c.if-reached-length.true)
    (fraction _ _ _ _ beyond refl)

square_fits : (n : ℕ) → n ≤ 2 ^ 21 → Fits w64 (n * n)
square_fits n small = record { fits = omega (arith, mul-le n n (2 ^ 21) (2 ^ 21) small small) }

pub overflow_mul-result : goal.overflow_mul-result
overflow_mul-result c =
    let along = c.between-along.ensures.value in
    let to_point = c.between-to_point.ensures.value in
    let cross = c.cross.ensures ∙ (λ i. cross_of (point_of (along i)) (point_of (to_point i))) in
    let aside = c.unsigned_abs-aside.ensures.value ∙ ap unsigned_abs (to_z-of_z w64 c.cross.result (search rules) ∙ cross) in
    let a = c.args.a in
    square_fits _ (omega (arith, aside, cross_of-bound 1024 (from_to a c.args.b) (from_to a c.args.p) (from_to-corners a c.args.b c.requires.first c.requires.second) (from_to-corners a c.args.p c.requires.first c.requires.point)))

pub returns-clause-value : goal.returns-clause-value
unfolding deviation_of
returns-clause-value c =
    let along = c.between-along.ensures.value in
    let to_point = c.between-to_point.ensures.value in
    let reached = c.dot-reached.ensures ∙ (λ i. dot_of (point_of (along i)) (point_of (to_point i))) in
    let length = c.dot-length.ensures ∙ (λ i. dot_of (point_of (along i)) (point_of (along i))) in
    let cross = c.cross.ensures ∙ (λ i. cross_of (point_of (along i)) (point_of (to_point i))) in
    let aside = c.unsigned_abs-aside.ensures.value ∙ ap unsigned_abs (to_z-of_z w64 c.cross.result (search rules) ∙ cross) in
    let square = c.square-2.ensures ∙ (λ i. square_of (point_of (along i))) in
    third _ _ _ _ _ _
    (test_is c.dot-reached.result (pos 0) _ (pos 0) false (search rules) (search rules) reached refl c.if-reached-le0.false)
    (test_is c.dot-length.result c.dot-reached.result _ _ false (search rules) (search rules) length reached c.if-reached-length.false)
    (fraction _ _ _ _ (λ i. aside i * aside i) square)
