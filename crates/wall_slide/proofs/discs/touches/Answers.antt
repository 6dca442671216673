use Rattle.std.proofs.Common.{◌≡◌, ℕ, ◌*◌, ◌∙◌, ap, rules, w64, arith}
use Rattle.std.specs.Prelude.{unsigned_abs}
use Rattle.std.proofs.lemmas.Int.{to_z-of_z}
use Rattle.wall_slide.proofs.DiscLaws.{at_left, at_right, between, is_far, is_near, not_above, above, passed, passes}
use Rattle.wall_slide.proofs.RowLaws.{square-most}
use Rattle.wall_slide.proofs.discs.touches.Goals as goal

pub returns-then-toward-le0 : goal.returns-then-toward-le0
returns-then-toward-le0 c =
    let toward = to_z-of_z w64 c.toward-toward.result (search rules) ∙ c.toward-toward.ensures in
    let same = at_right c.args.motion.from c.args.motion.to c.args.portal (not_above _ _ toward c.if-toward-le0.true) in
    (λ is. same.1 (c.sees_ends.ensures.0 is), λ is. c.sees_ends.ensures.1 (same.0 is))

pub overflow_mul-square : goal.overflow_mul-square
overflow_mul-square c =
    let most = square-most c.args.portal.right c.args.portal.left c.requires.right c.requires.left in
    record { fits = omega (arith, most, c.square_distance-square.ensures) }

pub returns-then-unsigned_abs-square : goal.returns-then-unsigned_abs-square
returns-then-unsigned_abs-square c =
    let toward = to_z-of_z w64 c.toward-toward.result (search rules) ∙ c.toward-toward.ensures in
    let size = c.unsigned_abs.ensures.value ∙ ap unsigned_abs toward in
    let some = above _ _ toward c.if-toward-le0.false in
    let same = at_left c.args.motion.from c.args.motion.to c.args.portal some
    (is_far c.args.portal.right c.args.portal.left _ some (omega (arith, size, c.square_distance-square.ensures, c.if-unsigned_abs-square.true))) in
    (λ is. same.1 (c.sees_ends-then-unsigned_abs-square.ensures.0 is), λ is. c.sees_ends-then-unsigned_abs-square.ensures.1 (same.0 is))

squares : {m n : ℕ} → m ≡ n → m * m ≡ n * n
squares is = λ i. is i * is i

products : {m n p q : ℕ} → m ≡ n → p ≡ q → m * p ≡ n * q
products is is' = λ i. is i * is' i

pub returns : goal.returns
returns c =
    let toward = to_z-of_z w64 c.toward-toward.result (search rules) ∙ c.toward-toward.ensures in
    let size = c.unsigned_abs.ensures.value ∙ ap unsigned_abs toward in
    let some = above _ _ toward c.if-toward-le0.false in
    let same = between c.args.motion.from c.args.motion.to c.args.portal some
    (is_near c.args.portal.right c.args.portal.left _ some (omega (arith, size, c.square_distance-square.ensures, c.if-unsigned_abs-square.false))) in
    let turn = to_z-of_z w64 c.aside.result (search rules) ∙ c.aside.ensures in
    let m = c.from-aside.ensures ∙ c.unsigned_abs-2.ensures.value ∙ ap unsigned_abs turn in
    let q = c.from.ensures ∙ c.square_distance-square.ensures in
    let s = c.from-2.ensures ∙ c.square_distance.ensures in
    let left = squares m in
    let right = products q s in
    (λ is. same.1 (omega (arith, passed (c.from-aside.result * c.from-aside.result) (c.from.result * c.from-2.result) is, left, right)), λ is. passes _ _ (omega (arith, same.0 is, left, right)))
