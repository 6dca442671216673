use Rattle.std.proofs.Common.{◌≡◌, true, ℤ, pos, ap, ◌∙◌, subst, rules, w64, arith}
use Rattle.std.specs.Prelude.{int_le, ◌≤ℤ◌}
use Rattle.std.proofs.lemmas.Int.{ints, to_z-of_z}
use Rattle.nav_base.specs.Point.{orient_of}
use Rattle.fine_walk.proofs.onward.meets.Goals as goal

-- what the tests of a number say, where it is read from a value
not_below : (read n : ℤ) → read ≡ n → int_le (pos 0) read ≡ true → pos 0 ≤ℤ n
not_below read n is test = subst (λ (m : ℤ). pos 0 ≤ℤ m) is (grind (arith, ints))

not_above : (read n : ℤ) → read ≡ n → int_le read (pos 0) ≡ true → n ≤ℤ pos 0
not_above read n is test = subst (λ (m : ℤ). m ≤ℤ pos 0) is (grind (arith, ints))

passes_where : (read n : ℤ) → read ≡ n → n ≤ℤ pos 0 → int_le read (pos 0) ≡ true
passes_where read n is low = ap (λ (m : ℤ). int_le m (pos 0)) is ∙ passes n low
  where
    passes : (m : ℤ) → m ≤ℤ pos 0 → int_le m (pos 0) ≡ true
    passes m least = grind (arith, ints)

pub returns-then-turn-ge0 : goal.returns-then-turn-ge0
returns-then-turn-ge0 c =
    let left = to_z-of_z w64 c.turn.result (search rules) ∙ c.turn.ensures.value ∙ ap (orient_of c.args.ray.from c.args.ray.to) c.fine.ensures.value in
    let right =
    to_z-of_z w64 c.turn-then-turn-ge0.result (search rules) ∙ c.turn-then-turn-ge0.ensures.value
    ∙ ap (orient_of c.args.ray.from c.args.ray.to) c.fine-then-turn-ge0.ensures.value in (
      λ passes. record { left = not_below _ _ left c.if-turn-ge0.true; right = not_above _ _ right passes },
      λ is. passes_where _ _ right is.right,
    )
