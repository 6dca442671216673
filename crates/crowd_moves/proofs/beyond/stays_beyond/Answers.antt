use Rattle.std.proofs.Common.{◌≡◌, ℤ, pos, ◌-ℤ◌, ◌≤ℤ◌, ◌∙◌, ap, sym, subst, w64, to_z, of_z, arith}
use Rattle.std.proofs.lemmas.Int.{ints}
use Rattle.crowd_moves.proofs.BeyondLaws.{concluded, dot_not_negative}
use Rattle.crowd_moves.proofs.Readings.{reads_within}
use Rattle.crowd_moves.proofs.beyond.stays_beyond.Goals as goal

pub is_never_below-requires-clause-first : goal.is_never_below-requires-clause-first
is_never_below-requires-clause-first c =
    let some : pos 0 ≤ℤ c.dot.result = subst (λ (n : ℤ). pos 0 ≤ℤ n) (sym c.dot.ensures.value) (dot_not_negative c.args.place) in
    omega (arith, ints, c.dot.ensures.small, c.from.ensures, c.requires.gap)

pub is_never_below-requires-clause-square : goal.is_never_below-requires-clause-square
is_never_below-requires-clause-square c =
    let some : pos 0 ≤ℤ c.dot-moved.result = subst (λ (n : ℤ). pos 0 ≤ℤ n) (sym c.dot-moved.ensures.value) (dot_not_negative c.args.way) in
    omega (arith, ints, c.dot-moved.ensures.small)

pub returns : goal.returns
returns c =
    let some : pos 0 ≤ℤ c.dot.result = subst (λ (n : ℤ). pos 0 ≤ℤ n) (sym c.dot.ensures.value) (dot_not_negative c.args.place) in
    let over : to_z w64 (of_z w64 (to_z w64 (of_z w64 c.dot.result) -ℤ to_z w64 (of_z w64 c.from.result))) ≡ c.dot.result -ℤ pos c.args.gap =
    omega (arith, ints, c.dot.ensures.small, c.from.ensures, c.requires.gap) in
    concluded c.args.gap c.args.place c.args.way _ _ _ _ c.is_never_below.ensures
    (over ∙ ap (λ (n : ℤ). n -ℤ pos c.args.gap) c.dot.ensures.value)
    (reads_within c.dot-toward.result (omega (arith, c.dot-toward.ensures.small)) ∙ c.dot-toward.ensures.value)
    (reads_within c.dot-moved.result (omega (arith, c.dot-moved.ensures.small)) ∙ c.dot-moved.ensures.value)
