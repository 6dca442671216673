use Rattle.std.proofs.Common.{◌≡◌, ◌∙◌, arith}
use Rattle.std.specs.Prelude.{ℤ, pos, ◌+ℤ◌, ◌-ℤ◌, int_le, ◌&&◌}
use Rattle.std.proofs.lemmas.Int.{ints}
use mir.Syntax.{w64}
use mir.Val.{to_z, of_z}
use Rattle.agent_erode.proofs.windows.is_between.Goals as goal

-- tests of equal numbers
within_same : (a b c a' b' c' : ℤ) → a ≡ a' → b ≡ b' → c ≡ c' → (int_le a b && int_le b c) ≡ (int_le a' b' && int_le b' c')
within_same a b c a' b' c' e f g = cc

pub returns : goal.returns
returns c =
    let seen = λ (z : ℤ). to_z w64 (of_z w64 z) in
    let least = seen (seen c.from.result -ℤ seen c.from-margin.result) in
    let most = seen (seen c.from-3.result +ℤ seen c.from-margin.result) in
    let number = seen c.from-2.result in
    c.is_within.ensures ∙ within_same least number most (c.args.least -ℤ pos c.args.margin) (pos c.args.number) (c.args.most +ℤ pos c.args.margin)
    (omega (arith, ints)) (omega (arith, ints)) (omega (arith, ints))
