use Rattle.std.proofs.Common.{◌≡◌, ◌∙◌, arith}
use Rattle.std.specs.Prelude.{ℤ, pos, ◌+ℤ◌, ◌-ℤ◌}
use Rattle.std.proofs.lemmas.Int.{ints}
use mir.Syntax.{w64}
use mir.Val.{to_z, of_z}
use Rattle.nav_ground.specs.Touching.{are_overlapping}
use Rattle.live_ground.proofs.reach.is_reaching.Goals as goal

-- tests of equal ranges
ranges_same : (a b c d a' b' c' d' : ℤ) → a ≡ a' → b ≡ b' → c ≡ c' → d ≡ d' → are_overlapping a b c d ≡ are_overlapping a' b' c' d'
ranges_same a b c d a' b' c' d' e f g h = λ i. are_overlapping (e i) (f i) (g i) (h i)

pub returns : goal.returns
returns c =
    let seen = λ (z : ℤ). to_z w64 (of_z w64 z) in
    let least = seen (seen c.from.result -ℤ seen c.from-reach.result) in
    let most = seen (seen c.from-2.result +ℤ seen c.from-reach.result) in
    c.are_overlapping.ensures ∙ ranges_same least most (seen c.from-3.result) (seen c.from-4.result)
    (c.args.a0 -ℤ pos c.args.reach) (c.args.a1 +ℤ pos c.args.reach) c.args.b0 c.args.b1
    (omega (arith, ints)) (omega (arith, ints)) (omega (arith, ints)) (omega (arith, ints))
