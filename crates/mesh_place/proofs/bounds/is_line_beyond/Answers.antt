use Rattle.std.proofs.Common.{◌≡◌, ◌*◌, ◌<◌, ℤ, pos, false, ap, ◌∙◌, subst, rules, w64, arith}
use Rattle.std.specs.Prelude.{int_le, unsigned_abs, ◌<ℤ◌}
use Rattle.std.proofs.lemmas.Bool.{ltb-true}
use Rattle.std.proofs.lemmas.Int.{ints, to_z-of_z}
use Rattle.nav_base.specs.Deviation.{square_of}
use Rattle.nav_base.specs.Point.{from_to, orient_of}
use Rattle.mesh_place.proofs.BoundLaws.{line_beyond}
use Rattle.mesh_place.proofs.bounds.is_line_beyond.Goals as goal

-- what the test of a number says, where it is read from a value
below : (read n : ℤ) → read ≡ n → int_le (pos 0) read ≡ false → n <ℤ pos 0
below read n is test = subst (λ (m : ℤ). m <ℤ pos 0) is (grind (arith, ints))

pub returns : goal.returns
returns c passes q left =
    let begin = c.args.begin in
    let end = c.args.end in
    let p = c.args.p in
    let turn = to_z-of_z w64 c.orient-turn.result (search rules) ∙ c.orient-turn.ensures in
    let size : c.from-right.result ≡ unsigned_abs (orient_of begin end p) =
    c.from-right.ensures ∙ c.unsigned_abs.ensures.value ∙ ap unsigned_abs turn in
    let length = c.from-2.ensures ∙ c.square_distance.ensures.value in
    let limit = c.from.ensures in
    let few : (c.from.result * c.from-2.result) ≡ (c.args.limit * square_of (from_to begin end)) = λ i. limit i * length i in
    let many : (c.from-right.result * c.from-right.result) ≡ (unsigned_abs (orient_of begin end p) * unsigned_abs (orient_of begin end p)) = λ i. size i * size i in
    let far : c.from.result * c.from-2.result < c.from-right.result * c.from-right.result =
    ltb-true (c.from.result * c.from-2.result) (c.from-right.result * c.from-right.result) passes in
    line_beyond begin end p q c.args.limit (below _ _ turn c.if-turn-ge0.false) (omega (arith, far, few, many)) left
