use Rattle.std.proofs.Common.{◌≡◌, ◌*◌, ◌≤◌, ap, ◌∙◌, rules, w64, arith}
use Rattle.std.specs.Prelude.{unsigned_abs}
use Rattle.std.proofs.lemmas.Int.{to_z-of_z}
use Rattle.nav_base.specs.Deviation.{square_of}
use Rattle.nav_base.specs.Point.{from_to, orient_of}
use Rattle.wall_slide.proofs.DiscLaws.{passed}
use Rattle.wall_slide.proofs.FacingLaws.{below, line_beyond}
use Rattle.wall_slide.proofs.facing.is_beyond.Goals as goal

pub returns : goal.returns
returns c passes q left =
    let begin = c.args.facing.begin in
    let end = c.args.facing.end in
    let p = c.args.p in
    let turn = to_z-of_z w64 c.orient-turn.result (search rules) ∙ c.orient-turn.ensures in
    let size : c.from-right.result ≡ unsigned_abs (orient_of begin end p) =
    c.from-right.ensures ∙ c.unsigned_abs.ensures.value ∙ ap unsigned_abs turn in
    let length = c.from-length.ensures ∙ c.square_distance.ensures in
    let square = c.from.ensures in
    let few : (c.from.result * c.from-length.result) ≡ (c.args.square * square_of (from_to begin end)) = λ i. square i * length i in
    let many : (c.from-right.result * c.from-right.result) ≡ (unsigned_abs (orient_of begin end p) * unsigned_abs (orient_of begin end p)) = λ i. size i * size i in
    let far : c.from.result * c.from-length.result ≤ c.from-right.result * c.from-right.result =
    passed (c.from.result * c.from-length.result) (c.from-right.result * c.from-right.result) passes in
    line_beyond begin end p q c.args.square (below _ _ turn c.if-turn-ge0.false) (omega (arith, far, few, many)) left
