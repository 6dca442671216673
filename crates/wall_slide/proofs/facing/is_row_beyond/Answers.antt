use Rattle.std.proofs.Common.{◌≡◌, ◌*◌, ◌-◌, ◌≤◌, ◌-ℤ◌, ap, ◌∙◌, rules, w64, arith}
use Rattle.std.specs.Prelude.{unsigned_abs}
use Rattle.std.proofs.lemmas.Int.{to_z-of_z}
use Rattle.nav_base.specs.declared.point.Point.{Point}
use Rattle.nav_base.specs.Deviation.{square_of}
use Rattle.nav_base.specs.Point.{from_to, orient_of}
use Rattle.wall_slide.specs.Facing.{beside}
use Rattle.wall_slide.proofs.DiscLaws.{passed}
use Rattle.wall_slide.proofs.FacingLaws.{below, beside_beyond, row_beyond}
use Rattle.wall_slide.proofs.facing.is_row_beyond.Goals as goal

pub returns-then-square-aside : goal.returns-then-square-aside
returns-then-square-aside c test q on left =
    let begin = c.args.facing.begin in
    let end = c.args.facing.end in
    let p = c.args.p in
    let same : square_of (from_to p c.on_row-beside.result) ≡ square_of (from_to p (beside p c.args.z)) =
    ap (λ (r : Point). square_of (from_to p r)) c.on_row-beside.ensures.value in
    beside_beyond begin end p q c.args.z c.args.square (omega (arith, c.if-square-aside.true, c.square_distance-aside.ensures, same)) on

pub returns : goal.returns
returns c passes q on left =
    let begin = c.args.facing.begin in
    let end = c.args.facing.end in
    let p = c.args.p in
    let b : Point = beside p c.args.z in
    let same : c.on_row-beside.result ≡ b = c.on_row-beside.ensures.value in
    let turn = to_z-of_z w64 c.orient-turn.result (search rules) ∙ c.orient-turn.ensures ∙ ap (orient_of begin end) same in
    let size : c.from-right.result ≡ unsigned_abs (orient_of begin end b) =
    c.from-right.ensures ∙ c.unsigned_abs.ensures.value ∙ ap unsigned_abs turn in
    let rise = c.from-rise.ensures ∙ c.rise_square.ensures in
    let rest : c.from.result ≡ c.args.square - square_of (from_to p b) =
    c.from.ensures ∙ c.saturating_sub-left.ensures ∙ ap (λ n. c.args.square - n) (c.square_distance-aside.ensures ∙ ap (λ (r : Point). square_of (from_to p r)) same) in
    let few : (c.from-rise.result * c.from.result) ≡ (unsigned_abs (end.z -ℤ begin.z) * unsigned_abs (end.z -ℤ begin.z) * (c.args.square - square_of (from_to p b))) =
    λ i. rise i * rest i in
    let many : (c.from-right.result * c.from-right.result) ≡ (unsigned_abs (orient_of begin end b) * unsigned_abs (orient_of begin end b)) =
    λ i. size i * size i in
    let far : c.from-rise.result * c.from.result ≤ c.from-right.result * c.from-right.result =
    passed (c.from-rise.result * c.from.result) (c.from-right.result * c.from-right.result) passes in
    row_beyond begin end p q c.args.z c.args.square (below _ _ turn c.if-turn-ge0.false) (omega (arith, far, few, many)) on left
