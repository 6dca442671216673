use Rattle.std.proofs.Common.{ℕ, List, arith}
use Rattle.nav_ground.specs.Column.{Gap, gaps_of, column_toward}
use Rattle.span_filters.specs.Gaps.{seen_at_first}
use Rattle.span_filters.proofs.Verdict.{least_falls}
use Rattle.span_filters.proofs.filters.look_around.Goals as goal

pub returns-clause-least : goal.returns-clause-least
returns-clause-least c =
    let post = c.args.post.now in
    let stand = post.stand.now in
    let gaps : ℕ → List Gap = λ dir. gaps_of (column_toward dir post.list.spans.now post.span.now) in
    let one = least_falls stand (seen_at_first stand) c.look_toward.new.seen (gaps 0) c.look_toward.ensures.seen in
    let two = least_falls stand c.look_toward.new.seen c.look_toward-2.new.seen (gaps 1) c.look_toward-2.ensures.seen in
    let three = least_falls stand c.look_toward-2.new.seen c.look_toward-3.new.seen (gaps 2) c.look_toward-3.ensures.seen in
    let four = least_falls stand c.look_toward-3.new.seen c.look_toward-4.new.seen (gaps 3) c.look_toward-4.ensures.seen in
    omega (arith, one, two, three, four)
