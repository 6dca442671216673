use Rattle.std.proofs.Common.{ℤ, pos, subst, ◌∙◌, lit<}
use Rattle.surface_move.specs.Ways.{IsRounded}
use Rattle.surface_move.proofs.NearPoints.{near_is, reached_of, small_place}
use Rattle.surface_move.proofs.Numbers.{coordinate_reads, reads}
use Rattle.surface_move.proofs.nearby.near_coordinates.Goals as goal

pub returns-clause-near : goal.returns-clause-near
returns-clause-near c n =
    let small = small_place c.args.steps c.reached.result c.requires.few c.reached.ensures.low c.reached.ensures.high in
    near_is c.args.steps (reached_of c.args.steps c.args.step c.args.from c.args.to) c.rounded.result.0 c.rounded.result.1 c.requires.some
    (subst (λ (value : ℤ). IsRounded (pos c.args.steps) value c.rounded.result.0 c.rounded.result.1)
    (reads c.reached.result 8589934592 small (lit< tt) ∙ c.reached.ensures.value
    ∙ (λ i. reached_of c.args.steps c.args.step (coordinate_reads c.args.from c.requires.from i) (coordinate_reads c.args.to c.requires.to i)))
    c.rounded.ensures.rounded) n
