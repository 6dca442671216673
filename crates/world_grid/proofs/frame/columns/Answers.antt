use Rattle.std.proofs.Common.{ℤ, subst₂, sym, lt_trans, lit<}
use Rattle.world_grid.specs.Frames.{IsStretch}
use Rattle.world_grid.proofs.Readings.{reads}
use Rattle.world_grid.proofs.FrameLaws.{at_ends}
use Rattle.world_grid.proofs.frame.columns.Goals as goal

pub returns-clause-none : goal.returns-clause-none
returns-clause-none c none stretch h =
    let low = c.in_ok-low in
    let high = c.in_ok-high in
    c.stretch_between.ensures.none none stretch
    (subst₂ (λ (a b : ℤ). IsStretch a b stretch) (sym (reads low.low (lt_trans low.ensures.few (lit< tt)))) (sym (reads high.high (lt_trans high.ensures.few (lit< tt))))
    (at_ends c.args.low c.args.high c.args.cell low.low high.high stretch low.ensures.only high.ensures.only h))
