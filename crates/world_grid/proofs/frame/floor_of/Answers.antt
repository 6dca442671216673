use Rattle.std.proofs.Common.{subst, subst₂, sym, lt_trans, lit<}
use Rattle.world_grid.specs.Frames.{IsFloorOf, IsWithinHeight}
use Rattle.world_grid.proofs.Readings.{reads}
use Rattle.world_grid.proofs.FrameLaws.{at_floor, narrowed}
use Rattle.world_grid.proofs.frame.floor_of.Goals as goal

pub returns-then-not-is_within_height-clause-none : goal.returns-then-not-is_within_height-clause-none
returns-then-not-is_within_height-clause-none c _ y h =
    let low = c.in_ok-low in
    let high = c.in_ok-high in
    c.if-not-is_within_height.ensures
    (subst₂ IsWithinHeight (sym (reads low.low (lt_trans low.ensures.few (lit< tt)))) (sym (reads high.high (lt_trans high.ensures.few (lit< tt))))
    (at_floor c.args.low c.args.high c.args.unit low.low high.high y low.ensures.only high.ensures.only h))

pub returns-clause-found : goal.returns-clause-found
returns-clause-found c =
    let low = c.in_ok-low in
    let high = c.in_ok-high in
    subst (IsFloorOf c.args.low c.args.high c.args.unit) (sym (narrowed low.low low.ensures.few))
    (record {
      to = high.high;
      ends = record { low_is = low.ensures.found; low_near = low.ensures.few; high_is = high.ensures.found; high_near = high.ensures.few };
      is = subst₂ IsWithinHeight (reads low.low (lt_trans low.ensures.few (lit< tt))) (reads high.high (lt_trans high.ensures.few (lit< tt))) c.if-not-is_within_height.ensures;
    })
