use Rattle.std.proofs.Common.{inr, ℤ, subst, rules, w32, arith}
use Rattle.std.proofs.lemmas.Int.{to_z-of_z}
use Rattle.wall_slide.specs.Feet.{IsAnywhere, IsNearer, IsOnRow}
use Rattle.wall_slide.proofs.FootLaws.{again, and_then, nothing}
use Rattle.wall_slide.proofs.feet.nearer_in.Goals as goal

pub returns-then-is_beyond : goal.returns-then-is_beyond
returns-then-is_beyond c =
    nothing c.args.polygon.now c.args.motion c.args.best IsAnywhere c.requires.best
    (λ q foot any. let far = c.is_beyond.ensures c.if-is_beyond.true q (c.facing_edge-edge.ensures.left q foot.holds) in omega (arith, far, c.square_distance.ensures))

pub nearer_beside-requires-clause-looked : goal.nearer_beside-requires-clause-looked
nearer_beside-requires-clause-looked c =
    let row = c.foot_row-foot.result.row in
    again c.args.polygon.now c.args.motion c.args.best c.nearer_on_row-guess.result (IsOnRow row)
    (subst (λ (n : ℤ). IsNearer c.args.polygon.now c.args.motion c.args.best c.nearer_on_row-guess.result (IsOnRow n)) (to_z-of_z w32 row (search rules))
    c.nearer_on_row-guess.ensures)

pub returns : goal.returns
returns c =
    and_then c.args.polygon.now c.args.motion c.args.best c.nearer_on_row-guess.result c.nearer_beside.result _ IsAnywhere IsAnywhere
    c.nearer_on_row-guess.ensures c.nearer_beside.ensures (λ q foot any. inr tt)
