use Rattle.std.proofs.Common.{◌≡◌, ◌*◌, map, ◌∙◌, ap, arith}
use Rattle.agent_erode.specs.Clearances.{is_beyond}
use Rattle.agent_erode.proofs.Rounds.{kept_first}
use Rattle.agent_erode.proofs.reach.marks.Goals as goal

pub returns-then-radius-eq0 : goal.returns-then-radius-eq0
returns-then-radius-eq0 c =
    let none : 0 ≡ 2 * c.args.radius = omega arith in
    c.in_ok-all_kept.ensures ∙ kept_first c.args.cells.now ∙ ap (λ bound. map (is_beyond c.args.cells.now bound) c.args.cells.now) none

pub spread-requires-clause-bound : goal.spread-requires-clause-bound
spread-requires-clause-bound c = omega (arith, c.bound_of.ensures, c.if-radius-eq0.false)

pub returns : goal.returns
returns c =
    let cells = c.args.cells.now in
    c.into_kept.ensures ∙ c.in_ok-spread.ensures ∙ ap (λ bound. map (is_beyond cells bound) cells) c.bound_of.ensures
