use Rattle.std.proofs.Common.{rules, arith, subst, take_all}
use Rattle.std.specs.Prelude.{All}
use Rattle.registry_format.specs.Saved.{IsSavedRow}
use Rattle.registry_format.proofs.Loops.{all_more, same_at}
use Rattle.registry_format.proofs.rules.are_rows.Goals as goal

pub loop-row-preserved : goal.loop-row-preserved
loop-row-preserved c =
    all_more (IsSavedRow c.args.last) c.args.rows.now c.loop-row.row-index c.loop-row-test.true c.loop-row.invariant
    (λ d. subst (IsSavedRow c.args.last) (same_at c.args.rows.now c.loop-row.row-index _ d c.loop-row-test.true) (c.is_row.ensures.0 (search rules)))

pub returns : goal.returns
returns c =
    (λ told. subst (All (IsSavedRow c.args.last)) (take_all c.loop-row.row-index c.args.rows.now (omega (arith, c.loop-row-test.false))) c.loop-row.invariant, λ all. search rules)
