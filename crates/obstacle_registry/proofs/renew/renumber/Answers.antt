use Rattle.std.proofs.Common.{arith, sym, ◌∙◌}
use Rattle.std.proofs.lemmas.List.{ext_get_or, get_or-map, length-map}
use Rattle.nav_ground.specs.declared.shape.Shape.TheVariants.{Block}
use Rattle.obstacle_registry.specs.declared.row.Registered.{Registered}
use Rattle.obstacle_registry.specs.Renewal.{renumbered}
use Rattle.obstacle_registry.proofs.Renewing.{one_more_row}
use Rattle.obstacle_registry.proofs.renew.renumber.Goals as goal

abbrev no_row : Registered
no_row = record { id = 0; shape = Block 0 0 0 0 0 0; user = 0; number = 0 }

pub loop-row-preserved : goal.loop-row-preserved
loop-row-preserved c =
    let more = one_more_row c.args.numbers.now c.args.rows.now c.loop-row.rows c.loop-row.row-index c.rank-row.result no_row
    (omega (arith, c.loop-row-test.true, c.loop-row.auto.rows)) c.loop-row.invariant.done c.loop-row.invariant.rest c.rank-row.ensures in
    record { done = more.0; rest = more.1 }

pub returns : goal.returns
returns c =
    ext_get_or no_row c.loop-row.rows _ (c.loop-row.auto.rows ∙ sym (length-map c.args.rows.now (renumbered c.args.numbers.now)))
    (λ k inside.
    c.loop-row.invariant.done k no_row (omega (arith, inside, c.loop-row-test.false, c.loop-row.auto.rows))
    ∙ sym (get_or-map (renumbered c.args.numbers.now) c.args.rows.now k no_row no_row (omega (arith, inside, c.loop-row.auto.rows))))
