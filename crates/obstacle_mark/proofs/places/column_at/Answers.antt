use Rattle.std.proofs.Common.{ap, arith}
use Rattle.cell_table.specs.Columns.{column_of}
use Rattle.obstacle_mark.proofs.places.column_at.Goals as goal

pub returns-in-Some-clause-later : goal.returns-in-Some-clause-later
returns-in-Some-clause-later c = λ k d later there.
    let found = c.in-Some.ensures.lookup.3 in
    let rises = c.requires.order c.args.i k d later there in
    let read = ap column_of (found.1 d) in
    omega (arith, rises, read, c.column_of.ensures.value)
