use Rattle.std.proofs.Common.{◌≤◌, ◌*◌, arith}
use Rattle.std.proofs.lemmas.Int.{to_z-of_z}
use Rattle.build_queue.proofs.Meetings.{first_below, last_above}
use Rattle.build_queue.proofs.reach.places.Goals as goal

pub returns-clause-met : goal.returns-clause-met
returns-clause-met c = λ place last there begins ends within.
    let least : c.or_zero.result ≤ last = c.or_zero.ensures.least last (grind (arith, to_z-of_z, ends)) in
    let most : place * c.args.tile ≤ c.or_zero-2.result = c.or_zero-2.ensures.most (place * c.args.tile) (grind (arith, to_z-of_z, begins)) in
    let end = last_above c.or_zero-2.result c.args.tile place c.requires most in
    (first_below c.or_zero.result c.args.tile place c.requires (omega (arith, least, within)), omega (arith, end, there, c.min-end.ensures))
