use Rattle.std.proofs.Common.{ℕ, ◌/◌, ap, arith}
use Rattle.mesh_place.proofs.TileRows.{from_first, before_end}
use Rattle.mesh_place.proofs.tiles.tiles_within.Goals as goal

pub returns-clause-all : goal.returns-clause-all
returns-clause-all c place m below is =
    let low = is.low in
    let ends = is.ends in
    let from = from_first c.args.side place c.args.reach.low c.requires.side (omega (arith, low, ends)) in
    let quotient = ap (λ (n : ℕ). n / c.args.side) c.saturating_sub.ensures in
    omega (arith, from, quotient, c.min-first.ensures)

pub returns-clause-before : goal.returns-clause-before
returns-clause-before c place m below is =
    let high = is.high in
    let begins = is.begins in
    let before = before_end c.args.side place c.args.reach.high c.requires.side (omega (arith, high, begins)) in
    omega (arith, below, before, c.min-end.ensures)
