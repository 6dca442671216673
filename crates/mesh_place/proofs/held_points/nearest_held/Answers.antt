use Rattle.std.proofs.Common.{◌+◌, inl, inr, arith, rules}
use Rattle.std.proofs.lemmas.Bool.{cases_lt}
use Rattle.mesh_place.proofs.HeldLaws.{across_box, across_order, along_box, along_order, cell_box, corner_held, lines_and, nearest_of_lines}
use Rattle.mesh_place.proofs.held_points.nearest_held.Goals as goal

pub columns_of-columns-requires-clause-low : goal.columns_of-columns-requires-clause-low
columns_of-columns-requires-clause-low c = (cell_box c.args.polygon.now c.args.extent c.requires.rules c.requires.extent).low

pub columns_of-columns-requires-clause-high : goal.columns_of-columns-requires-clause-high
columns_of-columns-requires-clause-high c = (cell_box c.args.polygon.now c.args.extent c.requires.rules c.requires.extent).high

pub columns_of-columns-requires-clause-order : goal.columns_of-columns-requires-clause-order
columns_of-columns-requires-clause-order c = across_order c.args.polygon.now c.args.extent c.requires.rules c.requires.extent

pub rows_of-lines-requires-clause-low : goal.rows_of-lines-requires-clause-low
rows_of-lines-requires-clause-low c = (cell_box c.args.polygon.now c.args.extent c.requires.rules c.requires.extent).low

pub rows_of-lines-requires-clause-high : goal.rows_of-lines-requires-clause-high
rows_of-lines-requires-clause-high c = (cell_box c.args.polygon.now c.args.extent c.requires.rules c.requires.extent).high

pub rows_of-lines-requires-clause-order : goal.rows_of-lines-requires-clause-order
rows_of-lines-requires-clause-order c = along_order c.args.polygon.now c.args.extent c.requires.rules c.requires.extent

pub nearer_below-nearest-requires-clause-reach : goal.nearer_below-nearest-requires-clause-reach
nearer_below-nearest-requires-clause-reach c =
    across_box c.args.polygon.now c.args.extent c.requires.rules c.requires.extent c.columns_of-columns.result c.columns_of-columns.ensures.places

pub nearer_below-nearest-requires-clause-best : goal.nearer_below-nearest-requires-clause-best
nearer_below-nearest-requires-clause-best c =
    let enough = c.requires.rules.convex.enough in
    let held = corner_held c.args.polygon.now 0 c.requires.rules.convex (omega (arith, enough)) in
    search (rules, held)

pub nearer_above-requires-clause-reach : goal.nearer_above-requires-clause-reach
nearer_above-requires-clause-reach c =
    across_box c.args.polygon.now c.args.extent c.requires.rules c.requires.extent c.columns_of-columns.result c.columns_of-columns.ensures.places

pub returns : goal.returns
returns c =
    let lines = c.rows_of-lines.result in
    let start = c.nearest_along-start.result in
    nearest_of_lines c.args.polygon.now c.args.p lines c.in_sixteenths-corner.result c.nearer_above.result
    (along_box c.args.polygon.now c.args.extent c.requires.rules c.requires.extent lines c.rows_of-lines.ensures.places)
    (lines_and c.args.p c.args.polygon.now lines.first (start + 1) start (lines.last + 1) lines.first (lines.last + 1) c.in_sixteenths-corner.result
    c.nearer_below-nearest.result c.nearer_above.result
    c.nearer_below-nearest.ensures c.nearer_above.ensures
    (λ z low high. elim (cases_lt z (start + 1)) [ inl less ↦ inl (low, less) | inr least ↦ inr (omega (arith, least), high) ]))
