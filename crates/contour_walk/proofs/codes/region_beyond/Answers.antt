use Rattle.std.proofs.Common.{◌∙◌, sym, arith, ap, length, get_or}
use Rattle.cell_table.proofs.Tables.{table_length}
use Rattle.mesh_types.specs.Contours.{region_beyond}
use Rattle.contour_walk.proofs.CodeLaws.{read_at, beyond_none, beyond_some, beyond_outside}
use Rattle.contour_walk.proofs.codes.region_beyond.Goals as goal

pub bounds-as_slice-index : goal.bounds-as_slice-index
bounds-as_slice-index c =
    omega (arith, ap length (c.as_slice.ensures ∙ c.requires.rim.table.neighbours), table_length c.args.rim.cells.now, c.requires.index)

pub returns-then-next-cells : goal.returns-then-next-cells
returns-then-next-cells c = λ d.
    let read = read_at c.args.rim.cells.now c.as_slice.result.now c.args.index c.index.result d (c.as_slice.ensures ∙ c.requires.rim.table.neighbours) c.requires.index c.index.ensures.small in
    sym (beyond_none c.args.rim.cells.now c.args.rim.regions.now c.index.result (get_or c.args.rim.cells.now c.args.index d) (omega (arith, read, c.if-next-cells.true)))
    ∙ ap (λ dir. region_beyond c.args.rim.cells.now c.args.rim.regions.now dir (get_or c.args.rim.cells.now c.args.index d)) c.index.ensures.value

pub returns-then-owner-len : goal.returns-then-owner-len
returns-then-owner-len c = λ d.
    beyond_some c.args.rim.cells.now c.args.rim.regions.now c.as_slice-2.result.now c.index.result _ (get_or c.args.rim.cells.now c.args.index d) (c.as_slice-2.ensures ∙ c.requires.rim.table.owners)
    (read_at c.args.rim.cells.now c.as_slice.result.now c.args.index c.index.result d (c.as_slice.ensures ∙ c.requires.rim.table.neighbours) c.requires.index c.index.ensures.small)
    c.if-next-cells.false (omega (arith, c.if-owner-len.true, c.len.ensures))
    ∙ ap (λ dir. region_beyond c.args.rim.cells.now c.args.rim.regions.now dir (get_or c.args.rim.cells.now c.args.index d)) c.index.ensures.value

pub returns-else-owner-len : goal.returns-else-owner-len
returns-else-owner-len c = λ d.
    beyond_outside c.args.rim.cells.now c.args.rim.regions.now c.as_slice-2.result.now c.index.result _ (get_or c.args.rim.cells.now c.args.index d) (c.as_slice-2.ensures ∙ c.requires.rim.table.owners)
    (read_at c.args.rim.cells.now c.as_slice.result.now c.args.index c.index.result d (c.as_slice.ensures ∙ c.requires.rim.table.neighbours) c.requires.index c.index.ensures.small)
    c.if-next-cells.false (omega (arith, c.if-owner-len.false, c.len.ensures))
    ∙ ap (λ dir. region_beyond c.args.rim.cells.now c.args.rim.regions.now dir (get_or c.args.rim.cells.now c.args.index d)) c.index.ensures.value
