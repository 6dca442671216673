use Rattle.std.proofs.Common.{filter, map, ap, ◌∙◌, sym, arith}
use Rattle.std.proofs.lemmas.List.{take_all}
use Rattle.nav_ground.specs.declared.cell.Cell.{Cell}
use Rattle.nav_ground.specs.declared.cell.CellRef.{CellRef}
use Rattle.nav_ground.specs.Clearance.{is_kept, kept_cells, cells_in}
use Rattle.nav_ground.specs.Layers.{layer_cell}
use Rattle.nav_ground.specs.Tiling.{is_in_window}
use Rattle.layer_cut.proofs.HandedOut.{cut_in, cut_outside, cut_unmarked, marks_beside}
use Rattle.layer_cut.proofs.tile_layers.kept_in_tile.Goals as goal
use Rattle.layer_cut.proofs.tile_layers.kept_in_tile.Goals.{then-marks-i+then-is_inside+in_ok-push, else-marks-i, else-marks-i-via-then-marks-i+else-is_inside, else-marks-i-via-else-marks-i}

pub bounds-marks-i : goal.bounds-marks-i
bounds-marks-i c =
    omega (arith, marks_beside c.args.cells.now c.args.marks.now (is_kept c.args.cells.now c.args.setting.now.agent.radius) c.requires.marks)

pub is_inside-requires : goal.is_inside-requires
is_inside-requires c =
    let item = c.index-cells-i.result in
    let cell = c.requires.cells.rules.each c.loop-i.i item c.loop-i-test.true in
    let place = c.at-place.ensures ∙ ap (λ (cell : Cell). cell.at) c.index-cells-i.is in
    (omega (arith, cell.x, ap (λ (at : CellRef). at.x) place), omega (arith, cell.z, ap (λ (at : CellRef). at.z) place))

pub layer_cell-requires : goal.layer_cell-requires
layer_cell-requires c = record {
  cells = c.requires.cells;
  cell = (c.loop-i.i, c.loop-i-test.true, sym c.index-cells-i.is);
  marks = marks_beside c.args.cells.now c.args.marks.now (is_kept c.args.cells.now c.args.setting.now.agent.radius) c.requires.marks;
}

pub loop-i-preserved : goal.loop-i-preserved
loop-i-preserved c =
    let window = c.tile_bounds-window.result in
    let cells = c.args.cells.now in
    let kept = kept_cells cells c.args.setting.now.agent.radius in
    let p = is_kept cells c.args.setting.now.agent.radius in
    let item = c.index-cells-i.result in
    let inside = ap (λ (at : CellRef). is_in_window window at.x at.z) (sym (c.at-place.ensures ∙ ap (λ (cell : Cell). cell.at) c.index-cells-i.is)) in
    elim c.if-marks-i.branch [
      | then-marks-i+then-is_inside+in_ok-push w ↦
          (ap (λ v. v.items) w.kept-is)
          ∙ w.in_ok-push.ensures.items
          ∙ cut_in window kept cells c.args.marks.now p c.loop-i.i item c.loop-i.kept.items w.layer_cell.result c.requires.marks c.loop-i-test.true
          w.if-marks-i.true (inside ∙ sym w.is_inside.ensures ∙ w.if-is_inside.true)
          (w.layer_cell.ensures p c.requires.marks ∙ ap (layer_cell kept) c.index-cells-i.is) c.loop-i.invariant
      | else-marks-i w ↦
          (ap (λ v. v.items) w.kept-is)
          ∙ elim w.else-marks-i.branch [
            | else-marks-i-via-then-marks-i+else-is_inside w' ↦
                cut_outside window kept cells c.args.marks.now p c.loop-i.i item c.loop-i.kept.items c.requires.marks c.loop-i-test.true
                w'.if-marks-i.true (inside ∙ sym w'.is_inside.ensures ∙ w'.if-is_inside.false) c.loop-i.invariant
            | else-marks-i-via-else-marks-i w' ↦
                cut_unmarked window kept cells c.args.marks.now p c.loop-i.i c.loop-i.kept.items c.requires.marks c.loop-i-test.true
                w'.if-marks-i.false c.loop-i.invariant
          ]
    ]

pub returns : goal.returns
returns c =
    let cells = c.args.cells.now in
    let p = is_kept cells c.args.setting.now.agent.radius in
    let all = take_all c.loop-i.i cells c.loop-i-test.false in
    c.loop-i.invariant
    ∙ (λ i. map (layer_cell (kept_cells cells c.args.setting.now.agent.radius)) (cells_in (c.tile_bounds-window.ensures i) (filter p (all i))))
