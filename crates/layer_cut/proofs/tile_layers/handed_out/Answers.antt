use Rattle.std.proofs.Common.{true, false, arith, length, List, map, filter, ap, ◌∙◌, sym, subst}
use Rattle.std.specs.List.{range_with_len}
use Rattle.std.proofs.lemmas.List.{take_all}
use Rattle.std.proofs.lemmas.Result.{IfOk-weaker}
use Rattle.nav_ground.specs.declared.cell.Cell.{Cell}
use Rattle.nav_ground.specs.declared.cell.CellRef.{CellRef}
use Rattle.nav_ground.specs.Layers.{layer_cell}
use Rattle.nav_ground.specs.Tiling.{tile_count}
use Rattle.layer_cut.specs.Tiles.{IsInField, layer_with, tile_at}
use Rattle.std.proofs.lemmas.List.FromFn.{length-map-range_with_len}
use Rattle.nav_ground.specs.Clearance.{is_kept, kept_cells}
use Rattle.layer_cut.proofs.HandedOut.{kept_step, unkept_step, mark_is, marks_beside}
use Rattle.layer_cut.proofs.tile_layers.handed_out.Goals as goal
use Rattle.layer_cut.proofs.tile_layers.handed_out.Goals.{then-marks-i+in_ok-push, else-marks-i}

pub bounds-marks-i : goal.bounds-marks-i
bounds-marks-i c =
    omega (arith, marks_beside c.args.cells.now c.args.marks.now (is_kept c.args.cells.now c.args.setting.now.agent.radius) c.requires.marks)

pub tile_of-tile-requires-clause-inside : goal.tile_of-tile-requires-clause-inside
tile_of-tile-requires-clause-inside c =
    let inside = c.requires.inside c.loop-i.i c.index-cells-i.result c.loop-i-test.true in
    let place = c.at-place.ensures ∙ ap (λ (cell : Cell). cell.at) c.index-cells-i.is in
    let P : CellRef → Type 0 = λ (at : CellRef). IsInField c.args.setting.now at.x at.z in
    subst P (sym place) inside

pub layer_cell-kept-requires : goal.layer_cell-kept-requires
layer_cell-kept-requires c = record {
  cells = c.requires.cells;
  cell = (c.loop-i.i, c.loop-i-test.true, sym c.index-cells-i.is);
  marks = marks_beside c.args.cells.now c.args.marks.now (is_kept c.args.cells.now c.args.setting.now.agent.radius) c.requires.marks;
}

pub index_mut-requires : goal.index_mut-requires
index_mut-requires c = omega (arith, c.tile_of-tile.ensures.there, ap length c.loop-i.invariant ∙ length-map-range_with_len _ 0 _)

pub loop-i-preserved : goal.loop-i-preserved
loop-i-preserved c =
    let setting = c.args.setting.now in
    let cells = c.args.cells.now in
    let kept = kept_cells cells setting.agent.radius in
    let p = is_kept cells setting.agent.radius in
    let item = c.index-cells-i.result in
    elim c.if-marks-i.branch [
      | then-marks-i+in_ok-push w ↦
          kept_step setting cells kept cells p c.loop-i.i item c.loop-i.layers.items c.if-marks-i.layers.items w.tile_of-tile.result
          w.index_mut.result.now w.layer_cell-kept.result w.push.new.self
          c.requires.setting c.requires.inside c.loop-i-test.true
          (mark_is cells c.args.marks.now p c.loop-i.i item false true c.requires.marks c.loop-i-test.true w.if-marks-i.true)
          (w.tile_of-tile.ensures.value
          ∙ ap (λ (at : CellRef). tile_at setting at.x at.z) (w.at-place.ensures ∙ ap (λ (cell : Cell). cell.at) c.index-cells-i.is))
          w.tile_of-tile.ensures.there (w.layer_cell-kept.ensures p c.requires.marks ∙ ap (layer_cell kept) c.index-cells-i.is)
          w.index_mut.ensures.value w.in_ok-push.ensures (ap (λ v. v.items) w.layers-is) c.loop-i.invariant
      | else-marks-i w ↦
          (ap (λ v. v.items) w.layers-is)
          ∙ unkept_step setting cells kept cells c.args.marks.now p c.loop-i.i c.loop-i.layers.items c.requires.marks c.loop-i-test.true w.if-marks-i.false
          c.loop-i.invariant
    ]

pub returns : goal.returns
returns c =
    let setting = c.args.setting.now in
    let cells = c.args.cells.now in
    let radius = setting.agent.radius in
    IfOk-weaker c.closed.result _ _
    (λ layers made. made ∙ c.loop-i.invariant
    ∙ ap (λ (some : List Cell). map (layer_with setting cells (kept_cells cells radius) (filter (is_kept cells radius) some)) (range_with_len 0 (tile_count setting)))
    (take_all c.loop-i.i cells c.loop-i-test.false))
    c.closed.ensures
