use Rattle.std.proofs.Common.{◌∙◌, refl, sym}
use Rattle.world_grid.proofs.FrameLaws.{one_length, told_by, offset_by_length, offset_by, cells_read, place_reads, units_read}
use Rattle.world_grid.proofs.place.point_of.Goals as goal

pub returns-in_err-cell-clause-none : goal.returns-in_err-cell-clause-none
returns-in_err-cell-clause-none c _ at h = c.in_err-cell.ensures.none.0 refl h.is_cell.allowed

pub returns-in_err-unit-clause-none : goal.returns-in_err-unit-clause-none
returns-in_err-unit-clause-none c _ at h = c.in_err-unit.ensures.none.0 refl h.is_unit.allowed

pub returns-in_err-x-clause-none : goal.returns-in_err-x-clause-none
returns-in_err-x-clause-none c _ at h =
    let same = offset_by_length _ h.cell c.in_ok-cell.cell _ _ (one_length _ 4 h.cell _ h.is_cell c.in_ok-cell.ensures.found) h.across in
    c.in_err-x.ensures.none refl _
    (offset_by _ _ _ _ _ _ (sym (cells_read c.sixteenths.result c.args.frame.x c.well_formed.0.1.1.1.1.0.1 c.sixteenths.ensures)) (sym (place_reads c.args.place.x c.well_formed.1.0.1.1.0.1)) same)

pub returns-in_err-y-clause-none : goal.returns-in_err-y-clause-none
returns-in_err-y-clause-none c _ at h =
    let same = offset_by_length _ h.unit c.in_ok-unit.unit _ _ (one_length _ 0 h.unit _ h.is_unit c.in_ok-unit.ensures.found) h.up in
    c.in_err-y.ensures.none refl _
    (offset_by _ _ _ _ _ _ (sym (units_read c.from.result c.args.frame.y c.well_formed.0.1.1.1.1.1.0.1 c.from.ensures)) (sym (place_reads c.args.place.y c.well_formed.1.0.1.1.1.0.1)) same)

pub returns-in_err-z-clause-none : goal.returns-in_err-z-clause-none
returns-in_err-z-clause-none c _ at h =
    let same = offset_by_length _ h.cell c.in_ok-cell.cell _ _ (one_length _ 4 h.cell _ h.is_cell c.in_ok-cell.ensures.found) h.along in
    c.in_err-z.ensures.none refl _
    (offset_by _ _ _ _ _ _ (sym (cells_read c.sixteenths-2.result c.args.frame.z c.well_formed.0.1.1.1.1.1.1.0.1 c.sixteenths-2.ensures)) (sym (place_reads c.args.place.z c.well_formed.1.0.1.1.1.1.0.1)) same)

pub returns-clause-found : goal.returns-clause-found
returns-clause-found c =
    record {
      cell = c.in_ok-cell.cell;
      is_cell = c.in_ok-cell.ensures.found;
      unit = c.in_ok-unit.unit;
      is_unit = c.in_ok-unit.ensures.found;
      across = offset_by _ _ _ _ _ _ (cells_read c.sixteenths.result c.args.frame.x c.well_formed.0.1.1.1.1.0.1 c.sixteenths.ensures) (place_reads c.args.place.x c.well_formed.1.0.1.1.0.1) c.in_ok-x.ensures.found;
      up = offset_by _ _ _ _ _ _ (units_read c.from.result c.args.frame.y c.well_formed.0.1.1.1.1.1.0.1 c.from.ensures) (place_reads c.args.place.y c.well_formed.1.0.1.1.1.0.1) c.in_ok-y.ensures.found;
      along = offset_by _ _ _ _ _ _ (cells_read c.sixteenths-2.result c.args.frame.z c.well_formed.0.1.1.1.1.1.1.0.1 c.sixteenths-2.ensures) (place_reads c.args.place.z c.well_formed.1.0.1.1.1.1.0.1) c.in_ok-z.ensures.found;
    }

pub returns-clause-told : goal.returns-clause-told
returns-clause-told c =
    record {
      cell = c.in_ok-cell.cell;
      is_cell = c.in_ok-cell.ensures.found;
      unit = c.in_ok-unit.unit;
      is_unit = c.in_ok-unit.ensures.found;
      across = c.in_ok-x.ensures.told ∙ told_by (cells_read c.sixteenths.result c.args.frame.x c.well_formed.0.1.1.1.1.0.1 c.sixteenths.ensures) (place_reads c.args.place.x c.well_formed.1.0.1.1.0.1) c.in_ok-cell.cell;
      up = c.in_ok-y.ensures.told ∙ told_by (units_read c.from.result c.args.frame.y c.well_formed.0.1.1.1.1.1.0.1 c.from.ensures) (place_reads c.args.place.y c.well_formed.1.0.1.1.1.0.1) c.in_ok-unit.unit;
      along = c.in_ok-z.ensures.told ∙ told_by (cells_read c.sixteenths-2.result c.args.frame.z c.well_formed.0.1.1.1.1.1.1.0.1 c.sixteenths-2.ensures) (place_reads c.args.place.z c.well_formed.1.0.1.1.1.1.0.1) c.in_ok-cell.cell;
    }
