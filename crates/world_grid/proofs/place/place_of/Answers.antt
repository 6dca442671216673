use Rattle.std.proofs.Common.{ℤ, refl, sym, subst}
use Rattle.world_grid.specs.Places.{IsOffset}
use Rattle.world_grid.proofs.FrameLaws.{one_length, offset_by_length, cells_read, units_read, offset_reads}
use Rattle.world_grid.proofs.place.place_of.Goals as goal

pub returns-in_err-cell-clause-none : goal.returns-in_err-cell-clause-none
returns-in_err-cell-clause-none c _ place h = c.in_err-cell.ensures.none.0 refl h.is_cell.allowed

pub returns-in_err-unit-clause-none : goal.returns-in_err-unit-clause-none
returns-in_err-unit-clause-none c _ place h = c.in_err-unit.ensures.none.0 refl h.is_unit.allowed

pub returns-in_err-x-clause-none : goal.returns-in_err-x-clause-none
returns-in_err-x-clause-none c _ place h =
    let same = offset_by_length _ h.cell c.in_ok-cell.cell _ _ (one_length _ 4 h.cell _ h.is_cell c.in_ok-cell.ensures.found) h.across in
    c.in_err-x.ensures.none refl _ (subst (λ (from : ℤ). IsOffset c.args.at.x c.in_ok-cell.cell from place.x) (sym (cells_read c.sixteenths.result c.args.frame.x c.well_formed.0.1.1.1.1.0.1 c.sixteenths.ensures)) same)

pub returns-in_err-y-clause-none : goal.returns-in_err-y-clause-none
returns-in_err-y-clause-none c _ place h =
    let same = offset_by_length _ h.unit c.in_ok-unit.unit _ _ (one_length _ 0 h.unit _ h.is_unit c.in_ok-unit.ensures.found) h.up in
    c.in_err-y.ensures.none refl _ (subst (λ (from : ℤ). IsOffset c.args.at.y c.in_ok-unit.unit from place.y) (sym (units_read c.from.result c.args.frame.y c.well_formed.0.1.1.1.1.1.0.1 c.from.ensures)) same)

pub returns-in_err-z-clause-none : goal.returns-in_err-z-clause-none
returns-in_err-z-clause-none c _ place h =
    let same = offset_by_length _ h.cell c.in_ok-cell.cell _ _ (one_length _ 4 h.cell _ h.is_cell c.in_ok-cell.ensures.found) h.along in
    c.in_err-z.ensures.none refl _ (subst (λ (from : ℤ). IsOffset c.args.at.z c.in_ok-cell.cell from place.z) (sym (cells_read c.sixteenths-2.result c.args.frame.z c.well_formed.0.1.1.1.1.1.1.0.1 c.sixteenths-2.ensures)) same)

pub returns-clause-found : goal.returns-clause-found
returns-clause-found c =
    let frame = c.args.frame in
    record {
      cell = c.in_ok-cell.cell;
      is_cell = c.in_ok-cell.ensures.found;
      unit = c.in_ok-unit.unit;
      is_unit = c.in_ok-unit.ensures.found;
      across = offset_reads _ _ _ _ _ (cells_read c.sixteenths.result frame.x c.well_formed.0.1.1.1.1.0.1 c.sixteenths.ensures) c.in_ok-x.ensures.found;
      up = offset_reads _ _ _ _ _ (units_read c.from.result frame.y c.well_formed.0.1.1.1.1.1.0.1 c.from.ensures) c.in_ok-y.ensures.found;
      along = offset_reads _ _ _ _ _ (cells_read c.sixteenths-2.result frame.z c.well_formed.0.1.1.1.1.1.1.0.1 c.sixteenths-2.ensures) c.in_ok-z.ensures.found;
    }
