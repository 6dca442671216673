use Rattle.std.proofs.Common.{ℤ, refl, sym, subst}
use Rattle.world_grid.specs.Frames.{IsStretchBetween, IsFloorOf}
use Rattle.world_grid.proofs.FrameLaws.{one_length, stretch_by_length, floor_by_length, column_reads, floor_reads}
use Rattle.world_grid.proofs.frame.frame_of.Goals as goal

pub returns-in_err-cell-clause-none : goal.returns-in_err-cell-clause-none
returns-in_err-cell-clause-none c _ field h = c.in_err-cell.ensures.none.0 refl h.is_cell.allowed

pub returns-in_err-unit-clause-none : goal.returns-in_err-unit-clause-none
returns-in_err-unit-clause-none c _ field h = c.in_err-unit.ensures.none.0 refl h.is_unit.allowed

pub returns-in_err-across-clause-none : goal.returns-in_err-across-clause-none
returns-in_err-across-clause-none c _ field h =
    c.in_err-across.ensures.none refl _ (stretch_by_length _ _ h.cell _ _ (one_length _ 4 h.cell _ h.is_cell c.in_ok-cell.ensures.found) h.across)

pub returns-in_err-along-clause-none : goal.returns-in_err-along-clause-none
returns-in_err-along-clause-none c _ field h =
    c.in_err-along.ensures.none refl _ (stretch_by_length _ _ h.cell _ _ (one_length _ 4 h.cell _ h.is_cell c.in_ok-cell.ensures.found) h.along)

pub returns-in_err-y-clause-none : goal.returns-in_err-y-clause-none
returns-in_err-y-clause-none c _ field h =
    c.in_err-y.ensures.none refl _ (floor_by_length _ _ h.unit _ _ (one_length _ 0 h.unit _ h.is_unit c.in_ok-unit.ensures.found) h.floor)

pub returns-clause-found : goal.returns-clause-found
returns-clause-found c =
    let across = c.in_ok-across in
    let along = c.in_ok-along in
    let floor = c.in_ok-y in
    record {
      size = refl;
      height = refl;
      cell = c.in_ok-cell.cell;
      is_cell = c.in_ok-cell.ensures.found;
      unit = c.in_ok-unit.unit;
      is_unit = c.in_ok-unit.ensures.found;
      across = subst (λ (x : ℤ). IsStretchBetween c.args.low.x c.args.high.x c.in_ok-cell.cell (record { first = x; count = across.across.count })) (sym (column_reads _ _ _ _ across.ensures.found)) across.ensures.found;
      along = subst (λ (z : ℤ). IsStretchBetween c.args.low.z c.args.high.z c.in_ok-cell.cell (record { first = z; count = along.along.count })) (sym (column_reads _ _ _ _ along.ensures.found)) along.ensures.found;
      floor = subst (IsFloorOf c.args.low.y c.args.high.y c.in_ok-unit.unit) (sym (floor_reads _ _ _ _ floor.ensures.found)) floor.ensures.found;
    }
