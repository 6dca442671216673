use Rattle.std.proofs.Common.{◌≡◌, ℕ, List, Option, None, true, false, get_or, ◌∙◌, ap, sym, arith}
use Rattle.std.proofs.lemmas.List.{get_or-set_same, get_or-set_other}
use Rattle.nav_ground.specs.declared.cell.Cell.{Cell}
use Rattle.nav_ground.specs.declared.cell.CellRef.{CellRef}
use Rattle.nav_ground.proofs.SmallCellLaws.{place_read}
use Rattle.cell_table.specs.Columns.{column_of}
use Rattle.obstacle_mark.specs.AreasLeft.{area_clear}
use Rattle.obstacle_mark.specs.Places.{is_there}
use Rattle.obstacle_mark.proofs.Blocked.{no_cell}
use Rattle.obstacle_mark.proofs.ClearPlaces.{found_clear, one_more_clear}
use Rattle.obstacle_mark.proofs.FreeCellsLeft.{columns_rise, passed_later, place_of_cell}
use Rattle.obstacle_mark.proofs.free.leave_clear.Goals as goal
use Rattle.obstacle_mark.proofs.free.leave_clear.Goals.{then-not-is_there, else-not-is_there}

pub loop-i-preserved : goal.loop-i-preserved
loop-i-preserved c =
    let cells = c.args.cells.now in
    let clear = c.args.clear.now in
    let old = c.args.areas.now in
    let areas = c.loop-i.areas in
    let new = c.if-not-is_there.areas in
    let i = c.loop-i.i in
    let cell : Cell = get_or cells i no_cell in
    let read : (d : Cell) → c.at-at.result ≡ (get_or cells i d).at =
    place_read cells i c.index-cells-i.result c.at-at.result c.loop-i-test.true c.index-cells-i.is c.at-at.ensures in
    let place = place_of_cell cell (c.requires.cells.each i no_cell c.loop-i-test.true) in
    let before : get_or areas i None ≡ get_or old i None = c.loop-i.invariant.others i (omega arith) in
    let there : is_there (column_of cell.at) cell.at.level clear ≡ c.is_there.result =
    ap (λ (at : CellRef). is_there (column_of at) at.level clear) (sym (read no_cell))
    ∙ ap (λ column. is_there column c.at-at.result.level clear) (sym c.column_of-column.ensures.value) ∙ sym c.is_there.ensures in
    let changes : (get_or new i None ≡ area_clear clear cell (get_or old i None)) × ((k : ℕ) → (k ≡ i → ⊥) → get_or new k None ≡ get_or areas k None) =
    elim c.if-not-is_there.branch [
      | then-not-is_there w ↦ (
        ap (λ (xs : List (Option ℕ)). get_or xs i None) w.areas-is
            ∙ get_or-set_same areas i None None (omega (arith, c.loop-i-test.true))
            ∙ found_clear cell clear (get_or old i None) false place c.requires.clear.each (there ∙ w.if-not-is_there.true),
        λ k apart. ap (λ (xs : List (Option ℕ)). get_or xs k None) w.areas-is ∙ get_or-set_other areas i k None None apart,
      )
      | else-not-is_there w ↦ (
        ap (λ (xs : List (Option ℕ)). get_or xs i None) w.areas-is ∙ before
            ∙ found_clear cell clear (get_or old i None) true place c.requires.clear.each (there ∙ w.if-not-is_there.false),
        λ k apart. ap (λ (xs : List (Option ℕ)). get_or xs k None) w.areas-is,
      )
    ] in
    record {
      passed = λ j d later there.
          let rises = columns_rise cells c.requires.cells i j d (omega (arith, later)) there in
          let here = ap column_of (read d) in
          passed_later clear c.pass-passed.result _ _ (omega (arith, rises, here, c.column_of-column.ensures.value)) c.pass-passed.ensures.passed;
      done = one_more_clear clear cells old areas new i c.loop-i-test.true changes.0 changes.1 c.loop-i.invariant.done;
      others = λ k after. changes.1 k (λ same. absurd (omega (arith, same, after))) ∙ c.loop-i.invariant.others k (omega (arith, after));
    }
