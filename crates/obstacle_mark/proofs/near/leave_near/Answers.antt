use Rattle.std.proofs.Common.{◌≡◌, ℕ, List, Option, None, true, false, get_or, ◌∙◌, ap, sym, arith}
use Rattle.std.specs.Prelude.{if◌then◌else◌, Bool}
use Rattle.std.proofs.lemmas.List.{get_or-set_same, get_or-set_other}
use Rattle.nav_ground.specs.declared.cell.Cell.{Cell}
use Rattle.nav_ground.proofs.SmallCellLaws.{place_read}
use Rattle.cell_table.specs.Columns.{column_of}
use Rattle.obstacle_mark.specs.Near.{area_near}
use Rattle.obstacle_mark.proofs.Blocked.{no_cell}
use Rattle.obstacle_mark.proofs.NearLaws.{left_near, one_more_near}
use Rattle.obstacle_mark.proofs.FreeCellsLeft.{columns_rise, passed_later, place_of_cell}
use Rattle.obstacle_mark.proofs.near.leave_near.Goals as goal
use Rattle.obstacle_mark.proofs.near.leave_near.Goals.{then-is_crowded, else-is_crowded}

pub loop-i-preserved : goal.loop-i-preserved
loop-i-preserved c =
    let cells = c.args.cells.now in
    let clear = c.args.clear.now in
    let window = c.args.around.window in
    let radius = c.args.around.radius in
    let old = c.args.areas.now in
    let areas = c.loop-i.areas in
    let new = c.if-is_crowded.areas in
    let i = c.loop-i.i in
    let cell : Cell = get_or cells i no_cell in
    let read : (d : Cell) → c.at-at.result ≡ (get_or cells i d).at =
    place_read cells i c.index-cells-i.result c.at-at.result c.loop-i-test.true c.index-cells-i.is c.at-at.ensures in
    let place = place_of_cell cell (c.requires.cells.each i no_cell c.loop-i-test.true) in
    let before : get_or areas i None ≡ get_or old i None = c.loop-i.invariant.others i (omega arith) in
    let left : (b : Bool) → c.is_crowded.result ≡ b → (if b then None else get_or old i None) ≡ area_near window radius clear cell (get_or old i None) =
    λ b is. left_near window radius clear cell c.at-at.result (get_or old i None) b (read no_cell) place c.requires.clear.each (sym is ∙ c.is_crowded.ensures) in
    let changes : (get_or new i None ≡ area_near window radius clear cell (get_or old i None)) × ((k : ℕ) → (k ≡ i → ⊥) → get_or new k None ≡ get_or areas k None) =
    elim c.if-is_crowded.branch [
      | then-is_crowded w ↦ (
        ap (λ (xs : List (Option ℕ)). get_or xs i None) w.areas-is
            ∙ get_or-set_same areas i None None (omega (arith, c.loop-i-test.true))
            ∙ left true w.if-is_crowded.true,
        λ k apart. ap (λ (xs : List (Option ℕ)). get_or xs k None) w.areas-is ∙ get_or-set_other areas i k None None apart,
      )
      | else-is_crowded w ↦ (
        ap (λ (xs : List (Option ℕ)). get_or xs i None) w.areas-is ∙ before ∙ left false w.if-is_crowded.false,
        λ k apart. ap (λ (xs : List (Option ℕ)). get_or xs k None) w.areas-is,
      )
    ] in
    record {
      passed = λ j d later there.
          let rises = columns_rise cells c.requires.cells i j d (omega (arith, later)) there in
          let here = ap column_of (read d) in
          passed_later clear c.pass-passed.result _ _ (omega (arith, rises, here, c.column_of.ensures.value)) c.pass-passed.ensures.passed;
      done = one_more_near window radius clear cells old areas new i c.loop-i-test.true changes.0 changes.1 c.loop-i.invariant.done;
      others = λ k after. changes.1 k (λ same. absurd (omega (arith, same, after))) ∙ c.loop-i.invariant.others k (omega (arith, after));
    }
