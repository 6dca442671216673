use Rattle.std.proofs.Common.{◌++◌, List, filter, get_or, ap, ◌∙◌, sym, subst, arith, tests, lt-ltb}
use Rattle.std.specs.Prelude.{◌&&◌, ◌==◌, nat_lt, All}
use Rattle.std.proofs.lemmas.Int.{ints}
use Rattle.std.proofs.lemmas.Bool.{and_parts, false_from_ne_true}
use Rattle.std.proofs.lemmas.List.Elements.{All-nil, All-push}
use Rattle.nav_ground.specs.declared.cell.Cell.{Cell}
use Rattle.nav_ground.specs.Tiling.{is_in_window, widened}
use Rattle.nav_ground.specs.CellRuns.{IsRunOf, cells_of_runs}
use Rattle.nav_ground.proofs.CellRunLaws.{runs_push}
use Rattle.nav_ground.proofs.Selections.{filter_none, filter_same}
use Rattle.agent_erode.proofs.RunLaws.{next_number, run_in_window, only_true}
use Rattle.agent_erode.proofs.WindowLaws.{rows_rise}
use Rattle.agent_erode.proofs.windows.runs_near.Goals as goal

pub loop-row-init : goal.loop-row-init
loop-row-init c =
    let inside = λ (cell : Cell). is_in_window (widened c.args.window c.args.margin) cell.at.x cell.at.z in
    let cells = c.args.cells.now in record {
      within = subst (All (IsRunOf cells)) (sym c.in_ok-runs.ensures.items) (All-nil (IsRunOf cells));
      cells = ap (cells_of_runs cells) c.in_ok-runs.ensures.items ∙ sym (filter_none (λ (cell : Cell). nat_lt cell.at.z c.rows_of-rows.result.first && inside cell) cells (λ k d there.
          false_from_ne_true _ (λ h.
          let parts = and_parts (nat_lt (get_or cells k d).at.z c.rows_of-rows.result.first) (inside (get_or cells k d)) h in
          let rows = c.rows_of-rows.ensures.all _ _ (c.requires.each k d there).z parts.1 in
          omega (arith, tests, parts.0, rows.0))));
    }

pub loop-row-preserved : goal.loop-row-preserved
loop-row-preserved c =
    let wide = widened c.args.window c.args.margin in
    let cells = c.args.cells.now in
    let row = c.loop-row.row in
    let in_z = c.rows_of-rows.ensures.only row (omega arith) c.loop-row-test.true in record {
      within = subst (All (IsRunOf cells)) (sym c.in_ok-push.ensures.items)
          (All-push (IsRunOf cells) c.loop-row.runs.items c.run_of.result c.loop-row.invariant.within c.run_of.ensures.within);
      cells = ap (cells_of_runs cells) c.in_ok-push.ensures.items
          ∙ runs_push cells c.loop-row.runs.items c.run_of.result
          ∙ (λ i. c.loop-row.invariant.cells i ++ c.run_of.ensures.cells i)
          ∙ ap (λ (run : List Cell). filter (λ (cell : Cell). nat_lt cell.at.z row && is_in_window wide cell.at.x cell.at.z) cells ++ run)
          (filter_same _ (λ (cell : Cell). cell.at.z == row && is_in_window wide cell.at.x cell.at.z) cells (λ k d there.
          run_in_window wide (get_or cells k d) row _ _ in_z
          (λ in_x. c.ends_of-first.ensures.all _ (c.requires.each k d there).x (omega (arith, ints, in_x.0), omega (arith, ints, in_x.1)))
          (λ least most.
          let between = c.ends_of-first.ensures.only _ least most in
          (omega (arith, ints, between.0), omega (arith, ints, between.1)))))
          ∙ sym (next_number (λ (cell : Cell). cell.at.z) (λ (cell : Cell). is_in_window wide cell.at.x cell.at.z) cells row (rows_rise cells c.requires));
    }

pub returns-clause-near : goal.returns-clause-near
returns-clause-near c =
    let wide = widened c.args.window c.args.margin in
    let cells = c.args.cells.now in
    c.loop-row.invariant.cells ∙ filter_same _ (λ (cell : Cell). is_in_window wide cell.at.x cell.at.z) cells (λ k d there.
    only_true (nat_lt (get_or cells k d).at.z c.loop-row.row) _ (λ h.
    let rows = c.rows_of-rows.ensures.all _ _ (c.requires.each k d there).z h in
    lt-ltb _ _ (omega (arith, rows.1, c.loop-row-test.false))))
