use Rattle.std.proofs.Common.{◌≡◌, ℕ, List, Option, Some, None, map, get_or, ◌∙◌, sym, ap, subst, refl, arith}
use Rattle.std.specs.Prelude.{not}
use Rattle.std.specs.Global.{Vec}
use Rattle.std.specs.List.{filter}
use Rattle.std.proofs.lemmas.List.{get_or_default, take_all}
use Rattle.nav_ground.specs.declared.cell.Cell.{Cell}
use Rattle.nav_ground.specs.declared.cell.CellRef.{CellRef}
use Rattle.nav_ground.specs.Cells.{IsCell}
use Rattle.nav_ground.specs.FreeCells.{free_cell_of}
use Rattle.obstacle_mark.specs.Places.{next_kept, ArePassed}
use Rattle.obstacle_mark.specs.declared.places.PassedPlaces.{PassedPlaces}
use Rattle.obstacle_mark.proofs.Blocked.{area_beside, no_cell}
use Rattle.obstacle_mark.proofs.FreeCellsLeft.{all_unpassed, free_cell_left, one_more_free, one_more_blocked_cell, passed_after}
use Rattle.obstacle_mark.proofs.free.free_cells.Goals as goal
use Rattle.obstacle_mark.proofs.free.free_cells.Goals.{in-Some+in_ok-push, in_default}

none_where : (o : Option ℕ) → ((x : ℕ) → o ≡ Some x → ⊥) → o ≡ None
none_where None not = refl
none_where (Some x) not = absurd (not x refl)

pub loop-i-init : goal.loop-i-init
loop-i-init c = record {
  free = λ taken shapes left places. c.in_ok-free.ensures.items;
  passed = λ j d later there. all_unpassed c.args.blocked.now _ (get_or c.args.cells.now j d).at refl;
}

pub bounds-areas-i : goal.bounds-areas-i
bounds-areas-i c = omega (arith, c.loop-i-test.true, c.requires.beside)

pub free_cell-requires-clause-cell : goal.free_cell-requires-clause-cell
free_cell-requires-clause-cell c =
    subst IsCell (sym (c.index-cells-i.is ∙ get_or_default c.args.cells.now c.loop-i.i _ no_cell c.loop-i-test.true))
    (c.requires.cells.each c.loop-i.i no_cell c.loop-i-test.true)

pub free_cell-requires-clause-area : goal.free_cell-requires-clause-area
free_cell-requires-clause-area c = c.requires.areas c.loop-i.i c.in-Some.area c.in-Some.is

pub free_cell-requires-clause-blocked : goal.free_cell-requires-clause-blocked
free_cell-requires-clause-blocked c = c.requires.blocked

pub free_cell-requires-clause-passed : goal.free_cell-requires-clause-passed
free_cell-requires-clause-passed c =
    subst (λ (cell : Cell). ArePassed c.args.blocked.now c.loop-i.passed cell.at)
    (sym (c.index-cells-i.is ∙ get_or_default c.args.cells.now c.loop-i.i _ no_cell c.loop-i-test.true))
    (c.loop-i.invariant.passed c.loop-i.i no_cell (omega arith) c.loop-i-test.true)

pub loop-i-preserved : goal.loop-i-preserved
loop-i-preserved c =
    let cells = c.args.cells.now in
    let areas = c.args.areas.now in
    let blocked = c.args.blocked.now in
    let i = c.loop-i.i in
    let cell : Cell = get_or cells i no_cell in
    let item : c.index-cells-i.result ≡ cell = c.index-cells-i.is ∙ get_or_default cells i c.index-cells-i.result no_cell c.loop-i-test.true in
    elim c.match-areas-i.branch [
      | in-Some+in_ok-push w ↦ record {
        free = λ taken shapes left places.
            let area = w.in-Some.area in
            let is_left = sym (area_beside taken shapes cells areas i no_cell left c.loop-i-test.true) ∙ w.in-Some.is in
            let is_free_cell = w.free_cell.ensures.cell
            ∙ ap (λ (own : Cell). record own { area = area; next = next_kept blocked own }) item
            ∙ free_cell_left taken cells shapes cell area (next_kept blocked cell) is_left (ap (λ (ps : List CellRef). next_kept ps cell) places) in
            ap (λ (v : Vec Cell). v.items) w.free-is ∙ w.in_ok-push.ensures.items
            ∙ one_more_free taken cells shapes i no_cell area c.loop-i.free.items _ c.loop-i-test.true is_left is_free_cell (c.loop-i.invariant.free taken shapes left places);
        passed = λ j d later there.
            let P : PassedPlaces → Type 0 = λ (p : PassedPlaces). ArePassed blocked p (get_or cells j d).at in
            subst P (sym w.passed-is)
            (passed_after cells blocked w.free_cell.new.passed i no_cell c.requires.cells c.loop-i-test.true
            (subst (λ (own : Cell). ArePassed blocked w.free_cell.new.passed own.at) item w.free_cell.ensures.passed) j d later there);
      }
      | in_default w ↦ record {
        free = λ taken shapes left places.
            let beside = area_beside taken shapes cells areas i no_cell left c.loop-i-test.true in
            ap (λ (v : Vec Cell). v.items) w.free-is
            ∙ one_more_blocked_cell taken cells shapes i no_cell c.loop-i.free.items c.loop-i-test.true
            (sym beside ∙ none_where (get_or areas i None) w.in_default.not-Some) (c.loop-i.invariant.free taken shapes left places);
        passed = λ j d later there.
            let P : PassedPlaces → Type 0 = λ (p : PassedPlaces). ArePassed blocked p (get_or cells j d).at in
            subst P (sym w.passed-is) (c.loop-i.invariant.passed j d (omega (arith, later)) there);
      }
    ]

pub returns : goal.returns
returns c = λ taken shapes left places.
    c.loop-i.invariant.free taken shapes left places
    ∙ ap (λ (xs : List Cell). map (free_cell_of taken c.args.cells.now shapes) (filter (λ (cell : Cell). not (taken cell)) xs)) (take_all c.loop-i.i c.args.cells.now c.loop-i-test.false)
