-- Runs of a list of cells: one more of them, and what comes next behind a place among them.
use Rattle.std.proofs.Common.{◌≡◌, ℕ, suc, ◌+◌, ◌-◌, ◌<◌, ◌≤◌, Bool, List, [], ◌∷◌, ◌++◌, length, take, drop, get_or, refl, sym, ap, ◌∙◌, arith, inl, inr}
use Rattle.std.specs.Prelude.{IsTrue, Some, None}
use Rattle.std.proofs.lemmas.Bool.{cases_lt}
use Rattle.std.proofs.lemmas.List.{append-nil, append_assoc, append_cancel_left, length-append, nil_from_length, take-append-drop, take_all, take_more, drop_more, drop_all}
use Rattle.nav_ground.specs.declared.cell.Cell.{Cell}
use Rattle.nav_ground.specs.declared.padded_cells.CellRun.{CellRun}
use Rattle.nav_ground.specs.declared.padded_cells.RunCursor.{RunCursor}
use Rattle.nav_ground.specs.CellRuns.{IsRunOf, IsFirst, HasPassed, cells_of_run, cells_of_runs, cells_behind}

pub runs_push : (cells : List Cell) (runs : List CellRun) (run : CellRun)
    → cells_of_runs cells (runs ++ run ∷ []) ≡ cells_of_runs cells runs ++ cells_of_run cells run
runs_push cells [] run = append-nil (cells_of_run cells run)
runs_push cells (r ∷ runs) run =
    ap (λ (cs : List Cell). cells_of_run cells r ++ cs) (runs_push cells runs run)
    ∙ sym (append_assoc (cells_of_run cells r) (cells_of_runs cells runs) (cells_of_run cells run))

-- the cells of one more run
pub runs_more : (cells : List Cell) (runs : List CellRun) (i : ℕ) (d : CellRun) → i < length runs
    → cells_of_runs cells (take i runs) ++ cells_of_run cells (get_or runs i d) ≡ cells_of_runs cells (take (i + 1) runs)
runs_more cells runs i d there =
    sym (runs_push cells (take i runs) (get_or runs i d))
    ∙ ap (cells_of_runs cells) (sym (take_more runs i d there))

runs_append : (cells : List Cell) (runs more : List CellRun) → cells_of_runs cells (runs ++ more) ≡ cells_of_runs cells runs ++ cells_of_runs cells more
runs_append cells [] more = refl
runs_append cells (r ∷ runs) more =
    ap (λ (cs : List Cell). cells_of_run cells r ++ cs) (runs_append cells runs more)
    ∙ sym (append_assoc (cells_of_run cells r) (cells_of_runs cells runs) (cells_of_runs cells more))

-- a run without cells, and one with a first cell
run_empty : (cells : List Cell) (run : CellRun) → run.to ≤ run.from → cells_of_run cells run ≡ []
run_empty cells run none =
    let no : run.to - run.from ≡ 0 = omega (arith, none) in
    ap (λ n. take n (drop run.from cells)) no

pub run_front : (cells : List Cell) (run : CellRun) (d : Cell) → run.from < run.to → run.to ≤ length cells
    → cells_of_run cells run ≡ get_or cells run.from d ∷ cells_of_run cells (record { from = run.from + 1; to = run.to })
run_front cells run d some within =
    let more : run.to - run.from ≡ suc (run.to - (run.from + 1)) = omega (arith, some) in
    (λ i. take (more i) (drop_more cells run.from d (omega (arith, some, within)) i))

-- where nothing is left of a run, the next run is at hand
pub at_next : (cells : List Cell) (runs : List CellRun) (spot : RunCursor) (next : CellRun) → spot.left.to ≤ spot.left.from → spot.begun < length runs
    → next ≡ get_or runs spot.begun next
    → cells_behind cells runs (record { left = next; begun = spot.begun + 1 }) ≡ cells_behind cells runs spot
at_next cells runs spot next none there is =
    ap (λ (r : CellRun). cells_of_run cells r ++ cells_of_runs cells (drop (spot.begun + 1) runs)) is
    ∙ ap (cells_of_runs cells) (sym (drop_more runs spot.begun next there))
    ∙ ap (λ (cs : List Cell). cs ++ cells_of_runs cells (drop spot.begun runs)) (sym (run_empty cells spot.left none))

-- at the end there are no cells
pub none_behind : (cells : List Cell) (runs : List CellRun) (spot : RunCursor) → spot.left.to ≤ spot.left.from → length runs ≤ spot.begun
    → cells_behind cells runs spot ≡ []
none_behind cells runs spot none all =
    (λ i. run_empty cells spot.left none i ++ cells_of_runs cells (drop_all spot.begun runs all i))

blank : Cell
blank = record { at = record { x = 0; z = 0; level = 0 }; floor = 0; ceiling = 0; area = 0; next = [] }

pub some_behind : (cells : List Cell) (runs : List CellRun) (spot : RunCursor) → IsRunOf cells spot.left → spot.left.from < spot.left.to
    → cells_behind cells runs spot ≡ [] → ⊥
some_behind cells runs spot left some none =
    absurd (omega (arith, ap length (sym (ap (λ (cs : List Cell). cs ++ cells_of_runs cells (drop spot.begun runs)) (run_front cells spot.left blank some left.within)) ∙ none)))

-- the first cell of a run comes next, and no other
pub first_passed : (cells : List Cell) (runs : List CellRun) (spot here : RunCursor) (next : Cell) → IsRunOf cells here.left
    → cells_behind cells runs here ≡ cells_behind cells runs spot → IsFirst cells here.left next
    → HasPassed cells runs (cells_behind cells runs spot) (next ∷ []) (Some (record { left = record { from = here.left.from + 1; to = here.left.to }; begun = here.begun }))
first_passed cells runs spot here next left same first =
    let rest = cells_of_runs cells (drop here.begun runs) in
    let after : List Cell = cells_of_run cells (record { from = here.left.from + 1; to = here.left.to }) in
    sym same
    ∙ ap (λ (cs : List Cell). cs ++ rest) (run_front cells here.left next first.0 left.within)
    ∙ ap (λ (c : Cell). c ∷ (after ++ rest)) first.1

pub other_passed : (cells : List Cell) (runs : List CellRun) (spot here : RunCursor) (next : Cell) → IsRunOf cells here.left
    → cells_behind cells runs here ≡ cells_behind cells runs spot → (here.left.to ≤ here.left.from → length runs ≤ here.begun)
    → (IsFirst cells here.left next → ⊥) → HasPassed cells runs (cells_behind cells runs spot) (next ∷ []) None
other_passed cells runs spot here next left same end other behind is =
    elim (cases_lt here.left.from here.left.to) [
      | inl some ↦
          let rest = cells_of_runs cells (drop here.begun runs) in
          let both : (get_or cells here.left.from next ∷ (cells_of_run cells (record { from = here.left.from + 1; to = here.left.to }) ++ rest)) ≡ next ∷ behind =
          sym (ap (λ (cs : List Cell). cs ++ rest) (run_front cells here.left next some left.within)) ∙ same ∙ is in
          other (some, ap (λ (cs : List Cell). get_or cs 0 next) both)
      | inr none ↦
          absurd (omega (arith, ap length (sym (none_behind cells runs here none (end none)) ∙ same ∙ is)))
    ]

-- what comes next behind what came before
passed_more : (cells : List Cell) (runs : List CellRun) (spot : RunCursor) (whole begin here next : List Cell) → whole ≡ begin ++ here
    → HasPassed cells runs here next (Some spot) → whole ≡ (begin ++ next) ++ cells_behind cells runs spot
passed_more cells runs spot whole begin here next is passed =
    is ∙ ap (λ (cs : List Cell). begin ++ cs) passed ∙ sym (append_assoc begin next (cells_behind cells runs spot))

passed_no_more : (cells : List Cell) (runs : List CellRun) (whole begin here next rest : List Cell) → whole ≡ begin ++ here
    → HasPassed cells runs here next None → whole ≡ (begin ++ next) ++ rest → ⊥
passed_no_more cells runs whole begin here next rest is none same =
    none rest (append_cancel_left begin here (next ++ rest) (sym is ∙ same ∙ append_assoc begin next rest))

-- one of several cells that does not come next
pub no_cell_passed : (cells : List Cell) (runs : List CellRun) (spot : RunCursor) (whole next : List Cell) (i : ℕ) (item : Cell) (rest : List Cell) → i < length next
    → item ≡ get_or next i item → whole ≡ take i next ++ cells_behind cells runs spot
    → HasPassed cells runs (cells_behind cells runs spot) (item ∷ []) None → whole ≡ next ++ rest → ⊥
no_cell_passed cells runs spot whole next i item rest there is before none same =
    let parts : next ≡ (take i next ++ item ∷ []) ++ drop (i + 1) next =
    sym (take-append-drop (i + 1) next)
    ∙ ap (λ (cs : List Cell). cs ++ drop (i + 1) next) (take_more next i item there ∙ ap (λ (c : Cell). take i next ++ c ∷ []) (sym is)) in
    passed_no_more cells runs whole (take i next) (cells_behind cells runs spot) (item ∷ []) (drop (i + 1) next ++ rest) before none
    (same ∙ ap (λ (cs : List Cell). cs ++ rest) parts ∙ append_assoc (take i next ++ item ∷ []) (drop (i + 1) next) rest)

-- the cells of one of several runs, where they come next in another list, and where they do not
pub next_run_passed : (cells : List Cell) (runs : List CellRun) (others : List Cell) (other_runs : List CellRun) (spot behind : RunCursor) (i : ℕ) (d : CellRun) (next : List Cell)
    → i < length runs → next ≡ cells_of_run cells (get_or runs i d)
    → cells_of_runs others other_runs ≡ cells_of_runs cells (take i runs) ++ cells_behind others other_runs spot
    → HasPassed others other_runs (cells_behind others other_runs spot) next (Some behind)
    → cells_of_runs others other_runs ≡ cells_of_runs cells (take (i + 1) runs) ++ cells_behind others other_runs behind
next_run_passed cells runs others other_runs spot behind i d next there is before passed =
    passed_more others other_runs behind (cells_of_runs others other_runs) (cells_of_runs cells (take i runs)) (cells_behind others other_runs spot) next before passed
    ∙ ap (λ (cs : List Cell). cs ++ cells_behind others other_runs behind)
    (ap (λ (cs : List Cell). cells_of_runs cells (take i runs) ++ cs) is ∙ runs_more cells runs i d there)

pub no_run_passed : (cells : List Cell) (runs : List CellRun) (others : List Cell) (other_runs : List CellRun) (spot : RunCursor) (i : ℕ) (d : CellRun) (next : List Cell)
    → i < length runs → next ≡ cells_of_run cells (get_or runs i d)
    → cells_of_runs others other_runs ≡ cells_of_runs cells (take i runs) ++ cells_behind others other_runs spot
    → HasPassed others other_runs (cells_behind others other_runs spot) next None
    → cells_of_runs cells runs ≡ cells_of_runs others other_runs → ⊥
no_run_passed cells runs others other_runs spot i d next there is before none same =
    let begin = cells_of_runs cells (take i runs) in
    let rest = cells_of_runs cells (drop (i + 1) runs) in
    let all : cells_of_runs cells runs ≡ (begin ++ next) ++ rest =
    ap (cells_of_runs cells) (sym (take-append-drop (i + 1) runs)) ∙ runs_append cells (take (i + 1) runs) (drop (i + 1) runs)
    ∙ ap (λ (cs : List Cell). cs ++ rest) (sym (ap (λ (cs : List Cell). begin ++ cs) is ∙ runs_more cells runs i d there)) in
    passed_no_more others other_runs (cells_of_runs others other_runs) begin (cells_behind others other_runs spot) next rest before none (sym same ∙ all)

-- where the cells of all runs came first in another list, the lists are the same if nothing is left of it
pub all_passed : (cells : List Cell) (runs : List CellRun) (whole rest : List Cell) (i : ℕ) (end : Bool) → length runs ≤ i
    → whole ≡ cells_of_runs cells (take i runs) ++ rest → (IsTrue end → rest ≡ []) × (rest ≡ [] → IsTrue end)
    → (IsTrue end → cells_of_runs cells runs ≡ whole) × (cells_of_runs cells runs ≡ whole → IsTrue end)
all_passed cells runs whole rest i end all before ends =
    let is : whole ≡ cells_of_runs cells runs ++ rest =
    before ∙ ap (λ (rs : List CellRun). cells_of_runs cells rs ++ rest) (take_all i runs all) in (
      λ holds. sym (is ∙ ap (λ (cs : List Cell). cells_of_runs cells runs ++ cs) (ends.0 holds) ∙ append-nil (cells_of_runs cells runs)),
      λ same. ends.1 (nil_from_length rest (omega (arith, ap length is, length-append (cells_of_runs cells runs) rest, ap length same))),
    )
