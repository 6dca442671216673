use Rattle.std.proofs.Common.{◌≡◌, ◌∙◌, ◌++◌, List, length, ap, sym, subst, arith}
use Rattle.std.specs.Arc.{arc_value}
use Rattle.nav_ground.specs.declared.history.Entry.{Entry}
use Rattle.nav_ground.specs.History.{IsHistory}
use Rattle.build_queue.specs.declared.live.Live.{Live}
use Rattle.build_queue.specs.LiveTable.{IsLiveTable, numbers_of, shapes_in}
use Rattle.build_queue.specs.Renewal.{AddsAgain}
use Rattle.build_queue.proofs.Tables.{table_shapes}
use Rattle.build_queue.proofs.queue.BuildQueue.renewed.Goals as goal

-- the copies are the history and its table
entries_same : (c : goal.After-drop-live-2) → c.extend_from_slice.new.self.items ≡ c.self.inside.entries.items
entries_same c = c.in_ok-extend_from_slice.ensures.items ∙ (λ i. c.in_ok-entries.ensures.items i ++ c.as_slice.ensures.value i)

rows_same : (c : goal.After-drop-live-2) → c.extend_from_slice-2.new.self.items ≡ c.self.inside.live.items
rows_same c = c.in_ok-extend_from_slice-2.ensures.items ∙ (λ i. c.in_ok-live.ensures.items i ++ c.as_slice-2.ensures.value i)

kept_by : (c : goal.After-drop-live-2) → IsHistory (arc_value c.self.inside.ground).setting.limit c.begin_again.new.entries.items
    × IsLiveTable c.begin_again.new.entries.items c.begin_again.new.live.items
kept_by c =
    let limit = (arc_value c.self.inside.ground).setting.limit in
    c.begin_again.ensures.kept limit (omega (arith, c.self.invariant.few, ap (λ (rows : List Live). length rows) (rows_same c)))
    (subst (IsHistory limit) (sym (entries_same c)) c.self.invariant.history)

pub returns-clause-again : goal.returns-clause-again
returns-clause-again c =
    let made = c.begin_again.new.entries.items in
    rw (← c.self.view_is, c.from_vec.ensures)
    (subst (λ numbers. AddsAgain c.self.inside.entries.items numbers made) c.self.invariant.table.numbers
    (subst (λ (rows : List Live). AddsAgain c.self.inside.entries.items (numbers_of rows) made) (rows_same c)
    (subst (λ (entries : List Entry). AddsAgain entries (numbers_of c.extend_from_slice-2.new.self.items) made) (entries_same c) c.begin_again.ensures.again)))

pub returns-clause-rules : goal.returns-clause-rules
returns-clause-rules c = rw (← c.self.view_is, c.from_vec.ensures) (kept_by c).0

pub returns-clause-alive : goal.returns-clause-alive
returns-clause-alive c =
    rw (← c.self.view_is, c.from_vec.ensures)
    (sym (table_shapes c.begin_again.new.entries.items c.begin_again.new.live.items (kept_by c).1) ∙ c.begin_again.ensures.shapes
    ∙ ap shapes_in (rows_same c) ∙ table_shapes c.self.inside.entries.items c.self.inside.live.items c.self.invariant.table)
