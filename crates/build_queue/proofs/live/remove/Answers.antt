use Rattle.std.proofs.Common.{rules, ◌≡◌, refl, sym, ap, subst, ◌∙◌, Ok, Err, true, false}
use Rattle.std.specs.List.{list_any}
use Rattle.std.proofs.lemmas.Fn.{always_returns_same}
use Rattle.std.proofs.lemmas.List.{get_or-map, length-map}
use Rattle.nav_ground.specs.Limits.{IsShape}
use Rattle.build_queue.specs.LiveTable.{is_row_of}
use Rattle.build_queue.specs.declared.live.Live.{Live}
use Rattle.build_queue.proofs.Rows.{searched_rows, removed_unseen}
use Rattle.build_queue.proofs.live.remove.Goals as goal

pub returns-in-Ok-clause-reply : goal.returns-in-Ok-clause-reply
returns-in-Ok-clause-reply c =
    let found = searched_rows c.deref.result.now c.args.number (Ok c.in-Ok.place) (rw c.deref.ensures.value c.requires.rising) c.in-Ok.ensures.bound
    (c.in-Ok.ensures.position (λ (row : Live). row.number) (always_returns_same _ _ _ (λ a r f k. search rules))) in
    let there : list_any (is_row_of c.args.number) c.args.live.now.items ≡ true = rw (← c.deref.ensures.value) found.0 in
    rw there refl

pub returns-in-Ok-clause-table : goal.returns-in-Ok-clause-table
returns-in-Ok-clause-table c =
    let found = searched_rows c.deref.result.now c.args.number (Ok c.in-Ok.place) (rw c.deref.ensures.value c.requires.rising) c.in-Ok.ensures.bound
    (c.in-Ok.ensures.position (λ (row : Live). row.number) (always_returns_same _ _ _ (λ a r f k. search rules))) in
    c.remove-row.ensures.items ∙ rw (← c.deref.ensures.value) (sym found.1)

pub returns-in-Err-clause-reply : goal.returns-in-Err-clause-reply
returns-in-Err-clause-reply c =
    let found = searched_rows c.deref.result.now c.args.number (Err c.in-Err.field-0) (rw c.deref.ensures.value c.requires.rising) c.in-Err.ensures.bound
    (c.in-Err.ensures.position (λ (row : Live). row.number) (always_returns_same _ _ _ (λ a r f k. search rules))) in
    let missing : list_any (is_row_of c.args.number) c.args.live.now.items ≡ false = rw (← c.deref.ensures.value) found.0 in
    rw missing refl

pub returns-in-Err-clause-table : goal.returns-in-Err-clause-table
returns-in-Err-clause-table c =
    let found = searched_rows c.deref.result.now c.args.number (Err c.in-Err.field-0) (rw c.deref.ensures.value c.requires.rising) c.in-Err.ensures.bound
    (c.in-Err.ensures.position (λ (row : Live). row.number) (always_returns_same _ _ _ (λ a r f k. search rules))) in
    rw (← c.deref.ensures.value) (sym found.1)

pub returns-in-Ok-clause-changed : goal.returns-in-Ok-clause-changed
returns-in-Ok-clause-changed c = λ p fails.
    let there = rw c.deref.ensures.value at c.in-Ok.ensures.bound in
    rw c.remove-row.ensures.items (removed_unseen p c.args.live.now.items c.in-Ok.place c.remove-row.result there c.remove-row.ensures.value fails)

pub returns-in-Ok-clause-shape : goal.returns-in-Ok-clause-shape
returns-in-Ok-clause-shape c =
    let there = rw c.deref.ensures.value at c.in-Ok.ensures.bound in
    let row : Live = c.remove-row.result in
    subst IsShape
    (get_or-map (λ (r : Live). r.shape) c.args.live.now.items c.in-Ok.place row row.shape there ∙ ap (λ (r : Live). r.shape) (sym c.remove-row.ensures.value))
    (c.requires.shapes c.in-Ok.place row.shape (rw length-map there))
