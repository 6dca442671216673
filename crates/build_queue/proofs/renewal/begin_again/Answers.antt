use Rattle.std.proofs.Common.{◌≡◌, ◌-◌, ◌<◌, ◌∙◌, length, take, get_or, subst, arith, rules}
use Rattle.nav_ground.specs.declared.history.Entry.{Entry}
use Rattle.build_queue.specs.declared.live.Live.{Live}
use Rattle.build_queue.proofs.Renewals.{IsBegun, begun_again, begun_history, begun_more, begun_table, row_number, rows_fit, shapes_begun}
use Rattle.build_queue.proofs.renewal.begin_again.Goals as goal

pub overflow_cast-number : goal.overflow_cast-number
overflow_cast-number c =
    let within : c.loop-place.place < length c.args.live.now.items = search rules in
    let fit = rows_fit c.args.entries.now.items c.args.live.now.items c.requires.table in
    omega (arith, within, fit, c.requires.few)

pub overflow_add-number : goal.overflow_add-number
overflow_add-number c =
    let within : c.loop-place.place < length c.args.live.now.items = search rules in
    let fit = rows_fit c.args.entries.now.items c.args.live.now.items c.requires.table in
    omega (arith, within, fit, c.requires.few)

pub index-requires : goal.index-requires
index-requires c =
    let row : Live = c.index-row.result.now in
    let place = c.loop-place.place in
    let begun = c.loop-place.invariant.begun in
    let within : place < length c.args.live.now.items = search rules in
    let row_is : row ≡ get_or c.loop-place.live.items place row = search rules in
    let number = row_number c.args.entries.now.items c.args.live.now.items c.requires.table place row within in
    let bounds = rw (← row_is ∙ begun.rows_left place row (omega arith)) at number in
    let each : c.loop-place.entries.len ≡ length c.loop-place.entries.items = search rules in
    omega (arith, bounds.0, bounds.1, begun.entries_each, each)

pub index_mut-requires : goal.index_mut-requires
index_mut-requires c =
    let within : c.loop-place.place < length c.args.live.now.items = search rules in
    let fit = rows_fit c.args.entries.now.items c.args.live.now.items c.requires.table in
    let each : c.loop-place.entries.len ≡ length c.loop-place.entries.items = search rules in
    omega (arith, within, fit, c.loop-place.invariant.begun.entries_each, each)

pub loop-place-preserved : goal.loop-place-preserved
loop-place-preserved c =
    let row : Live = c.index-row.result.now in
    let entry : Entry = c.index.result.now in
    let place = c.loop-place.place in
    let begun = c.loop-place.invariant.begun in
    let within : place < length c.args.live.now.items = search rules in
    let row_is : row ≡ get_or c.loop-place.live.items place row = search rules in
    let entry_is : entry ≡ get_or c.loop-place.entries.items (row.number - 1) entry = search rules in
    let number = row_number c.args.entries.now.items c.args.live.now.items c.requires.table place row within in
    let bounds = rw (← row_is ∙ begun.rows_left place row (omega arith)) at number in
    let fit = rows_fit c.args.entries.now.items c.args.live.now.items c.requires.table in
    record {
      begun = begun_more c.args.entries.now.items c.loop-place.entries.items c.args.live.now.items c.loop-place.live.items place row entry begun within
          (omega (arith, within, fit)) row_is bounds.0 entry_is bounds.1;
      room = c.loop-place.invariant.room;
      live_room = c.loop-place.invariant.live_room;
    }

pub returns-clause-kept : goal.returns-clause-kept
returns-clause-kept c limit few rules' =
    let done : c.loop-place.place ≡ length c.args.live.now.items = search rules in
    let begun = subst (IsBegun c.args.entries.now.items c.loop-place.entries.items c.args.live.now.items c.loop-place.live.items) done c.loop-place.invariant.begun in
    let cut : c.truncate.new.self.items ≡ take (length c.args.live.now.items) c.loop-place.entries.items = search rules in
    rw cut (
      begun_history limit c.args.entries.now.items c.loop-place.entries.items c.args.live.now.items c.loop-place.live.items rules' c.requires.table few begun,
      begun_table limit c.args.entries.now.items c.loop-place.entries.items c.args.live.now.items c.loop-place.live.items rules' c.requires.table few begun,
    )

pub returns-clause-again : goal.returns-clause-again
returns-clause-again c =
    let done : c.loop-place.place ≡ length c.args.live.now.items = search rules in
    let begun = subst (IsBegun c.args.entries.now.items c.loop-place.entries.items c.args.live.now.items c.loop-place.live.items) done c.loop-place.invariant.begun in
    let cut : c.truncate.new.self.items ≡ take (length c.args.live.now.items) c.loop-place.entries.items = search rules in
    rw cut (begun_again c.args.entries.now.items c.loop-place.entries.items c.args.live.now.items c.loop-place.live.items c.requires.table begun)

pub returns-clause-shapes : goal.returns-clause-shapes
returns-clause-shapes c =
    let done : c.loop-place.place ≡ length c.args.live.now.items = search rules in
    shapes_begun c.args.entries.now.items c.loop-place.entries.items c.args.live.now.items c.loop-place.live.items
    (subst (IsBegun c.args.entries.now.items c.loop-place.entries.items c.args.live.now.items c.loop-place.live.items) done c.loop-place.invariant.begun)
