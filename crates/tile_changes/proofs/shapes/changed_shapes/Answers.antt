use Rattle.std.proofs.Common.{◌≡◌, List, ◌-◌, ◌+◌, ◌<◌, ◌≤◌, ℕ, Some, length, get_or, sym, ap, ◌∙◌, subst, arith}
use Rattle.std.specs.Prelude.{slice_get}
use Rattle.std.proofs.lemmas.Option.{slice_get-get_or}
use Rattle.nav_ground.specs.declared.history.Entry.{Entry}
use Rattle.nav_ground.specs.declared.history.Reply.TheVariants.{Added}
use Rattle.nav_ground.specs.declared.history.Request.TheVariants.{Add}
use Rattle.nav_ground.specs.declared.shape.Shape.TheVariants.{Block}
use Rattle.tile_changes.proofs.ToldEntries.{AreLaterRemovals, AreTold}
use Rattle.tile_changes.proofs.AliveBetween.{removed_earlier}
use Rattle.tile_changes.proofs.ToldShapes.{marked_more, none_marked, none_told, told_are_changed, told_none, told_one}
use Rattle.tile_changes.proofs.shapes.changed_shapes.Goals as goal
use Rattle.tile_changes.proofs.shapes.changed_shapes.Goals.{in-Some+in_ok-push, in_default}

-- the entry at hand
abbrev entry_of : (history : List Entry) → ℕ → Entry
entry_of history place = get_or history place (record { lane = 0; request = Add (Block 0 0 0 0 0 0); reply = Added 0 })

entry_at : (history : List Entry) (place : ℕ) → place < length history → slice_get history place ≡ Some (entry_of history place)
entry_at history place there = slice_get-get_or history place _ there

pub loop-place-init : goal.loop-place-init
loop-place-init c = (
  c.requires.order,
  none_marked c.args.history.now c.args.since c.args.upto c.in_ok-removed.removed.items c.requires.within c.in_ok-removed.ensures,
  none_told c.args.history.now c.args.since c.args.upto c.new-shapes.result.items c.new-shapes.ensures.items,
)

pub mark_removed-requires : goal.mark_removed-requires
mark_removed-requires c = λ number removes.
    let place = c.loop-place.place - 1 in
    let there : place < length c.args.history.now = omega (arith, c.loop-place-test.true, c.loop-place.auto.place, c.requires.within) in
    let earlier = removed_earlier c.args.history.now place number _ c.requires.rules (entry_at c.args.history.now place there) removes in
    omega (arith, earlier, c.loop-place.invariant.1.count, c.loop-place-test.true, c.loop-place.auto.place)

pub loop-place-preserved : goal.loop-place-preserved
loop-place-preserved c =
    let place = c.loop-place.place - 1 in
    let again : c.loop-place.place ≡ place + 1 = omega (arith, c.loop-place-test.true) in
    let order : c.args.since ≤ place = omega (arith, c.loop-place-test.true) in
    let below : place < c.args.upto = omega (arith, c.loop-place-test.true, c.loop-place.auto.place) in
    let at = entry_at c.args.history.now place (omega (arith, below, c.requires.within)) in
    let marks = subst (λ n. AreLaterRemovals c.args.history.now c.args.since c.args.upto n c.loop-place.removed.items) again c.loop-place.invariant.1 in
    let told = subst (λ n. AreTold c.args.history.now c.args.since c.args.upto n c.loop-place.shapes.items) again c.loop-place.invariant.2 in (
      order,
      marked_more c.args.history.now c.args.since c.args.upto place _ c.loop-place.removed.items c.mark_removed.new.removed.items below c.requires.within at marks
          c.mark_removed.ensures.count c.mark_removed.ensures.marks,
      elim c.match-told_by.branch [
        | in-Some+in_ok-push w ↦
            told_one c.args.history.now c.args.since c.args.upto place _ c.loop-place.removed.items order below c.requires.within at marks c.index.result.now
            w.in-Some.shape c.loop-place.shapes.items c.match-told_by.shapes.items c.index.ensures told (sym c.told_by.ensures ∙ w.in-Some.is)
            (ap (λ v. v.items) w.shapes-is ∙ w.in_ok-push.ensures.items)
        | in_default w ↦
            subst (λ v. AreTold c.args.history.now c.args.since c.args.upto place v.items) (sym w.shapes-is)
            (told_none c.args.history.now c.args.since c.args.upto place _ c.loop-place.removed.items order below c.requires.within at marks c.index.result.now
            c.loop-place.shapes.items c.index.ensures told (sym c.told_by.ensures ∙ w.in_default.is))
      ],
    )

pub returns : goal.returns
returns c =
    told_are_changed c.args.history.now c.args.since c.args.upto c.requires.rules c.requires.order c.requires.within c.loop-place.place
    c.loop-place.shapes.items c.loop-place.invariant.2 (omega (arith, c.loop-place.invariant.0, c.loop-place-test.false))
