use Rattle.std.proofs.Common.{arith, sym, ◌∙◌}
use Rattle.std.proofs.lemmas.List.Sums.{prefix_len-drop_yes, prefix_len-drop_no, prefix_len-drop_all}
use Rattle.tile_links.specs.RimPlaces.{is_at_place}
use Rattle.tile_links.proofs.PlaceOrder.{blank}
use Rattle.tile_links.proofs.rim.count_at.Goals as goal

pub loop-count-preserved : goal.loop-count-preserved
loop-count-preserved c =
    let more = prefix_len-drop_yes (is_at_place c.args.position c.args.level) c.args.places.now c.loop-count.count blank c.loop-count-test.true
    (sym c.is_at_place.ensures ∙ c.if-is_at_place.true) in
    record { within = omega (arith, c.loop-count-test.true); same = omega (arith, more, c.loop-count.invariant.same) }

pub returns-after-loop-count-clause-value : goal.returns-after-loop-count-clause-value
returns-after-loop-count-clause-value c =
    let none = prefix_len-drop_all (is_at_place c.args.position c.args.level) c.args.places.now c.loop-count.count (omega (arith, c.loop-count-test.false)) in
    omega (arith, none, c.loop-count.invariant.same)

pub returns-else-is_at_place-clause-value : goal.returns-else-is_at_place-clause-value
returns-else-is_at_place-clause-value c =
    let none = prefix_len-drop_no (is_at_place c.args.position c.args.level) c.args.places.now c.loop-count.count blank c.loop-count-test.true
    (sym c.is_at_place.ensures ∙ c.if-is_at_place.false) in
    omega (arith, none, c.loop-count.invariant.same)
