use Rattle.std.proofs.Common.{◌++◌, [], ap, ◌∙◌, arith}
use Rattle.std.specs.Prelude.{◌==◌, if◌then◌else◌}
use Rattle.std.proofs.lemmas.List.{get_or_default}
use Rattle.mesh_types.specs.declared.mesh.RimEdge.{RimEdge}
use Rattle.tile_links.specs.RimPlaces.{some_entry, entry_places, places_along}
use Rattle.tile_links.proofs.LooseLinks.{one_more_gathered}
use Rattle.tile_links.proofs.RimTables.{handed_out}
use Rattle.tile_links.proofs.rim.side_places.Goals as goal

pub loop-number-preserved : goal.loop-number-preserved
loop-number-preserved c =
    let rim = c.args.rim.now in
    let number = c.loop-number.number in
    let same = c.index-rim-number.is ∙ get_or_default rim number c.index-rim-number.result some_entry c.loop-number-test.true in
    one_more_gathered (places_along c.args.side rim) number [] c.loop-number.places.items c.push_side_places.new.places.items c.loop-number.invariant
    (c.in_ok-push_side_places.ensures
    ∙ ap (λ (entry : RimEdge). c.loop-number.places.items ++ (if entry.side == c.args.side then entry_places number entry else [])) same)

pub returns : goal.returns
returns c =
    handed_out c.args.side c.args.rim.now c.loop-number.places.len c.loop-number.number c.loop-number.places.items c.as_mut_slice.result.now
    c.order_places.new.places c.loop-number.places.ok.0 c.as_mut_slice.ensures.value c.order_places.auto.places c.order_places.ensures.order
    c.order_places.ensures.all c.loop-number.invariant (omega (arith, c.loop-number-test.false, c.loop-number.auto.number-end))
