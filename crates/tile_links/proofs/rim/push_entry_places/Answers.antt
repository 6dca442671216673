use Rattle.std.proofs.Common.{◌+◌, List, get_or, ap}
use Rattle.mesh_types.specs.declared.mesh.LevelPair.{LevelPair}
use Rattle.tile_links.specs.declared.rim.RimPlace.{RimPlace}
use Rattle.tile_links.specs.RimPlaces.{some_pair, place_of}
use Rattle.tile_links.proofs.LooseLinks.{one_more_mapped}
use Rattle.tile_links.proofs.rim.push_entry_places.Goals as goal

pub loop-place-preserved : goal.loop-place-preserved
loop-place-preserved c =
    let entry = c.args.entry.now in
    let place = c.loop-place.place in
    let made : List LevelPair → RimPlace = λ pairs. record { position = entry.first + place; level = (get_or pairs place some_pair).own; entry = c.args.number } in
    one_more_mapped (place_of c.args.number entry) place (made c.as_slice-pairs.result.now) c.args.places.now.items c.loop-place.places.items
    c.push.new.self.items c.loop-place.invariant c.in_ok-push.ensures.items (ap made c.as_slice-pairs.ensures)
