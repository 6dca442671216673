use Rattle.std.proofs.Common.{◌+◌, ◌++◌, List, ap, ◌∙◌}
use Rattle.std.specs.List.{flat_map}
use Rattle.nav_ground.specs.Cells.{opposite}
use Rattle.tile_links.specs.declared.rim.RimPlace.{RimPlace}
use Rattle.tile_links.specs.Loose.{place_links, run_links}
use Rattle.tile_links.specs.RimPlaces.{pair_of}
use Rattle.tile_links.proofs.LooseLinks.{one_more_gathered}
use Rattle.tile_links.proofs.RimTables.{found_within}
use Rattle.tile_links.proofs.rim.push_entry_links.Goals as goal

pub push_place_links-requires-clause-across : goal.push_place_links-requires-clause-across
push_place_links-requires-clause-across c = λ i d there.
    found_within (opposite c.args.border.side) c.args.border.across.now.rim c.args.places.now c.places_across-across.result.now
    (c.args.entry.now.first + c.loop-place.place) (pair_of c.args.entry.now c.loop-place.place).other i d c.requires.places
    c.places_across-across.ensures there

pub loop-place-preserved : goal.loop-place-preserved
loop-place-preserved c =
    let a = c.args.border.tile.now in
    let b = c.args.border.across.now in
    let entry = c.args.entry.now in
    let place = c.loop-place.place in
    one_more_gathered (place_links a b c.args.border.side entry c.args.places.now) place c.args.links.now.items
    c.loop-place.links.items c.push_place_links.new.links.items c.loop-place.invariant
    (c.in_ok-push_place_links.ensures
    ∙ ap (λ (found : List RimPlace). c.loop-place.links.items ++ flat_map (run_links a b c.args.border.side entry place) found) c.places_across-across.ensures)
