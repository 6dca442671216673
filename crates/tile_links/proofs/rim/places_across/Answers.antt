use Rattle.std.proofs.Common.{◌+◌, List, filter, get_or, ap, ◌∙◌}
use Rattle.mesh_types.specs.declared.mesh.LevelPair.{LevelPair}
use Rattle.tile_links.specs.RimPlaces.{some_pair, is_at_place}
use Rattle.tile_links.proofs.rim.places_across.Goals as goal

pub returns : goal.returns
returns c =
    c.places_at.ensures
    ∙ ap (λ (pairs : List LevelPair). filter (is_at_place (c.args.entry.now.first + c.args.place) (get_or pairs c.args.place some_pair).other) c.args.places.now)
    c.as_slice.ensures
