use Rattle.std.proofs.Common.{◌≡◌}
use Rattle.std.specs.Prelude.{slice_get}
use Rattle.random_place.specs.Spots.{tile_spots}
use Rattle.random_place.proofs.SpotLaws.{storeys_from}
use Rattle.random_place.proofs.spots.spot_in_tile.Given as goal

-- the spot is the one with what is left of its number among those of the storeys that are left
abbrev pub invariant-loop-storey : goal.invariant-loop-storey
invariant-loop-storey l = slice_get (storeys_from l.areas l.tile l.storeys.list l.storey) l.left ≡ slice_get (tile_spots l.areas l.tile l.storeys.list) l.number
