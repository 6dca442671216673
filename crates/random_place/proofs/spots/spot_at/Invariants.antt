use Rattle.std.proofs.Common.{◌≡◌}
use Rattle.std.specs.Prelude.{slice_get}
use Rattle.random_place.specs.Spots.{spots_of}
use Rattle.random_place.proofs.SpotLaws.{tiles_from}
use Rattle.random_place.proofs.spots.spot_at.Given as goal

-- the spot is the one with what is left of its number among those of the tiles that are left
abbrev pub invariant-loop-tile : goal.invariant-loop-tile
invariant-loop-tile l = slice_get (tiles_from l.mesh l.areas l.tile) l.left ≡ slice_get (spots_of l.mesh l.areas) l.number
