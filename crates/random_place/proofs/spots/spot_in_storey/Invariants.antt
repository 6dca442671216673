use Rattle.std.proofs.Common.{◌≡◌}
use Rattle.std.specs.Prelude.{slice_get}
use Rattle.random_place.specs.Spots.{storey_spots}
use Rattle.random_place.proofs.SpotLaws.{rows_from}
use Rattle.random_place.proofs.spots.spot_in_storey.Given as goal

-- the spot is the one with what is left of its number among those of the rows that are left
abbrev pub invariant-loop-row : goal.invariant-loop-row
invariant-loop-row l = slice_get (rows_from l.home l.storey l.row) l.left ≡ slice_get (storey_spots l.home l.storey) l.number
