use Rattle.std.proofs.Common.{◌≡◌, length}
use Rattle.obstacle_registry.proofs.Placing.{ArePlaced}
use Rattle.obstacle_registry.proofs.saving.places_of.Given as goal

-- the places of the rows so far stand where their numbers do
abbrev pub invariant-loop-place : goal.invariant-loop-place
invariant-loop-place l = record {
  long : length l.places.items ≡ length l.numbers;
  placed : ArePlaced l.numbers l.rows l.places.items l.place;
}
