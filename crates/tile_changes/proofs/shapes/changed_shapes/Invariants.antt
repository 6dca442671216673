use Rattle.std.specs.Prelude.{◌≤◌}
use Rattle.tile_changes.proofs.ToldEntries.{AreLaterRemovals, AreTold}
use Rattle.tile_changes.proofs.shapes.changed_shapes.Given as goal

-- the shapes that the entries looked at tell are there, and the marks say what these entries remove
abbrev pub invariant-loop-place : goal.invariant-loop-place
invariant-loop-place l =
    (l.since ≤ l.place) × AreLaterRemovals l.history l.since l.upto l.place l.removed.items × AreTold l.history l.since l.upto l.place l.shapes.items
