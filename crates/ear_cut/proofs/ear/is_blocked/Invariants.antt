use Rattle.std.proofs.Common.{◌≡◌, drop}
use Rattle.std.specs.List.{list_any}
use Rattle.mesh_types.specs.Ears.{is_blocked_by}
use Rattle.ear_cut.proofs.ear.is_blocked.Given as goal

-- the corners that are left to look at decide
abbrev pub invariant-loop-place : goal.invariant-loop-place
invariant-loop-place l = list_any (is_blocked_by l.corners l.triangle) l.rest ≡ list_any (is_blocked_by l.corners l.triangle) (drop l.place-index l.rest)
