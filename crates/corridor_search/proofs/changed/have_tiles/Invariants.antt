use Rattle.std.proofs.Common.{ℕ, ◌<◌, get_or}
use Rattle.std.specs.Prelude.{Contains}
use Rattle.corridor_search.proofs.changed.have_tiles.Given as goal

-- the new tiles so far are among those that are written
abbrev pub invariant-loop-place : goal.invariant-loop-place
invariant-loop-place l = (k d : ℕ) → k < l.place → Contains l.written (get_or l.news k d)
