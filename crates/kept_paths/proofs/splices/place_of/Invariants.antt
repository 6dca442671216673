use Rattle.std.proofs.Common.{◌≡◌, ℕ, ◌<◌, get_or}
use Rattle.mesh_types.specs.declared.links.Link.{Link}
use Rattle.kept_paths.proofs.splices.place_of.Given as goal

-- none of the links so far leaves it
abbrev pub invariant-loop-place : goal.invariant-loop-place
invariant-loop-place l = (k : ℕ) (d : Link) → k < l.place → (get_or l.links k d).from ≡ l.at → ⊥
