use Rattle.std.proofs.Common.{◌≡◌, ℕ, ◌<◌, get_or}
use Rattle.mesh_types.specs.declared.links.Link.{Link}
use Rattle.kept_paths.proofs.leads.has_link.Given as goal

-- none of the links so far is it
abbrev pub invariant-loop-other : goal.invariant-loop-other
invariant-loop-other l = (k : ℕ) (d : Link) → k < l.other-index → get_or l.links k d ≡ l.link → ⊥
