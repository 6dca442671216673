use Rattle.std.proofs.Common.{◌≡◌, ℕ, ◌<◌, get_or}
use Rattle.mesh_types.specs.declared.links.PolyRef.{PolyRef}
use Rattle.corridor_search.proofs.islands.has.Given as goal

-- none so far is the polygon
abbrev pub invariant-loop-other : goal.invariant-loop-other
invariant-loop-other l = (k : ℕ) (d : PolyRef) → k < l.other-index → get_or l.island k d ≡ l.at → ⊥
