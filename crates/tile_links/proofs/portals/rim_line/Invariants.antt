use Rattle.std.proofs.Common.{◌≡◌, ℕ, ◌<◌, get_or}
use Rattle.mesh_types.specs.declared.mesh.RimEdge.{RimEdge}
use Rattle.tile_links.proofs.portals.rim_line.Given as goal

-- none of the entries so far runs along the side
abbrev pub invariant-loop-entry : goal.invariant-loop-entry
invariant-loop-entry l = (k : ℕ) (d : RimEdge) → k < l.entry-index → (get_or l.tile.rim k d).side ≡ l.side → ⊥
