-- Folds: chains of portals of which none folds back on the one before it.
use Rattle.std.specs.Prelude.{ℕ, ◌+◌, ◌<◌, List, length}
use Rattle.mesh_types.specs.declared.links.Portal.{Portal}
use Rattle.mesh_types.specs.Chains.{portal_at, IsFold}

-- no portal of a chain folds back on the one before it
abbrev pub IsUnfolded : List Portal → Type 0
IsUnfolded portals = (m : ℕ) → m + 1 < length portals → IsFold (portal_at portals m) (portal_at portals (m + 1)) → ⊥
