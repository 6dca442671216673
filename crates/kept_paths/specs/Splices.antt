-- Splices: what the code that joins walks and looks for the rest of a kept path has found.
use Rattle.std.specs.Prelude.{◌≡◌, ℕ, ◌<◌, ◌≤◌, ◌⊎◌, List, length, take, drop, slice_index_or, Contains}
use Rattle.mesh_types.specs.declared.links.Link.{Link}
use Rattle.mesh_types.specs.declared.links.PolyRef.{PolyRef}
use Rattle.mesh_types.specs.declared.mesh.Mesh.{Mesh}
use Rattle.mesh_types.specs.Corridors.{IsLinkOf}
use Rattle.path_queries.specs.Filters.{Enters}
use Rattle.kept_paths.specs.declared.checks.KeptPath.{KeptPath}
use Rattle.kept_paths.specs.Repairs.{AreApart, IsRest}

-- a walk to a last polygon stands in a polygon behind so many of its links
pub record StandsAt (links : List Link) (last at : PolyRef) (place : ℕ) : Type 0 where
  pub within : place ≤ length links
  pub inside : (d : Link) → place < length links → (slice_index_or links place d).from ≡ at
  pub end : place ≡ length links → last ≡ at

-- it stands there nowhere
pub record StandsNowhere (links : List Link) (last at : PolyRef) : Type 0 where
  pub none : (link : Link) → Contains links link → link.from ≡ at → ⊥
  pub not_last : last ≡ at → ⊥

-- two walks that follow each other meet first: so many links of the first lead to where the second stands behind so many of its own
pub record IsMeeting (links more : List Link) (last : PolyRef) (taken dropped : ℕ) : Type 0 where
  pub within : taken ≤ length links
  pub apart : AreApart (take taken links) more last
  pub meets : ((taken ≡ length links) × (dropped ≡ 0))
      ⊎ ((at : PolyRef) × StandsAt more last at dropped × (taken < length links) × ((d : Link) → (slice_index_or links taken d).from ≡ at))

-- a link leads, as it is, into a polygon of an open area
pub record Joins (mesh : Mesh) (areas : ℕ) (link : Link) (to : PolyRef) : Type 0 where
  pub listed : IsLinkOf mesh link
  pub enters : Enters mesh areas link
  pub reaches : link.to ≡ to

-- the longest rest of a kept path begins at a place, in a polygon; it leads to a last one
pub record IsLongestRest (mesh : Mesh) (path : KeptPath) (cut start : ℕ) (to last : PolyRef) : Type 0 where
  pub is : IsRest mesh path cut (drop start path.links) to last
  pub longest : (other : List Link) (to' last' : PolyRef) → IsRest mesh path cut other to' last' → length other ≤ length (drop start path.links)
