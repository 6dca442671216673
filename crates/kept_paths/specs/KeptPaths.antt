-- Kept paths: how far the links of a path that was found in one mesh lead on in another one, and which answers to that question are right.
use Rattle.std.specs.Prelude.{◌≡◌, ℕ, ◌<◌, List, [], ◌∷◌, length, ⊤}
use Rattle.std.specs.Option.{option_map_or}
use Rattle.nav_base.specs.Point.{HasCoordinates}
use Rattle.mesh_types.specs.declared.answers.Corner.{Corner}
use Rattle.mesh_types.specs.declared.links.Link.{Link}
use Rattle.mesh_types.specs.declared.links.PolyRef.{PolyRef}
use Rattle.mesh_types.specs.declared.mesh.Mesh.{Mesh}
use Rattle.mesh_types.specs.declared.polygon.Polygon.{Polygon}
use Rattle.mesh_types.specs.Corridors.{IsLinkOf, cost_of}
use Rattle.mesh_types.specs.Located.{HoldsAt, IsNoLater, height_gap}
use Rattle.mesh_types.specs.Right.{portals_of}
use Rattle.mesh_types.specs.Taut.{IsTaut}
use Rattle.mesh_types.specs.WholeMesh.{poly_at}
use Rattle.path_queries.specs.Filters.{AllowedTo, Enters, IsFilter, priced}
use Rattle.kept_paths.specs.declared.checks.KeptPath.{KeptPath}
use Rattle.kept_paths.specs.declared.checks.CheckAnswer.{CheckAnswer}
use Rattle.kept_paths.specs.declared.checks.CheckAnswer.TheVariants.{Whole, Cut, NoStart}

-- both points have coordinates, the filter's own costs are costs, and the links can be numbered
pub record CanCheck (path : KeptPath) : Type 0 where
  pub from : HasCoordinates path.from
  pub goal : HasCoordinates path.goal
  pub filter : IsFilter path.filter
  pub few : length path.links < 4294967295

-- ---- how far links lead on

-- a link leaves a polygon through the portal of a kept link
pub record IsThrough (mesh : Mesh) (at : PolyRef) (kept link : Link) : Type 0 where
  pub listed : IsLinkOf mesh link
  pub leaves : link.from ≡ at
  pub through : link.portal ≡ kept.portal

-- a link leads on from a polygon: through the portal of a kept link, into a polygon of an open area
pub record LeadsOn (mesh : Mesh) (areas : ℕ) (at : PolyRef) (kept link : Link) : Type 0 where
  pub through : IsThrough mesh at kept link
  pub enters : Enters mesh areas link

-- kept links lead on from a polygon as these links, up to a last polygon: each through its portal, and as the kept link itself where that
-- leads on; up to the first kept link through whose portal none does
abbrev pub LeadOn : Mesh → ℕ → PolyRef → List Link → List Link → PolyRef → Type 0
LeadOn mesh areas at [] [] last = at ≡ last
LeadOn mesh areas at [] (link ∷ links) last = ⊥
LeadOn mesh areas at (kept ∷ more) [] last = (at ≡ last) × ((link : Link) → LeadsOn mesh areas at kept link → ⊥)
LeadOn mesh areas at (kept ∷ more) (link ∷ links) last =
    LeadsOn mesh areas at kept link × (LeadsOn mesh areas at kept kept → link ≡ kept) × LeadOn mesh areas link.to more links last

-- ---- where a kept path begins

-- some link leaves a polygon through the first portal of kept links, whatever it enters; where no link is kept, none has to
abbrev pub HasWayOut : Mesh → PolyRef → List Link → Type 0
HasWayOut mesh at [] = ⊤
HasWayOut mesh at (kept ∷ more) = (link : Link) × IsThrough mesh at kept link

-- a kept path may begin in a polygon: it holds the place, and has a way out through the first portal
pub record Begins (mesh : Mesh) (path : KeptPath) (at : PolyRef) : Type 0 where
  pub holding : HoldsAt mesh path.from path.from_y at
  pub way_out : HasWayOut mesh at path.links

-- how far a height is outside the floors of the polygon that a reference names; 0 where there is none
abbrev pub gap_at : Mesh → ℕ → PolyRef → ℕ
gap_at mesh y at = option_map_or (λ (polygon : Polygon). height_gap polygon y) (poly_at mesh at) 0

-- a kept path begins in the polygon that it names, where it may begin there; else, of those in which it may, in the nearest in height, and
-- of equally near ones in the first by tile and place
pub record IsBeginning (mesh : Mesh) (path : KeptPath) (at : PolyRef) : Type 0 where
  pub begins : Begins mesh path at
  pub named : Begins mesh path path.first → at ≡ path.first
  pub nearest : (Begins mesh path path.first → ⊥) → (other : PolyRef) → Begins mesh path other
      → IsNoLater (gap_at mesh path.from_y at) at (gap_at mesh path.from_y other) other

-- ---- answers

-- all of a kept path leads on, from where it begins to a polygon that holds the goal; the links as they are now, with what they cost as the
-- filter prices the mesh, and a line that is taut in their portals
pub record IsWhole (mesh : Mesh) (path : KeptPath) (first : PolyRef) (cost : ℕ) (links : List Link) (turns : List Corner) : Type 0 where
  pub begins : IsBeginning mesh path first
  pub last : PolyRef
  pub leads : LeadOn mesh path.filter.areas first path.links links last
  pub all : length links ≡ length path.links
  pub goal : HoldsAt mesh path.goal path.goal_y last
  pub allowed : AllowedTo mesh path.filter.areas first links last
  pub costs : cost ≡ cost_of (priced mesh path.filter) links
  pub taut : IsTaut path.from (portals_of links) path.goal turns

-- a part of it leads on: it stops before the kept link that stands behind these ones; or all of it leads on, and the last polygon does not
-- hold the goal
pub record IsCut (mesh : Mesh) (path : KeptPath) (first : PolyRef) (cost : ℕ) (links : List Link) : Type 0 where
  pub begins : IsBeginning mesh path first
  pub last : PolyRef
  pub leads : LeadOn mesh path.filter.areas first path.links links last
  pub short : length links ≡ length path.links → HoldsAt mesh path.goal path.goal_y last → ⊥
  pub allowed : AllowedTo mesh path.filter.areas first links last
  pub costs : cost ≡ cost_of (priced mesh path.filter) links

-- an answer to the question whether a kept path still leads on is right in a mesh
abbrev pub IsChecked : KeptPath → Mesh → CheckAnswer → Type 0
IsChecked path mesh (Whole first cost links turns) = IsWhole mesh path first cost links turns
IsChecked path mesh (Cut first cost links) = IsCut mesh path first cost links
IsChecked path mesh NoStart = (at : PolyRef) → Begins mesh path at → ⊥
