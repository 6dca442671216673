-- Links that are tested to be a walk.
use Rattle.std.proofs.Common.{◌≡◌, ℕ, ◌+◌, ◌<◌, ◌≤◌, List, length, take, get_or, sym, subst, arith}
use Rattle.std.specs.Prelude.{Contains}
use Rattle.std.proofs.lemmas.List.{take_all, take_more}
use Rattle.nav_ground.specs.Limits.{IsSetting}
use Rattle.mesh_types.specs.declared.answers.Corridor.{Corridor}
use Rattle.mesh_types.specs.declared.links.Link.{Link}
use Rattle.mesh_types.specs.declared.links.PolyRef.{PolyRef}
use Rattle.mesh_types.specs.declared.mesh.Mesh.{Mesh}
use Rattle.mesh_types.specs.Corridors.{IsCheapest, IsLinkOf, WalksTo}
use Rattle.mesh_types.specs.Soundness.{IsSound}
use Rattle.mesh_types.proofs.WalkChains.{walk_push}
use Rattle.corridor_search.specs.MeshGraphs.{inner_links, outer_links}
use Rattle.corridor_search.proofs.Sound.{inner-leads, outer-leads}
use Rattle.nav_query.proofs.FewLinks.{few_links}
use Rattle.shortest_line.specs.Walks.{IsShortWalk}

-- the walk over the first links goes on over the next
pub walks_on : (mesh : Mesh) (first at : PolyRef) (links : List Link) (i : ℕ) (d : Link) → i < length links → WalksTo mesh first (take i links) at
    → IsLinkOf mesh (get_or links i d) → (get_or links i d).from ≡ at → WalksTo mesh first (take (i + 1) links) (get_or links i d).to
walks_on mesh first at links i d there walks is leaves =
    subst (λ (ls : List Link). WalksTo mesh first ls (get_or links i d).to) (sym (take_more links i d there))
    (walk_push mesh first (take i links) at (get_or links i d) walks is leaves)

-- and is over at the end
pub walks_all : (mesh : Mesh) (first at last : PolyRef) (links : List Link) (i : ℕ) → length links ≤ i → WalksTo mesh first (take i links) at → at ≡ last
    → WalksTo mesh first links last
walks_all mesh first at last links i past walks same =
    subst (WalksTo mesh first links) same (subst (λ (ls : List Link). WalksTo mesh first ls at) (take_all i links past) walks)

-- the links of a corridor are a walk, and few
pub corridor_short : (mesh : Mesh) (first last : PolyRef) (corridor : Corridor) → IsSound mesh → IsSetting mesh.setting → IsCheapest mesh first last corridor
    → IsShortWalk mesh first corridor.links last
corridor_short mesh first last corridor sound setting is = record {
  walks = is.walks;
  few = omega (arith, few_links mesh first last corridor sound setting is);
}

-- what leaves a polygon inside its tile or over the border is a link of the mesh
pub inner_link : (mesh : Mesh) (link : Link) (links : List Link) → IsSound mesh → links ≡ inner_links mesh link.from → Contains links link → IsLinkOf mesh link
inner_link mesh link links sound same among =
    (inner-leads mesh link.from link sound (subst (λ (ls : List Link). Contains ls link) same among)).listed

pub outer_link : (mesh : Mesh) (link : Link) (links : List Link) → IsSound mesh → links ≡ outer_links mesh link.from → Contains links link → IsLinkOf mesh link
outer_link mesh link links sound same among =
    (outer-leads mesh link.from link sound (subst (λ (ls : List Link). Contains ls link) same among)).listed
