-- The portals of a walk between two places that polygons hold can be pulled.
use Rattle.std.proofs.Common.{ℕ, List}
use Rattle.std.proofs.lemmas.List.Elements.{All-weaker}
use Rattle.nav_base.specs.declared.point.Point.{Point}
use Rattle.nav_base.specs.Point.{HasCoordinates}
use Rattle.mesh_types.specs.declared.links.Link.{Link}
use Rattle.mesh_types.specs.declared.links.PolyRef.{PolyRef}
use Rattle.mesh_types.specs.declared.links.Portal.{Portal}
use Rattle.mesh_types.specs.declared.mesh.Mesh.{Mesh}
use Rattle.mesh_types.specs.Chains.{IsChain}
use Rattle.mesh_types.specs.Corridors.{WalksTo}
use Rattle.mesh_types.specs.Located.{HoldsAt}
use Rattle.mesh_types.specs.Right.{portals_of}
use Rattle.mesh_types.specs.Soundness.{IsSound}
use Rattle.mesh_types.proofs.MeshLinks.{held_in}
use Rattle.mesh_types.proofs.WalkChains.{HasEnds, walk_is_chain, walk_ends}
use Rattle.funnel_path.specs.Coordinates.{HasEndCoordinates, HasChainCoordinates}

pub record ArePulled (start : Point) (portals : List Portal) (goal : Point) : Type 0 where
  pub chain : IsChain start portals goal
  pub coordinates : HasChainCoordinates start portals goal

pub pulled : (mesh : Mesh) (from : Point) (from_y : ℕ) (to : Point) (to_y : ℕ) (first last : PolyRef) (links : List Link) → IsSound mesh
    → HasCoordinates from → HasCoordinates to → HoldsAt mesh from from_y first → HoldsAt mesh to to_y last → WalksTo mesh first links last
    → ArePulled from (portals_of links) to
pulled mesh from from_y to to_y first last links sound at_from at_to start goal walks = record {
  chain = walk_is_chain mesh first links last from to sound walks (held_in mesh from from_y first start) (held_in mesh to to_y last goal);
  coordinates = record {
    at_start = at_from;
    at_ends = All-weaker HasEnds HasEndCoordinates (λ portal ends. record { left = ends.left; right = ends.right }) (portals_of links)
        (walk_ends mesh first links last sound walks);
    at_goal = at_to;
  };
}
