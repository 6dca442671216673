-- What the parts of a path are asked and give.
use Rattle.std.proofs.Common.{◌≡◌, ℕ, ◌<◌, List, length, sym, subst, arith}
use Rattle.std.proofs.lemmas.List.{length-map}
use Rattle.std.proofs.lemmas.List.Elements.{All-weaker}
use Rattle.nav_base.specs.declared.point.Point.{Point}
use Rattle.nav_base.specs.Point.{HasCoordinates}
use Rattle.nav_ground.specs.Limits.{IsSetting}
use Rattle.mesh_types.specs.declared.answers.Corridor.{Corridor}
use Rattle.mesh_types.specs.declared.links.Link.{Link}
use Rattle.mesh_types.specs.declared.links.PolyRef.{PolyRef}
use Rattle.mesh_types.specs.declared.links.Portal.{Portal}
use Rattle.mesh_types.specs.declared.mesh.Mesh.{Mesh}
use Rattle.mesh_types.specs.Chains.{IsChain}
use Rattle.mesh_types.specs.Corridors.{IsCheapest}
use Rattle.mesh_types.specs.Located.{IsLocated}
use Rattle.mesh_types.specs.Right.{portals_of}
use Rattle.mesh_types.specs.Soundness.{IsSound}
use Rattle.mesh_types.proofs.MeshLinks.{held_in}
use Rattle.mesh_types.proofs.WalkChains.{HasEnds, walk_is_chain, walk_ends}
use Rattle.corridor_search.specs.MeshGraphs.{IsThere}
use Rattle.funnel_path.specs.Coordinates.{HasEndCoordinates, HasChainCoordinates}
use Rattle.nav_query.proofs.FewLinks.{few_links}

-- the polygon that locates a place is one of the mesh
pub located_there : (mesh : Mesh) (p : Point) (y : ℕ) (at : PolyRef) → IsLocated mesh p y at → IsThere mesh at
located_there mesh p y at is = record { polygon = is.holding.polygon; is = is.holding.there }

-- what is asked of the portals of a corridor between two places
pub record ArePulled (start : Point) (portals : List Portal) (goal : Point) : Type 0 where
  pub chain : IsChain start portals goal
  pub few : length portals < 4294967295
  pub coordinates : HasChainCoordinates start portals goal

pub pulled : (mesh : Mesh) (from : Point) (from_y : ℕ) (to : Point) (to_y : ℕ) (first last : PolyRef) (corridor : Corridor) (links : List Link)
    → IsSound mesh → IsSetting mesh.setting → HasCoordinates from → HasCoordinates to → IsLocated mesh from from_y first → IsLocated mesh to to_y last
    → IsCheapest mesh first last corridor → links ≡ corridor.links → ArePulled from (portals_of links) to
pulled mesh from from_y to to_y first last corridor links sound setting at_from at_to start goal cheapest same =
    subst (λ (ls : List Link). ArePulled from (portals_of ls) to) (sym same) (record {
      chain = walk_is_chain mesh first corridor.links last from to sound cheapest.walks (held_in mesh from from_y first start.holding) (held_in mesh to to_y last goal.holding);
      few = omega (arith, few_links mesh first last corridor sound setting cheapest, length-map corridor.links (λ (link : Link). link.portal));
      coordinates = record {
        at_start = at_from;
        at_ends = All-weaker HasEnds HasEndCoordinates (λ portal ends. record { left = ends.left; right = ends.right }) (portals_of corridor.links)
            (walk_ends mesh first corridor.links last sound cheapest.walks);
        at_goal = at_to;
      };
    })
