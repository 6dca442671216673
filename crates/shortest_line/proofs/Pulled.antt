-- What the portals of a walk between two located places are, and the line that is pulled through them.
use Rattle.std.proofs.Common.{◌≡◌, ℕ, ◌*◌, ◌≤◌, ◌<◌, List, length, sym, ap, subst, ◌∙◌, arith}
use Rattle.std.specs.Prelude.{All}
use Rattle.std.proofs.lemmas.List.{length-map}
use Rattle.std.proofs.lemmas.List.Elements.{All-weaker}
use Rattle.nav_base.specs.Deviation.{square_of}
use Rattle.nav_base.specs.Point.{HasCoordinates, from_to}
use Rattle.mesh_types.specs.declared.answers.Corner.{Corner}
use Rattle.mesh_types.specs.declared.links.Link.{Link}
use Rattle.mesh_types.specs.declared.links.PolyRef.{PolyRef}
use Rattle.mesh_types.specs.declared.mesh.Mesh.{Mesh}
use Rattle.mesh_types.specs.Chains.{IsChain}
use Rattle.mesh_types.specs.Corridors.{WalksTo}
use Rattle.mesh_types.specs.Located.{IsLocated}
use Rattle.mesh_types.specs.Right.{portals_of}
use Rattle.mesh_types.specs.Soundness.{IsSound}
use Rattle.mesh_types.specs.Taut.{IsTaut}
use Rattle.mesh_types.proofs.MeshLinks.{held_in}
use Rattle.mesh_types.proofs.WalkChains.{HasEnds, walk_is_chain, walk_ends}
use Rattle.corridor_search.specs.MeshGraphs.{IsThere}
use Rattle.funnel_path.specs.Coordinates.{HasEndCoordinates, HasChainCoordinates}
use Rattle.shortest_line.specs.declared.query.LineQuery.{LineQuery}
use Rattle.shortest_line.specs.Lines.{CanAskLine, IsLineFound, IsUnderAll, measured_of}
use Rattle.shortest_line.specs.Walks.{IsShortWalk}
use Rattle.shortest_line.proofs.LengthLaws.{straight_under}
use Rattle.shortest_line.proofs.Measures.{points_over}
use Rattle.shortest_line.proofs.Turns.{few_turns, points_are, turn_coordinates}

-- the polygon that locates a place is one of the mesh
pub located_there : (mesh : Mesh) (query : LineQuery) (at : PolyRef) → IsLocated mesh query.from query.from_y at → IsThere mesh at
located_there mesh query at is = record { polygon = is.holding.polygon; is = is.holding.there }

pub goal_there : (mesh : Mesh) (query : LineQuery) (at : PolyRef) → IsLocated mesh query.goal query.goal_y at → IsThere mesh at
goal_there mesh query at is = record { polygon = is.holding.polygon; is = is.holding.there }

-- the straight distance is under all lines
under_all : (mesh : Mesh) (first last : PolyRef) (query : LineQuery) (parts : ℕ) → parts * parts ≤ 4096 * 4096 * square_of (from_to query.from query.goal)
    → IsUnderAll mesh first last query.from query.goal parts
under_all mesh first last query parts low = record {
  each = λ links d r some walks line. straight_under (portals_of links) query.from query.goal parts d r low line;
}

-- the links as the calls see them, and as the line has them
module _ (mesh : Mesh) (query : LineQuery) (first last : PolyRef) (links ls : List Link) (same : ls ≡ links) (sound : IsSound mesh) (can : CanAskLine query)
    (start : IsLocated mesh query.from query.from_y first) (goal : IsLocated mesh query.goal query.goal_y last)
    (is : IsShortWalk mesh first links last) where
  walks : WalksTo mesh first ls last
  walks = subst (λ (walk : List Link). WalksTo mesh first walk last) (sym same) is.walks

  pub chain_of : IsChain query.from (portals_of ls) query.goal
  chain_of =
      walk_is_chain mesh first ls last query.from query.goal sound walks (held_in mesh query.from query.from_y first start.holding)
      (held_in mesh query.goal query.goal_y last goal.holding)

  pub coordinates_of : HasChainCoordinates query.from (portals_of ls) query.goal
  coordinates_of = record {
    at_start = can.from;
    at_ends = All-weaker HasEnds HasEndCoordinates (λ portal ends. record { left = ends.left; right = ends.right }) (portals_of ls)
        (walk_ends mesh first ls last sound walks);
    at_goal = can.goal;
  }

  pub few_portals : length (portals_of ls) < 4294967295
  few_portals = omega (arith, is.few, length-map ls (λ (link : Link). link.portal), ap (λ (walk : List Link). length walk) same)

  -- and the turns of a line that was pulled
  module _ (turns ts : List Corner) (same' : ts ≡ turns) (taut : IsTaut query.from (portals_of ls) query.goal turns) where
    pub turns_few : length ts ≤ 8589934592
    turns_few = omega (arith, few_turns query.from (portals_of ls) query.goal turns taut, few_portals, ap (λ (all : List Corner). length all) same')

    pub turns_placed : All (λ (turn : Corner). HasCoordinates turn.at) ts
    turns_placed =
        subst (All (λ (turn : Corner). HasCoordinates turn.at)) (sym same')
        (turn_coordinates query.from (portals_of ls) query.goal turns coordinates_of taut)

    pub line_found : (upper lower : ℕ) → upper ≡ measured_of (points_over query.from ts query.goal)
        → lower * lower ≤ 4096 * 4096 * square_of (from_to query.from query.goal)
        → IsLineFound mesh query (record { first = first; last = last; links = links; turns = turns; upper = upper; lower = lower })
    line_found upper lower measure low = record {
      start = start;
      goal = goal;
      walks = is.walks;
      taut = subst (λ (walk : List Link). IsTaut query.from (portals_of walk) query.goal turns) same taut;
      upper =
          measure ∙ ap (λ (all : List Corner). measured_of (points_over query.from all query.goal)) same'
          ∙ ap measured_of (points_are query.from (portals_of links) query.goal turns);
      lower = under_all mesh first last query lower low;
    }
