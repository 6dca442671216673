use Rattle.std.proofs.Common.{◌≡◌, ◌≤◌, drop, length}
use Rattle.std.specs.Prelude.{All}
use Rattle.mesh_types.specs.Corridors.{IsLinkOf, cost_of}
use Rattle.corridor_search.specs.Estimates.{extent_at}
use Rattle.path_queries.specs.Filters.{with_costs}
use Rattle.kept_paths.proofs.LeadLaws.{AnswersAll}
use Rattle.kept_paths.proofs.leads.lead_at.Given as goal

-- what the rest leads on as, all do behind the links so far; these are links of the mesh and cost so much, and the extent is that of the last
-- polygon
abbrev pub invariant-loop-link : goal.invariant-loop-link
invariant-loop-link l = record {
  answers : AnswersAll l.mesh l.areas l.fn.first l.kept l.links.items l.last (drop l.link-index l.kept);
  listed : All (IsLinkOf l.mesh) l.links.items;
  count : length l.links.items ≤ l.link-index;
  cost : l.cost ≡ cost_of (with_costs l.costs l.mesh) l.links.items;
  extent : l.left ≡ extent_at l.mesh l.last;
}
