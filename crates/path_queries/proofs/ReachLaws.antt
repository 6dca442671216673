-- What the list of a search through a filter says of its goals.
use Rattle.std.proofs.Common.{◌≡◌, ℕ, ◌+◌, ◌<◌, ◌≤◌, ◌⊎◌, true, List, [], ◌∷◌, length, map, refl, sym, subst, ap, ◌∙◌, inl, inr, arith}
use Rattle.std.specs.Prelude.{All, Contains, slice_get, Some}
use Rattle.std.proofs.lemmas.Bool.{cases_eq, cases_lt}
use Rattle.std.proofs.lemmas.Nat.{mul-le}
use Rattle.std.proofs.lemmas.List.{get_or-map, length-map}
use Rattle.nav_ground.specs.Limits.{IsSetting}
use Rattle.mesh_types.specs.declared.answers.Corridor.{Corridor}
use Rattle.mesh_types.specs.declared.links.Link.{Link}
use Rattle.mesh_types.specs.declared.links.PolyRef.{PolyRef}
use Rattle.mesh_types.specs.declared.mesh.Mesh.{Mesh}
use Rattle.mesh_types.specs.Corridors.{cost_of}
use Rattle.mesh_types.specs.Soundness.{IsSound}
use Rattle.graph_search.specs.declared.exploring.Limits.{Limits}
use Rattle.graph_search.specs.declared.exploring.ReachedVertex.{ReachedVertex}
use Rattle.graph_search.specs.declared.graph.Vertex.{Vertex}
use Rattle.graph_search.specs.declared.graph.Walk.{Walk}
use Rattle.graph_search.specs.Explored.{HasEnded, HasStopped, IsReached, IsReachedWalk}
use Rattle.graph_search.specs.Walks as graph
use Rattle.graph_search.proofs.Members.{contains_cases, contains_none}
use Rattle.graph_search.proofs.Moves.{move_of, moves-step, steps-move, steps-weigh}
use Rattle.graph_search.proofs.ReachedLists.{get-one}
use Rattle.graph_search.proofs.ReachedWalks.{led-to, reached-cheapest}
use Rattle.corridor_search.specs.MeshGraphs.{IsOver, IsThere, arc_over, link_of, no_link, polygon_of, vertex_of, vertices_of}
use Rattle.corridor_search.proofs.Searchable.{vertices-few}
use Rattle.corridor_search.proofs.Sound.{leads}
use Rattle.path_queries.specs.declared.filters.Filter.{Filter}
use Rattle.path_queries.specs.Filters.{AllowedTo, IsCheapestAllowed, priced, with_costs}
use Rattle.path_queries.specs.FilteredGraphs.{filtered_links, leads_on}
use Rattle.path_queries.specs.Reaches.{AreMet, ArePlanLimits, IsBeyondSeen, IsDeep, IsMet, IsNearest}
use Rattle.path_queries.specs.Searches.{IsSearchedThrough}
use Rattle.path_queries.proofs.AllowedWalks.{moves-walk, open-or-lighter, taken-over, walk-cheapest}
use Rattle.path_queries.proofs.CostLaws.{setting-with}
use Rattle.path_queries.proofs.FilteredLinks.{held-link, held-on}
use Rattle.path_queries.proofs.MappedLists.{contains-mapped, get-mapped}
use Rattle.path_queries.proofs.Reaching.{allowed-steps, arc-link, arcs}

-- the one of a list of one
pub only-one : (to at : PolyRef) → Contains (to ∷ []) at → to ≡ at
only-one to at held = elim (contains_cases to at [] held) [ inl is ↦ is | inr later ↦ absurd (contains_none at later) ]

-- the nearest of one goal is that goal
pub nearest-one : (mesh : Mesh) (filter : Filter) (first to : PolyRef) (limits : Limits) (at : PolyRef) (corridor : Corridor)
    → IsNearest mesh filter first (to ∷ []) limits at corridor → IsCheapestAllowed mesh filter first to corridor
nearest-one mesh filter first to limits at corridor is =
    subst (λ (goal : PolyRef). IsCheapestAllowed mesh filter first goal corridor) (sym (only-one to at is.is_goal)) is.cheapest

-- one goal is one of those goals
pub has-one : (to : PolyRef) → Contains (to ∷ []) to
has-one to = (0, omega (arith), refl)

module _ (mesh : Mesh) (filter : Filter) (from : PolyRef) (goals : List PolyRef) (limits : Limits) (list : List ReachedVertex) (seen : ℕ)
    (sound : IsSound mesh) (setting : IsSetting mesh.setting) (there : IsThere mesh from)
    (searched : IsSearchedThrough mesh filter from goals limits list seen) where
  -- an allowed walk to a polygon that was reached, from which a walk may lead on
  allowed-to : (k : ℕ) (entry : ReachedVertex) → slice_get list k ≡ Some entry
      → leads_on mesh filter.areas from (polygon_of entry.vertex) ≡ true
      → (links : List Link) × AllowedTo mesh filter.areas from links (polygon_of entry.vertex)
  allowed-to k entry is on =
      let moves = filtered_links mesh filter.areas from in
      let arc = arc_over (with_costs searched.search mesh) in
      let led = led-to (arcs mesh filter from goals limits list seen sound there searched) (vertex_of from) list searched.explored.tree k k
      (omega arith) entry is in
      let links : List Link = map (move_of moves no_link) led.steps in
      let made = steps-move moves arc no_link led.steps (vertex_of from) entry.vertex led.walks in
      let weight = steps-weigh moves arc no_link led.steps (vertex_of from) entry.vertex led.walks in
      let walks = moves-walk mesh filter.areas searched.search from sound links from (polygon_of entry.vertex) made in
      elim (open-or-lighter mesh filter.areas searched.search from sound links from (polygon_of entry.vertex)
      (setting-with mesh.setting searched.search setting searched.costs_are) made on) [
        | inl all ↦ (links, record { walks = walks; enters = all })
        | inr lighter ↦
            let other = moves-step moves arc no_link lighter.other (vertex_of from) entry.vertex lighter.moves in
            let least = searched.explored.least k entry other.0 is other.1 in
            absurd (omega (arith, least, other.2, lighter.less, weight, led.adds_up))
      ]

  -- the polygons that were reached are met
  abbrev polygons : List PolyRef
  polygons = map (λ (entry : ReachedVertex). polygon_of entry.vertex) list

  are-met : AreMet mesh filter.areas from polygons
  are-met = record { once = once'; each = each' }
    where
      once' : (j k : ℕ) (at : PolyRef) → slice_get polygons j ≡ Some at → slice_get polygons k ≡ Some at → j ≡ k
      once' j k at is is' =
          let a = get-mapped (λ (entry : ReachedVertex). polygon_of entry.vertex) list j at is in
          let b = get-mapped (λ (entry : ReachedVertex). polygon_of entry.vertex) list k at is' in
          searched.explored.once j k a.of b.of a.there b.there (ap vertex_of (a.is ∙ sym b.is))

      met : (k : ℕ) (entry : ReachedVertex) → slice_get list k ≡ Some entry
          → (polygon_of entry.vertex ≡ from) ⊎ IsMet mesh filter.areas from (polygon_of entry.vertex)
      met k entry is =
          elim (cases_eq k 0) [
            | inl none ↦
                let same = get-one list entry _ 0 (ap (λ (m : ℕ). slice_get list m) (sym none) ∙ is) searched.explored.tree.begins in
                inl (ap (λ (e : ReachedVertex). polygon_of e.vertex) same)
            | inr some ↦
                let reached = searched.explored.tree.steps k entry (omega (arith, some)) is in
                let arc = arc-link mesh filter from goals limits list seen sound there searched k entry reached in
                let leading = leads mesh (polygon_of reached.before.vertex) arc.link sound
                (held-link mesh filter.areas from reached.before.vertex arc.link arc.held) in
                let walk = allowed-to entry.via reached.before reached.there (held-on mesh filter.areas from reached.before.vertex arc.link arc.held) in
                inr (record {
                  before = polygon_of reached.before.vertex;
                  links = walk.0;
                  allowed = walk.1;
                  link = arc.link;
                  listed = leading.listed;
                  leaves = leading.leaves;
                  reaches = arc.to;
                })
          ]

      each' : (k : ℕ) (at : PolyRef) → slice_get polygons k ≡ Some at → (at ≡ from) ⊎ IsMet mesh filter.areas from at
      each' k at is =
          let a = get-mapped (λ (entry : ReachedVertex). polygon_of entry.vertex) list k at is in
          subst (λ (p : PolyRef). (p ≡ from) ⊎ IsMet mesh filter.areas from p) a.is (met k a.of a.there)

  -- the last of the list
  module _ (last : ℕ) (entry : ReachedVertex) (end : last + 1 ≡ length list) (is : slice_get list last ≡ Some entry) where
    -- a goal that was reached is the last
    goal-last : (goal : PolyRef) → Contains goals goal → IsReached list (vertex_of goal) → goal ≡ polygon_of entry.vertex
    goal-last goal held reached =
        let stop = subst (Contains (map vertex_of goals)) (sym reached.is) (contains-mapped vertex_of goals goal held) in
        let stopped = searched.explored.stopped reached.place reached.entry reached.there stop in
        let place : reached.place ≡ last = omega (arith, stopped.0, end) in
        let same = get-one list reached.entry entry last (ap (slice_get list) (sym place) ∙ reached.there) is in
        ap polygon_of (sym reached.is ∙ ap (λ (e : ReachedVertex). e.vertex) same)

    module _ (other : Contains goals (polygon_of entry.vertex) → ⊥) where
      not-reached : (goal : PolyRef) → Contains goals goal → IsReached list (vertex_of goal) → ⊥
      not-reached goal held reached = other (subst (Contains goals) (goal-last goal held reached) held)

      -- where all was seen, no allowed walk leads to a goal
      pub apart-all : seen ≡ 18446744073709551615 → (goal : PolyRef) (links : List Link) → Contains goals goal
          → AllowedTo mesh filter.areas from links goal → ⊥
      apart-all all goal links held allowed =
          let made = allowed-steps mesh filter from goals limits list seen sound there searched links goal allowed in
          not-reached goal held (searched.explored.within (vertex_of goal) made.steps made.walks (inr all))

      from-mapped : (v : Vertex) → Contains (map vertex_of goals) v → Contains goals (polygon_of v)
      from-mapped v held =
          let below = subst (λ (n : ℕ). held.0 < n) (length-map goals vertex_of) held.1 in
          (held.0, below, ap polygon_of (sym (get_or-map vertex_of goals held.0 (polygon_of v) v below) ∙ held.2))

      no-stop : HasStopped (map vertex_of goals) list → ⊥
      no-stop stopped = not-reached (polygon_of stopped.stop) (from-mapped stopped.stop stopped.stops_there) stopped.reached

      -- else each costs at least what was seen
      pub beyond-seen : seen < 18446744073709551615 → IsBeyondSeen mesh filter from goals limits seen
      beyond-seen some = record {
        beyond = beyond';
        deep = by_end searched.explored.ended;
        limited = limited' searched.explored.ended;
        past = past' searched.explored.ended;
      }
        where
          beyond' : (goal : PolyRef) (links : List Link) → Contains goals goal → AllowedTo mesh filter.areas from links goal
              → seen ≤ cost_of (priced mesh filter) links
          beyond' goal links held allowed =
              let made = allowed-steps mesh filter from goals limits list seen sound there searched links goal allowed in
              elim (cases_lt (cost_of (priced mesh filter) links) seen) [
                | inl less ↦
                    absurd (not-reached goal held (searched.explored.within (vertex_of goal) made.steps made.walks
                    (inl (omega (arith, less, made.cost, searched.no_rest goal held)))))
                | inr more ↦ more
              ]

          limited' : HasEnded (map vertex_of goals) limits list seen → ArePlanLimits limits.key limits.count
          limited' (inl all) = absurd (omega (arith, some, all))
          limited' (inr (inl stopped)) = absurd (no-stop stopped)
          limited' (inr (inr (inl key))) = inl (omega (arith, key, some))
          limited' (inr (inr (inr count))) = inr (omega (arith, count, searched.explored.short, vertices-few mesh sound))

          past' : HasEnded (map vertex_of goals) limits list seen → 8000000 < limits.count → limits.key < seen
          past' (inl all) many = absurd (omega (arith, some, all))
          past' (inr (inl stopped)) many = absurd (no-stop stopped)
          past' (inr (inr (inl key))) many = key
          past' (inr (inr (inr count))) many = absurd (omega (arith, count, many, searched.explored.short, vertices-few mesh sound))

          by_end : HasEnded (map vertex_of goals) limits list seen → IsDeep mesh filter.areas from limits.key limits.count seen
          by_end (inl all) = absurd (omega (arith, some, all))
          by_end (inr (inl stopped)) = absurd (no-stop stopped)
          by_end (inr (inr (inl key))) = inl key
          by_end (inr (inr (inr count))) =
              inr (polygons, are-met, omega (arith, count, length-map list (λ (e : ReachedVertex). polygon_of e.vertex)))

    -- the last is a goal: it is the nearest
    module _ (held : Contains goals (polygon_of entry.vertex)) (on : leads_on mesh filter.areas from (polygon_of entry.vertex) ≡ true)
        (walk : Walk) (walked : IsReachedWalk (arcs mesh filter from goals limits list seen sound there searched) (vertex_of from) list last walk) where
      abbrev at : PolyRef
      at = polygon_of entry.vertex

      same-entry : walked.entry ≡ entry
      same-entry = get-one list walked.entry entry last walked.there is

      seen-is : seen ≡ walk.cost
      seen-is =
          let stop = contains-mapped vertex_of goals at held in
          let stopped = searched.explored.stopped last entry is stop in
          let cost : walked.entry.cost ≡ entry.cost = ap (λ (e : ReachedVertex). e.cost) same-entry in
          omega (arith, stopped.1, searched.no_rest at held, walked.cost, cost)

      pub over : All (IsOver mesh) walk.steps.items
      over = taken-over mesh filter.areas searched.search from sound walk.steps.items (vertex_of from) walked.entry.vertex walked.walks

      none-less : (other : PolyRef) (links : List Link) → Contains goals other → AllowedTo mesh filter.areas from links other
          → walk.cost ≤ cost_of (priced mesh filter) links
      none-less other links held' allowed =
          let made = allowed-steps mesh filter from goals limits list seen sound there searched links other allowed in
          elim (cases_lt (cost_of (priced mesh filter) links) seen) [
            | inl less ↦
                let reached = searched.explored.within (vertex_of other) made.steps made.walks
                (inl (omega (arith, less, made.cost, searched.no_rest other held'))) in
                let same : other ≡ at = goal-last other held' reached in
                let walks = subst (λ (p : PolyRef). graph.Walks (arcs mesh filter from goals limits list seen sound there searched) (vertex_of from) made.steps (vertex_of p)) same made.walks in
                let least = searched.explored.least last entry made.steps is walks in
                let cost : walked.entry.cost ≡ entry.cost = ap (λ (e : ReachedVertex). e.cost) same-entry in
                omega (arith, least, made.cost, walked.cost, cost)
            | inr more ↦ omega (arith, more, seen-is)
          ]

      -- the last is within the limits: so is the first, at no cost
      within-limits : (entry.cost ≤ limits.key) × (last ≤ limits.count)
      within-limits =
          elim (cases_eq last 0) [
            | inl none ↦
                let same = get-one list entry _ 0 (ap (λ (m : ℕ). slice_get list m) (sym none) ∙ is) searched.explored.tree.begins in
                let free : entry.cost ≡ 0 = ap (λ (e : ReachedVertex). e.cost) same in
                (omega (arith, free), omega (arith, none))
            | inr some ↦
                let limited = searched.explored.limited last entry (omega (arith, some)) is in
                (omega (arith, limited.0), omega (arith, limited.1))
          ]

      pub nearest : (links : List Link) → links ≡ map (link_of mesh) walk.steps.items → length walk.steps.items ≤ last
          → IsNearest mesh filter from goals limits at (record { cost = walk.cost; links = links })
      nearest links are short =
          let cheapest = reached-cheapest (arcs mesh filter from goals limits list seen sound there searched) (vertex_of from) list last walk
          searched.explored.least walked in
          let cheapest' = subst (λ (e : ReachedVertex). graph.IsCheapest (arcs mesh filter from goals limits list seen sound there searched) (vertex_of from) e.vertex walk) same-entry
          cheapest in
          let few = vertices-few mesh sound in
          let most = mul-le (length (vertices_of mesh)) 2897000 8000000 2897000 few (omega arith) in
          let low = searched.explored.few last entry is in
          let cost : walked.entry.cost ≡ entry.cost = ap (λ (e : ReachedVertex). e.cost) same-entry in
          let limit = within-limits in
          record {
            is_goal = held;
            cheapest = walk-cheapest mesh filter searched.search from at sound searched.are on walk (record { cost = walk.cost; links = links })
                (setting-with mesh.setting searched.search setting searched.costs_are) cheapest' refl are;
            none_less = none-less;
            within_cost = omega (arith, limit.0, cost, walked.cost);
            within_count = omega (arith, limit.1, short, ap (λ (ls : List Link). length ls) are, length-map walk.steps.items (link_of mesh));
            low = omega (arith, low, most, cost, walked.cost);
            few = omega (arith, short, end, searched.explored.short, few, ap (λ (ls : List Link). length ls) are, length-map walk.steps.items (link_of mesh));
          }
