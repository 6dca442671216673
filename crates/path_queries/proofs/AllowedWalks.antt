-- Allowed walks are walks in the graph, and a cheapest walk in the graph is an allowed one: it does not come back to the polygon in
-- which it
-- begins, whose area may be closed.
use Rattle.std.proofs.Common.{◌≡◌, ℕ, suc, ◌<◌, ◌≤◌, ◌+◌, ◌*◌, max, true, List, [], ◌∷◌, length, map, refl, sym, subst, ap, ◌∙◌, ◌⊎◌, inl, inr, arith}
use Rattle.std.specs.Prelude.{All, Contains, slice_index, slice_index_or}
use Rattle.std.proofs.lemmas.Nat.{mul-le}
use Rattle.std.proofs.lemmas.Option.{same_Some}
use Rattle.std.proofs.lemmas.List.Elements.{All-cons, All-nil}
use Rattle.std.proofs.lemmas.List.Sums.{sum_by-cons}
use Rattle.nav_base.specs.Distance.{distance_of}
use Rattle.nav_ground.specs.Limits.{IsSetting}
use Rattle.mesh_types.specs.declared.answers.Corridor.{Corridor}
use Rattle.mesh_types.specs.declared.links.Link.{Link}
use Rattle.mesh_types.specs.declared.links.PolyRef.{PolyRef}
use Rattle.mesh_types.specs.declared.mesh.Mesh.{Mesh}
use Rattle.mesh_types.specs.declared.polygon.Polygon.{Polygon}
use Rattle.mesh_types.specs.Corridors.{IsLinkOf, WalksTo, centre_of, cost_of, weight_of}
use Rattle.mesh_types.specs.Soundness.{IsSound}
use Rattle.graph_search.specs.declared.graph.Vertex.{Vertex}
use Rattle.graph_search.specs.declared.graph.Step.{Step}
use Rattle.graph_search.specs.declared.graph.Walk.{Walk}
use Rattle.graph_search.specs.Walks.{IsApart, IsCheapest, Walks}
use Rattle.graph_search.proofs.Moves.{MovesTo, cheapest-moves, move-there, move_of, none-move, steps-made, weight_by}
use Rattle.corridor_search.specs.MeshGraphs.{IsOver, arc_over, link_of, links_from, no_link, polygon_of, vertex_of}
use Rattle.corridor_search.proofs.LinkWeights.{area_cost, weight-is}
use Rattle.corridor_search.proofs.Sound.{leads, leaves-listed, polygon-rules}
use Rattle.path_queries.specs.declared.filters.Filter.{Filter}
use Rattle.path_queries.specs.Filters.{AllowedTo, Enters, IsCheapestAllowed, costs_in, is_open, with_costs}
use Rattle.path_queries.specs.FilteredGraphs.{AreSearchCosts, filtered_arcs, filtered_links, leads_on}
use Rattle.path_queries.proofs.FilteredLinks.{below-on, held-link, held-on, links-all, on-cases, open-on, start-on}

-- an allowed walk ends where it began or in a polygon that leads on
pub end-on : (mesh : Mesh) (areas : ℕ) (start from : PolyRef) (links : List Link) (to : PolyRef) → WalksTo mesh from links to
    → All (Enters mesh areas) links
    → leads_on mesh areas start from ≡ true → leads_on mesh areas start to ≡ true
end-on mesh areas start from [] to walk enters on = subst (λ (at : PolyRef). leads_on mesh areas start at ≡ true) walk on
end-on mesh areas start from (link ∷ links) to walk enters on =
    end-on mesh areas start link.to links to walk.2 (λ k d there. enters (suc k) d (omega (arith, there)))
    (open-on mesh areas start link (enters 0 link (omega arith)))

module _ (mesh : Mesh) (areas : ℕ) (costs : List ℕ) (start : PolyRef) (sound : IsSound mesh) where
  -- walks over the links by which a walk may leave polygons, and what they weigh
  abbrev Moves : PolyRef → List Link → PolyRef → Type 0
  Moves from links to = MovesTo (filtered_links mesh areas start) (arc_over (with_costs costs mesh)) (vertex_of from) links (vertex_of to)

  abbrev weigh : List Link → ℕ
  weigh links = weight_by (arc_over (with_costs costs mesh)) links

  pub moves-walk : (links : List Link) (from to : PolyRef) → Moves from links to → WalksTo mesh from links to
  moves-walk [] from to walk = λ i. polygon_of (walk i)
  moves-walk (link ∷ links) from to walk =
      let leading = leads mesh from link sound (held-link mesh areas start (vertex_of from) link walk.0) in
      (leading.listed, leading.leaves, moves-walk links link.to to walk.1)

  -- an allowed walk from a polygon that leads on is one of them
  pub allowed-moves : (links : List Link) (from to : PolyRef) → WalksTo mesh from links to → All (Enters mesh areas) links
      → leads_on mesh areas start from ≡ true → Moves from links to
  allowed-moves [] from to walk enters on = ap vertex_of walk
  allowed-moves (link ∷ links) from to walk enters on =
      let held = subst (λ (at : PolyRef). Contains (links_from mesh at) link) walk.1 (leaves-listed mesh link walk.0) in (
        subst (λ (ls : List Link). Contains ls link) (sym (links-all mesh areas start (vertex_of from) on)) held,
        allowed-moves links link.to to walk.2 (λ k d there. enters (suc k) d (omega (arith, there)))
            (open-on mesh areas start link (enters 0 link (omega arith))),
      )

  -- where it ends in a polygon that leads on, it begins in one
  begins-on : (links : List Link) (from to : PolyRef) → Moves from links to → leads_on mesh areas start to ≡ true
      → leads_on mesh areas start from ≡ true
  begins-on [] from to walk on =
      let same : to ≡ from = λ i. polygon_of (sym walk i) in
      subst (λ (at : PolyRef). leads_on mesh areas start at ≡ true) same on
  begins-on (link ∷ links) from to walk on = held-on mesh areas start (vertex_of from) link walk.0

  -- a link weighs at least 1
  some-weight : (link : Link) (from : PolyRef) → IsSetting (with_costs costs mesh).setting → Contains (links_from mesh from) link
      → 1 ≤ weight_of (with_costs costs mesh) link
  some-weight link from setting held =
      let through = (leads mesh from link sound held).through in
      let cost = (area_cost (with_costs costs mesh).setting through.enters.area setting
      (polygon-rules mesh link.to through.enters sound through.is_entered).area).0 in
      let length = max 1 (distance_of (centre_of through.leaves.corners) (centre_of through.enters.corners)) in
      let whole = mul-le 1 1 length (slice_index costs through.enters.area) (omega arith) cost in
      let same = weight-is (with_costs costs mesh) link through.leaves through.enters through.is_left through.is_entered in
      omega (arith, whole, same)

  -- a walk from the start that weighs less
  pub record IsLighter (links : List Link) (to : PolyRef) : Type 0 where
    pub other : List Link
    pub moves : Moves start other to
    pub less : weigh other < weigh links

  -- a walk to a polygon that leads on enters polygons of open areas alone, or comes by the start, and what is left of it from there
  -- weighs less
  pub open-or-lighter : (links : List Link) (from to : PolyRef) → IsSetting (with_costs costs mesh).setting → Moves from links to
      → leads_on mesh areas start to ≡ true
      → All (Enters mesh areas) links ⊎ IsLighter links to
  open-or-lighter [] from to setting walk on = inl (All-nil (Enters mesh areas))
  open-or-lighter (link ∷ links) from to setting walk on = by_rest (open-or-lighter links link.to to setting walk.1 on)
    where
      some : 1 ≤ weight_of (with_costs costs mesh) link
      some = some-weight link from setting (held-link mesh areas start (vertex_of from) link walk.0)

      sum : weigh (link ∷ links) ≡ weight_of (with_costs costs mesh) link + weigh links
      sum = sum_by-cons (λ (l : Link). (arc_over (with_costs costs mesh) l).weight) link links

      by_rest : All (Enters mesh areas) links ⊎ IsLighter links to → All (Enters mesh areas) (link ∷ links) ⊎ IsLighter (link ∷ links) to
      by_rest (inr lighter) = inr (record { other = lighter.other; moves = lighter.moves; less = omega (arith, lighter.less, sum) })
      by_rest (inl rest) =
          let through = (leads mesh from link sound (held-link mesh areas start (vertex_of from) link walk.0)).through in
          elim (on-cases mesh areas start link.to through.enters through.is_entered (begins-on links link.to to walk.1 on)) [
            | inl back ↦ inr (record {
              other = links;
              moves = subst (λ (at : PolyRef). Moves at links to) back walk.1;
              less = omega (arith, some, sum);
            })
            | inr entered ↦
                inl (All-cons (Enters mesh areas) link links
                (record { polygon = through.enters; there = through.is_entered; area_open = entered }) rest)
          ]

  -- the links that the steps of a walk take
  taken-same : (steps : List Step) (v w : Vertex) → Walks (filtered_arcs mesh areas costs start) v steps w
      → map (move_of (filtered_links mesh areas start) no_link) steps ≡ map (link_of mesh) steps
  taken-same [] v w walk = refl
  taken-same (step ∷ steps) v w walk =
      let below = move-there (filtered_links mesh areas start) (arc_over (with_costs costs mesh)) step walk.1 in
      let first : move_of (filtered_links mesh areas start) no_link step ≡ link_of mesh step =
      ap (λ (ls : List Link). slice_index_or ls step.place no_link)
      (links-all mesh areas start step.from (below-on mesh areas start step.from step.place below)) in
      let rest = taken-same steps _ w walk.2 in
      λ i. first i ∷ rest i

  pub taken-over : (steps : List Step) (v w : Vertex) → Walks (filtered_arcs mesh areas costs start) v steps w → All (IsOver mesh) steps
  taken-over steps v w walk k d there =
      let step = slice_index_or steps k d in
      let below = steps-made (filtered_links mesh areas start) (arc_over (with_costs costs mesh)) steps v w walk k d there in
      let same = ap (λ (ls : List Link). length ls)
      (links-all mesh areas start step.from (below-on mesh areas start step.from step.place below)) in
      record { there = omega (arith, below, same) }

-- what an allowed walk costs does not depend on what closed areas cost
pub weight-same : (mesh : Mesh) (areas : ℕ) (costs search : List ℕ) (link : Link) → IsSound mesh → AreSearchCosts areas costs search
    → IsLinkOf mesh link → Enters mesh areas link
    → weight_of (with_costs search mesh) link ≡ weight_of (with_costs costs mesh) link
weight-same mesh areas costs search link sound are listed enters =
    let through = (leads mesh link.from link sound (leaves-listed mesh link listed)).through in
    let polygon : enters.polygon ≡ through.enters = same_Some enters.polygon through.enters (sym enters.there ∙ through.is_entered) in
    let entered : is_open areas through.enters.area ≡ true = subst (λ (p : Polygon). is_open areas p.area ≡ true) polygon enters.area_open
    in
    let most = (polygon-rules mesh link.to through.enters sound through.is_entered).area.most in
    weight-is (with_costs search mesh) link through.leaves through.enters through.is_left through.is_entered
    ∙ ap (λ (n : ℕ). max 1 (distance_of (centre_of through.leaves.corners) (centre_of through.enters.corners)) * n)
    (are.of_open through.enters.area (omega (arith, most)) entered)
    ∙ sym (weight-is (with_costs costs mesh) link through.leaves through.enters through.is_left through.is_entered)

pub cost-same : (mesh : Mesh) (areas : ℕ) (costs search : List ℕ) (from : PolyRef) (links : List Link) (to : PolyRef) → IsSound mesh
    → AreSearchCosts areas costs search
    → WalksTo mesh from links to → All (Enters mesh areas) links
    → cost_of (with_costs search mesh) links ≡ cost_of (with_costs costs mesh) links
cost-same mesh areas costs search from [] to sound are walk enters = refl
cost-same mesh areas costs search from (link ∷ links) to sound are walk enters =
    let first = weight-same mesh areas costs search link sound are walk.0 (enters 0 link (omega arith)) in
    let rest = cost-same mesh areas costs search link.to links to sound are walk.2 (λ k d there. enters (suc k) d (omega (arith, there))) in
    omega (
      arith,
      first,
      rest,
      sum_by-cons (weight_of (with_costs search mesh)) link links,
      sum_by-cons
          (weight_of (with_costs costs mesh)) link links,
    )

module _ (mesh : Mesh) (filter : Filter) (search : List ℕ) (from to : PolyRef) (sound : IsSound mesh)
    (are : AreSearchCosts filter.areas (costs_in mesh filter) search)
    (on : leads_on mesh filter.areas from to ≡ true) where
  -- a cheapest walk in the graph takes the links of a cheapest allowed walk
  pub walk-cheapest : (walk : Walk) (corridor : Corridor) → IsSetting (with_costs search mesh).setting
      → IsCheapest (filtered_arcs mesh filter.areas search from) (vertex_of from) (vertex_of to) walk → corridor.cost ≡ walk.cost
      → corridor.links ≡ map (link_of mesh) walk.steps.items → IsCheapestAllowed mesh filter from to corridor
  walk-cheapest walk corridor setting found cost links =
      let made = cheapest-moves (filtered_links mesh filter.areas from) (arc_over (with_costs search mesh)) no_link (vertex_of from)
      (vertex_of to) walk found in
      let taken : map (move_of (filtered_links mesh filter.areas from) no_link) walk.steps.items ≡ corridor.links =
      taken-same mesh filter.areas search from sound walk.steps.items (vertex_of from) (vertex_of to) found.walks ∙ sym links in
      let moves = subst (λ (ls : List Link). Moves mesh filter.areas search from sound from ls to) taken made.walks in
      let adds_up : walk.cost ≡ cost_of (with_costs search mesh) corridor.links = made.adds_up ∙ ap (cost_of (with_costs search mesh))
      taken in
      let walks = moves-walk mesh filter.areas search from sound corridor.links from to moves in
      let enters : All (Enters mesh filter.areas) corridor.links =
      elim (open-or-lighter mesh filter.areas search from sound corridor.links from to setting moves on) [
        | inl all ↦ all
        | inr lighter ↦ absurd (omega (arith, lighter.less, made.least lighter.other lighter.moves, adds_up))
      ] in
      record {
        allowed = record { walks = walks; enters = enters };
        cost = cost ∙ adds_up ∙ cost-same mesh filter.areas (costs_in mesh filter) search from corridor.links to sound are walks enters;
        least = λ ls other.
            let same = cost-same mesh filter.areas (costs_in mesh filter) search from ls to sound are other.walks other.enters in
            let least = made.least ls (allowed-moves mesh filter.areas search from sound ls from to other.walks other.enters
            (start-on mesh filter.areas from)) in
            omega (arith, cost, same, least);
      }

  -- where no walk in the graph joins two polygons, no allowed walk does
  pub none-allowed : IsApart (filtered_arcs mesh filter.areas search from) (vertex_of from) (vertex_of to) → (links : List Link)
      → AllowedTo mesh filter.areas from links to → ⊥
  none-allowed apart links allowed =
      none-move (filtered_links mesh filter.areas from) (arc_over (with_costs search mesh)) no_link (vertex_of from) (vertex_of to) apart
      links
      (allowed-moves mesh filter.areas search from sound links from to allowed.walks allowed.enters (start-on mesh filter.areas from))
