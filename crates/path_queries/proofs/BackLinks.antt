-- Which links a search back leaves a polygon by, and what their arcs enter and weigh: what the reverse of each does.
use Rattle.std.proofs.Common.{◌≡◌, ℕ, ◌<◌, ◌*◌, max, Bool, true, false, List, [], ◌∷◌, length, map, refl, sym, subst, ap, ◌∙◌}
use Rattle.std.specs.Prelude.{Contains, if◌then◌else◌, slice_index}
use Rattle.std.proofs.lemmas.List.Elements.{Contains-get_or}
use Rattle.nav_base.specs.Distance.{distance_of}
use Rattle.mesh_types.specs.declared.extent.Extent.{Extent}
use Rattle.mesh_types.specs.declared.links.Link.{Link}
use Rattle.mesh_types.specs.declared.mesh.Mesh.{Mesh}
use Rattle.mesh_types.specs.Passages.{reverse_of}
use Rattle.mesh_types.specs.Soundness.{IsSound}
use Rattle.graph_search.specs.declared.graph.Arc.{Arc}
use Rattle.graph_search.specs.declared.graph.Step.{Step}
use Rattle.graph_search.specs.declared.graph.Vertex.{Vertex}
use Rattle.graph_search.specs.Walks.{arc_of, ends_of}
use Rattle.graph_search.proofs.Members.{contains_none}
use Rattle.graph_search.proofs.Moves.{arc-of-move, move-there, move_of}
use Rattle.corridor_search.specs.MeshGraphs.{IsThere, end_of, links_from, no_link, polygon_of}
use Rattle.corridor_search.specs.Estimates.{extent_at, middle_of}
use Rattle.corridor_search.proofs.Extents.{extent-is}
use Rattle.corridor_search.proofs.LinkWeights.{weight-is}
use Rattle.corridor_search.proofs.Sound.{leads}
use Rattle.path_queries.specs.BackGraphs.{arc_back, arcs_back, links_back}
use Rattle.path_queries.specs.Filters.{Enters, is_open, with_costs}

module _ (mesh : Mesh) (areas : ℕ) where
  pub links-all : (v : Vertex) → is_open areas (extent_at mesh (polygon_of v)).area ≡ true
      → links_back mesh areas v ≡ links_from mesh (polygon_of v)
  links-all v on = ap (λ (b : Bool). if b then links_from mesh (polygon_of v) else []) on

  pub links-none : (v : Vertex) → is_open areas (extent_at mesh (polygon_of v)).area ≡ false → links_back mesh areas v ≡ []
  links-none v off = ap (λ (b : Bool). if b then links_from mesh (polygon_of v) else []) off

  -- a polygon that such a link leaves is of an open area
  pub held-open : (v : Vertex) (link : Link) → Contains (links_back mesh areas v) link
      → is_open areas (extent_at mesh (polygon_of v)).area ≡ true
  held-open v link held = by_test (is_open areas (extent_at mesh (polygon_of v)).area) refl
    where
      by_test : (b : Bool) → is_open areas (extent_at mesh (polygon_of v)).area ≡ b → b ≡ true
      by_test true is = refl
      by_test false is = absurd (contains_none link (subst (λ (links : List Link). Contains links link) (links-none v is) held))

  pub held-link : (v : Vertex) (link : Link) → Contains (links_back mesh areas v) link → Contains (links_from mesh (polygon_of v)) link
  held-link v link held = subst (λ (links : List Link). Contains links link) (links-all v (held-open v link held)) held

  -- the polygon that a link enters is of an open area
  pub entered-open : (link : Link) → Enters mesh areas link → is_open areas (extent_at mesh link.to).area ≡ true
  entered-open link enters =
      ap (λ (extent : Extent). is_open areas extent.area) (extent-is mesh link.to enters.polygon enters.there) ∙ enters.area_open

  -- the vertices that arcs enter are those of the polygons that the links enter
  pub ends-back : (costs : List ℕ) (links : List Link) → map end_of links ≡ ends_of (map (arc_back (with_costs costs mesh)) links)
  ends-back costs [] = refl
  ends-back costs (link ∷ links) = ap (λ (ends : List Vertex). end_of link ∷ ends) (ends-back costs links)

module _ (mesh : Mesh) (areas : ℕ) (costs : List ℕ) (step : Step) (to : Vertex) (sound : IsSound mesh)
    (below : step.place < length (arcs_back mesh areas costs step.from))
    (end : (arc_of (arcs_back mesh areas costs) step).to ≡ to) where
  -- the link that a step takes
  abbrev taken : Link
  taken = move_of (links_back mesh areas) no_link step

  is-arc : arc_of (arcs_back mesh areas costs) step ≡ arc_back (with_costs costs mesh) taken
  is-arc = arc-of-move (links_back mesh areas) (arc_back (with_costs costs mesh)) no_link step below

  held : Contains (links_from mesh (polygon_of step.from)) taken
  held =
      held-link mesh areas step.from taken
      (Contains-get_or (links_back mesh areas step.from) step.place no_link
      (move-there (links_back mesh areas) (arc_back (with_costs costs mesh)) step below))

  to-is : taken.to ≡ polygon_of to
  to-is = ap polygon_of (sym (ap (λ (arc : Arc). arc.to) is-arc) ∙ end)

  -- the polygon that is reached is there
  pub reached-back : IsThere mesh (polygon_of to)
  reached-back =
      let through = (leads mesh (polygon_of step.from) taken sound held).through in
      subst (IsThere mesh) to-is (record { polygon = through.enters; is = through.is_entered })

  -- the weight by the extents of both ends
  pub weight-back : (left entered : Extent) → left ≡ extent_at mesh (polygon_of to) → entered ≡ extent_at mesh (polygon_of step.from)
      → max 1 (distance_of (middle_of left) (middle_of entered)) * slice_index costs entered.area ≡
      (arc_of (arcs_back mesh areas costs) step).weight
  weight-back left entered is_left is_entered =
      let leading = leads mesh (polygon_of step.from) taken sound held in
      let through = leading.through in
      let first = is_left ∙ ap (extent_at mesh) (sym to-is) ∙ extent-is mesh taken.to through.enters through.is_entered in
      let second = is_entered ∙ ap (extent_at mesh) (sym leading.leaves) ∙ extent-is mesh taken.from through.leaves through.is_left in
      (λ i. max 1 (distance_of (middle_of (first i)) (middle_of (second i))) * slice_index costs (second i).area)
      ∙ sym (weight-is (with_costs costs mesh) (reverse_of 0 taken) through.enters through.leaves through.is_entered through.is_left)
      ∙ ap (λ (arc : Arc). arc.weight) (sym is-arc)
