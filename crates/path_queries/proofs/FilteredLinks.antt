-- Which links leave a vertex: all where a walk may lead on from its polygon, else none.
use Rattle.std.proofs.Common.{◌≡◌, ℕ, ◌<◌, Bool, true, false, List, [], length, map, refl, sym, subst, ap, ◌∙◌, ◌⊎◌, inl, inr, arith}
use Rattle.std.specs.Prelude.{Contains, Some, if◌then◌else◌, ◌==◌, ◌&&◌}
use Rattle.std.proofs.lemmas.Bool.{and_from, and_parts, eq-eqb, eqb-true, or_cases, or_left, or_right}
use Rattle.std.proofs.lemmas.List.{length-map}
use Rattle.mesh_types.specs.declared.extent.Extent.{Extent}
use Rattle.mesh_types.specs.declared.links.Link.{Link}
use Rattle.mesh_types.specs.declared.links.PolyRef.{PolyRef}
use Rattle.mesh_types.specs.declared.mesh.Mesh.{Mesh}
use Rattle.mesh_types.specs.declared.polygon.Polygon.{Polygon}
use Rattle.mesh_types.specs.WholeMesh.{poly_at}
use Rattle.graph_search.specs.declared.graph.Vertex.{Vertex}
use Rattle.graph_search.proofs.Members.{contains_none}
use Rattle.corridor_search.specs.MeshGraphs.{arc_over, arcs_from, links_from, polygon_of}
use Rattle.corridor_search.specs.Estimates.{extent_at}
use Rattle.corridor_search.proofs.Extents.{extent-is}
use Rattle.path_queries.specs.Filters.{Enters, is_open, with_costs}
use Rattle.path_queries.specs.FilteredGraphs.{filtered_arcs, filtered_links, leads_on}

module _ (mesh : Mesh) (areas : ℕ) (start : PolyRef) where
  pub links-all : (v : Vertex) → leads_on mesh areas start (polygon_of v) ≡ true
      → filtered_links mesh areas start v ≡ links_from mesh (polygon_of v)
  links-all v on = ap (λ (b : Bool). if b then links_from mesh (polygon_of v) else []) on

  pub links-none : (v : Vertex) → leads_on mesh areas start (polygon_of v) ≡ false → filtered_links mesh areas start v ≡ []
  links-none v off = ap (λ (b : Bool). if b then links_from mesh (polygon_of v) else []) off

  -- a polygon that a link leaves leads on
  pub held-on : (v : Vertex) (link : Link) → Contains (filtered_links mesh areas start v) link
      → leads_on mesh areas start (polygon_of v) ≡ true
  held-on v link held = by_test (leads_on mesh areas start (polygon_of v)) refl
    where
      by_test : (b : Bool) → leads_on mesh areas start (polygon_of v) ≡ b → b ≡ true
      by_test true is = refl
      by_test false is = absurd (contains_none link (subst (λ (links : List Link). Contains links link) (links-none v is) held))

  pub held-link : (v : Vertex) (link : Link) → Contains (filtered_links mesh areas start v) link
      → Contains (links_from mesh (polygon_of v)) link
  held-link v link held = subst (λ (links : List Link). Contains links link) (links-all v (held-on v link held)) held

  -- so does one with a place of such a link
  pub below-on : (v : Vertex) (place : ℕ) → place < length (filtered_links mesh areas start v)
      → leads_on mesh areas start (polygon_of v) ≡ true
  below-on v place below = by_test (leads_on mesh areas start (polygon_of v)) refl
    where
      by_test : (b : Bool) → leads_on mesh areas start (polygon_of v) ≡ b → b ≡ true
      by_test true is = refl
      by_test false is = absurd (omega (arith, below, ap (λ (links : List Link). length links) (links-none v is)))

  -- its arcs are those of the whole mesh
  pub arcs-all : (costs : List ℕ) (v : Vertex) (place : ℕ) → place < length (filtered_arcs mesh areas costs start v)
      → filtered_arcs mesh areas costs start v ≡ arcs_from (with_costs costs mesh) v
  arcs-all costs v place below =
      let count = length-map (filtered_links mesh areas start v) (arc_over (with_costs costs mesh)) in
      ap (map (arc_over (with_costs costs mesh))) (links-all v (below-on v place (omega (arith, below, count))))

  -- the polygon in which walks begin leads on, and so does one of an open area; no other does
  pub start-on : leads_on mesh areas start start ≡ true
  start-on =
      or_left (start.tile == start.tile && start.index == start.index) (is_open areas (extent_at mesh start).area)
      (and_from (start.tile == start.tile) (start.index == start.index) (eq-eqb start.tile start.tile refl)
      (eq-eqb start.index start.index refl))

  pub open-on : (link : Link) → Enters mesh areas link → leads_on mesh areas start link.to ≡ true
  open-on link enters =
      or_right (link.to.tile == start.tile && link.to.index == start.index) (is_open areas (extent_at mesh link.to).area)
      (ap (λ (extent : Extent). is_open areas extent.area) (extent-is mesh link.to enters.polygon enters.there) ∙ enters.area_open)

  pub on-cases : (at : PolyRef) (polygon : Polygon) → poly_at mesh at ≡ Some polygon → leads_on mesh areas start at ≡ true
      → (at ≡ start) ⊎ (is_open areas polygon.area ≡ true)
  on-cases at polygon is on =
      elim (or_cases (at.tile == start.tile && at.index == start.index) (is_open areas (extent_at mesh at).area) on) [
        | inl same ↦
            let parts = and_parts (at.tile == start.tile) (at.index == start.index) same in
            let tile = eqb-true at.tile start.tile parts.0 in
            let index = eqb-true at.index start.index parts.1 in
            inl (λ i. record { tile = tile i; index = index i })
        | inr passes ↦ inr (sym (ap (λ (extent : Extent). is_open areas extent.area) (extent-is mesh at polygon is)) ∙ passes)
      ]
