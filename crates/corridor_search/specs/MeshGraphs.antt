-- The mesh as a graph: its polygons are the vertices, by tile and place, and its links are the arcs.
use Rattle.std.specs.Prelude.{◌≡◌, ℕ, ◌+◌, ◌<◌, pos, List, [], ◌∷◌, ◌++◌, length, map, slice_get, slice_index_or, Some}
use Rattle.std.specs.List.{range_with_len}
use Rattle.std.specs.Option.{option_map_or}
use Rattle.nav_base.specs.declared.point.Point.{Point}
use Rattle.nav_base.specs.Point.{IsInField}
use Rattle.mesh_types.specs.declared.links.PolyRef.{PolyRef}
use Rattle.mesh_types.specs.declared.links.Link.{Link}
use Rattle.mesh_types.specs.declared.polygon.Polygon.{Polygon}
use Rattle.mesh_types.specs.declared.mesh.TileMesh.{TileMesh}
use Rattle.mesh_types.specs.declared.mesh.Mesh.{Mesh}
use Rattle.mesh_types.specs.LinkIndex.{leaving_of, entered_by}
use Rattle.mesh_types.specs.WholeMesh.{poly_at}
use Rattle.mesh_types.specs.Corridors.{weight_of, WalksTo}
use Rattle.mesh_types.specs.Soundness.{IsSound}
use Rattle.nav_ground.specs.Limits.{IsSetting}
use Rattle.graph_search.specs.declared.graph.Vertex.{Vertex}
use Rattle.graph_search.specs.declared.graph.Arc.{Arc}
use Rattle.graph_search.specs.declared.graph.Step.{Step}

-- the mesh has the polygon that a reference names
pub record IsThere (mesh : Mesh) (at : PolyRef) : Type 0 where
  pub polygon : Polygon
  pub is : poly_at mesh at ≡ Some polygon

-- no walk joins one polygon to another
abbrev pub IsApart : Mesh → PolyRef → PolyRef → Type 0
IsApart mesh from to = (links : List Link) → WalksTo mesh from links to → ⊥

-- the vertex of a polygon, and the other way round
abbrev pub vertex_of : PolyRef → Vertex
vertex_of at = record { block = at.tile; place = at.index }

abbrev pub polygon_of : Vertex → PolyRef
polygon_of v = record { tile = v.block; index = v.place }

-- the vertices of tiles that are numbered from a number on
abbrev pub vertices_from : ℕ → List TileMesh → List Vertex
vertices_from number [] = []
vertices_from number (tile ∷ tiles) =
    map (λ place. record { block = number; place = place }) (range_with_len 0 (length tile.polys)) ++ vertices_from (number + 1) tiles

-- the vertices of a mesh
abbrev pub vertices_of : Mesh → List Vertex
vertices_of mesh = vertices_from 0 mesh.tiles

-- the links that leave a polygon inside its tile, and those that leave it over the tile's border
abbrev pub inner_links : Mesh → PolyRef → List Link
inner_links mesh at = option_map_or (λ (tile : TileMesh). leaving_of at.index tile.links) (slice_get mesh.tiles at.tile) []

abbrev pub outer_links : Mesh → PolyRef → List Link
outer_links mesh at = option_map_or (leaving_of at.index) (slice_get mesh.cross at.tile) []

-- the links that leave a polygon
abbrev pub links_from : Mesh → PolyRef → List Link
links_from mesh at = inner_links mesh at ++ outer_links mesh at

-- the arc of a link
abbrev pub arc_over : Mesh → Link → Arc
arc_over mesh link = record { to = vertex_of link.to; weight = weight_of mesh link }

-- the arcs that leave a vertex
abbrev pub arcs_from : Mesh → Vertex → List Arc
arcs_from mesh v = map (arc_over mesh) (links_from mesh (polygon_of v))

-- stands for the link of a step that takes none
abbrev pub no_link : Link
no_link =
    let nowhere : Point = record { x = pos 0; z = pos 0 } in
    record {
      from = record { tile = 0; index = 0 };
      edge = 0;
      to = record { tile = 0; index = 0 };
      portal = record { left = nowhere; right = nowhere };
    }

-- the link that a step takes
abbrev pub link_of : Mesh → Step → Link
link_of mesh step = slice_index_or (links_from mesh (polygon_of step.from)) step.place no_link

-- the vertex of the polygon that a link enters
abbrev pub end_of : Link → Vertex
end_of link = vertex_of (entered_by link)

-- a step takes a link that leaves its polygon
pub record IsOver (mesh : Mesh) (step : Step) : Type 0 where
  pub there : step.place < length (links_from mesh (polygon_of step.from))

-- a mesh that is searched for walks to a goal: it is sound, its setting keeps the rules, and the goal lies in the field
pub record IsSearched (mesh : Mesh) (goal : Point) : Type 0 where
  pub sound : IsSound mesh
  pub setting : IsSetting mesh.setting
  pub in_field : IsInField goal
