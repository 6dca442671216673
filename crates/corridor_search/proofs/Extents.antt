-- What the extents of polygons say of their middles, of the estimates and of the weights.
use Rattle.std.proofs.Common.{◌≡◌, ◌<◌, ◌*◌, max, ℤ, pos, ◌≤ℤ◌, length, map, sym, subst, ap, ◌∙◌, arith}
use Rattle.std.specs.Prelude.{slice_index, slice_index_or, Option, Some}
use Rattle.std.specs.Option.{option_map_or}
use Rattle.std.proofs.lemmas.Int.{ints}
use Rattle.std.proofs.lemmas.List.{get_or-map}
use Rattle.std.proofs.lemmas.Option.{slice_get_within, get_or_from_slice_get}
use Rattle.nav_base.specs.declared.point.Point.{Point}
use Rattle.nav_base.specs.Point.{from_to}
use Rattle.nav_base.specs.Deviation.{square_of}
use Rattle.nav_base.specs.Root.{ceil_sqrt_of}
use Rattle.nav_ground.specs.Limits.{IsArea}
use Rattle.mesh_types.specs.declared.links.PolyRef.{PolyRef}
use Rattle.mesh_types.specs.declared.extent.Extent.{Extent}
use Rattle.mesh_types.specs.declared.polygon.Polygon.{Polygon}
use Rattle.mesh_types.specs.declared.mesh.TileMesh.{TileMesh}
use Rattle.mesh_types.specs.declared.mesh.Mesh.{Mesh}
use Rattle.mesh_types.specs.Extents.{extent_of}
use Rattle.mesh_types.specs.WholeMesh.{poly_at}
use Rattle.mesh_types.specs.Corridors.{centre_of}
use Rattle.mesh_types.specs.FitTiles.{IsPolygon}
use Rattle.mesh_types.specs.Soundness.{IsSound}
use Rattle.graph_search.specs.declared.graph.Vertex.{Vertex}
use Rattle.graph_search.specs.declared.graph.Step.{Step}
use Rattle.graph_search.specs.Walks.{arc_of}
use Rattle.corridor_search.specs.MeshGraphs.{IsThere, polygon_of, arcs_from}
use Rattle.corridor_search.specs.Estimates.{IsBox, nowhere, extent_at, middle_of, estimate_from}
use Rattle.corridor_search.proofs.Boxes.{low-corner, high-corner, low-bound, high-bound}
use Rattle.corridor_search.proofs.Sound.{placed, polygon-rules}
use Rattle.corridor_search.proofs.Searchable.{step-enters, step-weight}

-- the extent of a polygon that is there is its own
pub extent-is : (mesh : Mesh) (at : PolyRef) (polygon : Polygon) → poly_at mesh at ≡ Some polygon → extent_at mesh at ≡ extent_of polygon
extent-is mesh at polygon is =
    let held = placed mesh at polygon is in
    ap (λ (o : Option TileMesh). option_map_or (λ (tile : TileMesh). slice_index_or (map extent_of tile.polys) at.index nowhere) o nowhere) held.tile_is
    ∙ get_or-map extent_of held.tile.polys at.index polygon nowhere (slice_get_within held.tile.polys at.index polygon held.is)
    ∙ ap extent_of (get_or_from_slice_get held.tile.polys at.index polygon polygon held.is)

-- the box of a polygon lies in the largest field
pub box-of : (polygon : Polygon) → IsPolygon polygon → IsBox (extent_of polygon)
box-of polygon rules = record {
  low = record {
    left = low-bound (λ p. p.x) polygon.corners (pos 0) some (λ k d there. (rules.corners k d there).left);
    right = below _ _ _ _ (low-corner (λ p. p.x) polygon.corners 0 some) (high-corner (λ p. p.x) polygon.corners 0 some)
        (high-bound (λ p. p.x) polygon.corners (pos 1024) some (λ k d there. (rules.corners k d there).right));
    bottom = low-bound (λ p. p.z) polygon.corners (pos 0) some (λ k d there. (rules.corners k d there).bottom);
    top = below _ _ _ _ (low-corner (λ p. p.z) polygon.corners 0 some) (high-corner (λ p. p.z) polygon.corners 0 some)
        (high-bound (λ p. p.z) polygon.corners (pos 1024) some (λ k d there. (rules.corners k d there).top));
  };
  high = record {
    left = below _ _ _ _ (low-bound (λ p. p.x) polygon.corners (pos 0) some (λ k d there. (rules.corners k d there).left))
        (low-corner (λ p. p.x) polygon.corners 0 some) (high-corner (λ p. p.x) polygon.corners 0 some);
    right = high-bound (λ p. p.x) polygon.corners (pos 1024) some (λ k d there. (rules.corners k d there).right);
    bottom = below _ _ _ _ (low-bound (λ p. p.z) polygon.corners (pos 0) some (λ k d there. (rules.corners k d there).bottom))
        (low-corner (λ p. p.z) polygon.corners 0 some) (high-corner (λ p. p.z) polygon.corners 0 some);
    top = high-bound (λ p. p.z) polygon.corners (pos 1024) some (λ k d there. (rules.corners k d there).top);
  };
}
  where
    some : 0 < length polygon.corners
    some =
        let enough = rules.convex.enough in
        omega (arith, enough)

    below : (a b c d : ℤ) → a ≤ℤ b → b ≤ℤ c → c ≤ℤ d → a ≤ℤ d
    below a b c d first next last = omega (arith, ints)

-- what an extent is in its mesh
pub record IsExtent (extent : Extent) : Type 0 where
  pub box : IsBox extent
  pub area : IsArea extent.area

-- a polygon of a sound mesh that is there has such an extent
pub extent-rules : (mesh : Mesh) (at : PolyRef) (extent : Extent) → IsSound mesh → IsThere mesh at → extent ≡ extent_at mesh at → IsExtent extent
extent-rules mesh at extent sound there same =
    let rules = polygon-rules mesh at there.polygon sound there.is in
    subst IsExtent (sym (same ∙ extent-is mesh at there.polygon there.is)) (record { box = box-of there.polygon rules; area = rules.area })

-- the estimate by the extent
pub estimate-by : (mesh : Mesh) (goal : Point) (v : Vertex) (extent : Extent) → IsThere mesh (polygon_of v) → extent ≡ extent_at mesh (polygon_of v)
    → ceil_sqrt_of (square_of (from_to (middle_of extent) goal)) ≡ estimate_from mesh goal (polygon_of v)
estimate-by mesh goal v extent there same =
    ap (λ (e : Extent). ceil_sqrt_of (square_of (from_to (middle_of e) goal))) (same ∙ extent-is mesh (polygon_of v) there.polygon there.is)
    ∙ sym (ap (λ (o : Option Polygon). option_map_or (λ (polygon : Polygon). ceil_sqrt_of (square_of (from_to (centre_of polygon.corners) goal))) o 0) there.is)

-- the weight by the extents of both ends
pub weight-by-extents : (mesh : Mesh) (step : Step) (to : Vertex) (left entered : Extent) → IsSound mesh → IsThere mesh (polygon_of step.from)
    → step.place < length (arcs_from mesh step.from) → (arc_of (arcs_from mesh) step).to ≡ to → left ≡ extent_at mesh (polygon_of step.from)
    → entered ≡ extent_at mesh (polygon_of to)
    → max 1 (ceil_sqrt_of (square_of (from_to (middle_of left) (middle_of entered)))) * slice_index mesh.setting.costs entered.area ≡ (arc_of (arcs_from mesh) step).weight
weight-by-extents mesh step to left entered sound there below end is_left is_entered =
    let there' = step-enters mesh step to sound below end in
    ap (λ (e : Extent). max 1 (ceil_sqrt_of (square_of (from_to (middle_of e) (middle_of entered)))) * slice_index mesh.setting.costs entered.area)
    (is_left ∙ extent-is mesh (polygon_of step.from) there.polygon there.is)
    ∙ ap (λ (e : Extent). max 1 (ceil_sqrt_of (square_of (from_to (centre_of there.polygon.corners) (middle_of e)))) * slice_index mesh.setting.costs e.area)
    (is_entered ∙ extent-is mesh (polygon_of to) there'.polygon there'.is)
    ∙ sym (ap (λ (o : Option Polygon). option_map_or (λ (q : Polygon). max 1 (ceil_sqrt_of (square_of (from_to (centre_of there.polygon.corners) (centre_of q.corners)))) * slice_index mesh.setting.costs q.area) o 0) there'.is)
    ∙ step-weight mesh step to there.polygon sound below end there.is
