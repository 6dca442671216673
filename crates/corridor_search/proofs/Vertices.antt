-- The vertices of a mesh are its polygons.
use Rattle.std.proofs.Common.{◌≡◌, ℕ, zero, suc, ◌<◌, ◌+◌, List, [], ◌∷◌, length, map, get_or, refl, sym, subst, ap, ◌∙◌, inl, inr, arith}
use Rattle.std.specs.Prelude.{Contains, slice_get, Some, None, option_and_then}
use Rattle.std.specs.List.{range_with_len}
use Rattle.std.proofs.lemmas.List.{length-append}
use Rattle.std.proofs.lemmas.List.Sums.{sum_by-cons}
use Rattle.std.proofs.lemmas.List.FromFn.{length-map-range_with_len, get_or-map-range_with_len}
use Rattle.std.proofs.lemmas.List.Elements.{Contains-append_cases, Contains-append_left, Contains-append_right}
use Rattle.std.proofs.lemmas.Option.{slice_get_within, slice_get-get_or}
use Rattle.mesh_types.specs.declared.links.PolyRef.{PolyRef}
use Rattle.mesh_types.specs.declared.polygon.Polygon.{Polygon}
use Rattle.mesh_types.specs.declared.mesh.TileMesh.{TileMesh}
use Rattle.mesh_types.specs.declared.mesh.Mesh.{Mesh}
use Rattle.mesh_types.specs.Soundness.{polygon_count}
use Rattle.graph_search.specs.declared.graph.Vertex.{Vertex}
use Rattle.graph_search.proofs.Members.{contains_none}
use Rattle.corridor_search.specs.MeshGraphs.{IsThere, vertex_of, polygon_of, vertices_from, vertices_of}
use Rattle.corridor_search.proofs.Sound.{placed}

-- the vertices of one tile
abbrev of_tile : ℕ → ℕ → List Vertex
of_tile number count = map (λ place. record { block = number; place = place }) (range_with_len 0 count)

-- how many there are
pub vertices-count : (number : ℕ) (tiles : List TileMesh) → length (vertices_from number tiles) ≡ polygon_count tiles
vertices-count number [] = refl
vertices-count number (tile ∷ tiles) =
    length-append (of_tile number (length tile.polys)) (vertices_from (number + 1) tiles)
    ∙ sum (length-map-range_with_len (λ place. vertex number place) 0 (length tile.polys)) (vertices-count (number + 1) tiles)
    ∙ sym (sum_by-cons (λ (t : TileMesh). length t.polys) tile tiles)
  where
    vertex : ℕ → ℕ → Vertex
    vertex b p = record { block = b; place = p }

    sum : {a b c d : ℕ} → a ≡ b → c ≡ d → a + c ≡ b + d
    sum h k = λ i. h i + k i

-- a polygon that is there is a vertex
of_tile-contains : (number count place : ℕ) → place < count → Contains (of_tile number count) (record { block = number; place = place })
of_tile-contains number count place below = (
  place,
  subst (λ (n : ℕ). place < n) (sym (length-map-range_with_len (λ (p : ℕ). vertex p) 0 count)) below,
  get_or-map-range_with_len (λ (p : ℕ). vertex p) 0 count place place (vertex place) below (omega arith),
)
  where
    vertex : ℕ → Vertex
    vertex p = record { block = number; place = p }

from-contains : (number : ℕ) (tiles : List TileMesh) (k : ℕ) (tile : TileMesh) (place : ℕ) → slice_get tiles k ≡ Some tile → place < length tile.polys
    → Contains (vertices_from number tiles) (record { block = number + k; place = place })
from-contains number [] k tile place is below = absurd (no_none is)
  where
    no_none : None ≡ Some tile → ⊥
    no_none h = cc
from-contains number (other ∷ tiles) zero tile place is below =
    let same : other ≡ tile = cc in
    Contains-append_left (of_tile number (length other.polys)) (vertices_from (number + 1) tiles) (record { block = number + 0; place = place })
    (subst (λ (n : ℕ). Contains (of_tile number (length other.polys)) (record { block = n; place = place })) (omega arith)
    (of_tile-contains number (length other.polys) place (subst (λ (t : TileMesh). place < length t.polys) (sym same) below)))
from-contains number (other ∷ tiles) (suc k) tile place is below =
    Contains-append_right (of_tile number (length other.polys)) (vertices_from (number + 1) tiles) (record { block = number + suc k; place = place })
    (subst (λ (n : ℕ). Contains (vertices_from (number + 1) tiles) (record { block = n; place = place })) (omega arith)
    (from-contains (number + 1) tiles k tile place is below))

pub there-contains : (mesh : Mesh) (at : PolyRef) → IsThere mesh at → Contains (vertices_of mesh) (vertex_of at)
there-contains mesh at there =
    let held = placed mesh at there.polygon there.is in
    subst (λ (n : ℕ). Contains (vertices_of mesh) (record { block = n; place = at.index })) (omega arith)
    (from-contains 0 mesh.tiles at.tile held.tile at.index held.tile_is (slice_get_within held.tile.polys at.index there.polygon held.is))

-- and the other way round
pub record IsTilePlace (number : ℕ) (tiles : List TileMesh) (v : Vertex) : Type 0 where
  pub k : ℕ
  pub block : v.block ≡ number + k
  pub tile : TileMesh
  pub is : slice_get tiles k ≡ Some tile
  pub below : v.place < length tile.polys

from-place : (number : ℕ) (tiles : List TileMesh) (v : Vertex) → Contains (vertices_from number tiles) v → IsTilePlace number tiles v
from-place number [] v held = absurd (contains_none v held)
from-place number (tile ∷ tiles) v held =
    elim (Contains-append_cases (of_tile number (length tile.polys)) (vertices_from (number + 1) tiles) v held) [
      | inl here ↦ in_first here
      | inr later ↦ in_later (from-place (number + 1) tiles v later)
    ]
  where
    vertex : ℕ → Vertex
    vertex p = record { block = number; place = p }

    in_first : Contains (of_tile number (length tile.polys)) v → IsTilePlace number (tile ∷ tiles) v
    in_first here =
        let below : here.0 < length tile.polys = subst (λ (n : ℕ). here.0 < n) (length-map-range_with_len (λ (p : ℕ). vertex p) 0 (length tile.polys)) here.1 in
        let is : vertex here.0 ≡ v = sym (get_or-map-range_with_len (λ (p : ℕ). vertex p) 0 (length tile.polys) here.0 here.0 v below (omega arith)) ∙ here.2 in
        record {
          k = 0;
          block = ap (λ (u : Vertex). u.block) (sym is) ∙ omega arith;
          tile = tile;
          is = refl;
          below = subst (λ (n : ℕ). n < length tile.polys) (ap (λ (u : Vertex). u.place) is) below;
        }

    in_later : IsTilePlace (number + 1) tiles v → IsTilePlace number (tile ∷ tiles) v
    in_later rest = record { k = suc rest.k; block = rest.block ∙ omega arith; tile = rest.tile; is = rest.is; below = rest.below }

pub contains-there : (mesh : Mesh) (v : Vertex) → Contains (vertices_of mesh) v → IsThere mesh (polygon_of v)
contains-there mesh v held =
    let spot = from-place 0 mesh.tiles v held in
    let tile_is : slice_get mesh.tiles v.block ≡ Some spot.tile = ap (slice_get mesh.tiles) (spot.block ∙ omega arith) ∙ spot.is in
    let polygon_is = slice_get-get_or spot.tile.polys v.place no_polygon spot.below in
    record {
      polygon = get_or spot.tile.polys v.place no_polygon;
      is = ap (option_and_then (λ (t : TileMesh). slice_get t.polys v.place)) tile_is ∙ polygon_is;
    }
  where
    no_polygon : Polygon
    no_polygon = record { corners = []; area = 0; low = 0; high = 0 }
