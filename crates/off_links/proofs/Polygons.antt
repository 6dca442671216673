-- Polygons that locate places are there, and their places in their tiles are small numbers.
use Rattle.std.proofs.Common.{◌≡◌, ℕ, zero, suc, ◌<◌, ◌≤◌, List, [], ◌∷◌, length, ap, arith}
use Rattle.std.specs.Prelude.{slice_get, Some}
use Rattle.std.proofs.lemmas.Option.{same_Some, slice_get_within}
use Rattle.std.proofs.lemmas.List.Sums.{sum_by-cons}
use Rattle.nav_base.specs.declared.point.Point.{Point}
use Rattle.mesh_types.specs.declared.links.PolyRef.{PolyRef}
use Rattle.mesh_types.specs.declared.mesh.TileMesh.{TileMesh}
use Rattle.mesh_types.specs.declared.mesh.Mesh.{Mesh}
use Rattle.mesh_types.specs.Located.{IsLocated}
use Rattle.mesh_types.specs.Soundness.{IsSound, polygon_count}
use Rattle.mesh_types.proofs.MeshPolygons.{placed}
use Rattle.corridor_search.specs.MeshGraphs.{IsThere}

-- the polygon that locates a place is one of the mesh
pub located_there : (mesh : Mesh) (p : Point) (y : ℕ) (at : PolyRef) → IsLocated mesh p y at → IsThere mesh at
located_there mesh p y at is = record { polygon = is.holding.polygon; is = is.holding.there }

-- a tile has no more polygons than all together
no_more : (tiles : List TileMesh) (t : ℕ) (tile : TileMesh) → slice_get tiles t ≡ Some tile → length tile.polys ≤ polygon_count tiles
no_more [] t tile is = absurd (omega (arith, slice_get_within [] t tile is))
no_more (d ∷ tiles) zero tile is =
    let same : length d.polys ≡ length tile.polys = ap (λ (other : TileMesh). length other.polys) (same_Some d tile is) in
    omega (arith, same, sum_by-cons (λ (other : TileMesh). length other.polys) d tiles)
no_more (d ∷ tiles) (suc t) tile is =
    omega (arith, no_more tiles t tile is, sum_by-cons (λ (other : TileMesh). length other.polys) d tiles)

pub place_small : (mesh : Mesh) (at : PolyRef) → IsSound mesh → IsThere mesh at → at.index < 4294967296
place_small mesh at sound there =
    let spot = placed mesh at there.polygon sound there.is in
    omega (arith, slice_get_within spot.tile.polys at.index there.polygon spot.listed, no_more mesh.tiles at.tile spot.tile spot.there, sound.tiles.few)
