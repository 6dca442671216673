-- Each corner of a polygon is a place: the polygon holds it, and the storey has a cell under it.
use Rattle.std.proofs.Common.{ℕ, ◌<◌, ℤ, pos, ◌≤ℤ◌, List, length, get_or, ap, ◌∙◌, sym, subst, arith}
use Rattle.std.specs.Prelude.{All, slice_get, option_and_then}
use Rattle.std.proofs.lemmas.Int.{ints}
use Rattle.std.proofs.lemmas.List.{get_or_default}
use Rattle.std.proofs.lemmas.Option.{get_or_from_slice_get, option_and_then_some, slice_get_within}
use Rattle.nav_base.specs.declared.point.Point.{Point}
use Rattle.nav_base.specs.Convex.{IsStrictlyConvex, corner_at, place_after}
use Rattle.nav_base.specs.Point.{orient_of}
use Rattle.nav_base.proofs.ConvexLaws.{IsStrictlyConvex-sides}
use Rattle.nav_base.proofs.Signs.{product-not_negative}
use Rattle.mesh_types.specs.declared.mesh.Mesh.{Mesh}
use Rattle.mesh_types.specs.declared.mesh.TileMesh.{TileMesh}
use Rattle.mesh_types.specs.declared.polygon.Polygon.{Polygon}
use Rattle.mesh_types.specs.BorderLinks.{scaled}
use Rattle.mesh_types.specs.FitTiles.{IsPolygon}
use Rattle.mesh_types.specs.Located.{Holds}
use Rattle.mesh_types.specs.Places.{storey_in}
use Rattle.mesh_types.specs.Standing.{CornersStand}
use Rattle.mesh_types.proofs.HeldPoints.{orient_of-scaled}
use Rattle.storey_laws.specs.HeldPlaces.{CornersArePlaces}

-- a convex polygon holds its corners
corner_held : (polygon : Polygon) → IsStrictlyConvex polygon.corners → (j : ℕ) → j < length polygon.corners
    → Holds polygon (scaled (corner_at polygon.corners j).x (corner_at polygon.corners j).z)
corner_held polygon convex j there edge inside =
    let corners : List Point = polygon.corners in
    let a : Point = corner_at corners edge in
    let b : Point = corner_at corners (place_after (length corners) edge) in
    let c : Point = corner_at corners j in
    subst (λ (n : ℤ). pos 0 ≤ℤ n) (sym (orient_of-scaled a b c))
    (product-not_negative (pos 256) (orient_of a b c) (omega (arith, ints)) (IsStrictlyConvex-sides corners convex edge inside j there))

-- the corners of a tile's polygons stand, and its polygons are convex
pub record HasCornersOver (tile : TileMesh) : Type 0 where
  pub stand : CornersStand tile
  pub convex : All IsPolygon tile.polys

pub corners_are_places : (mesh : Mesh) → All HasCornersOver mesh.tiles → CornersArePlaces mesh
corners_are_places mesh each at polygon there j d inside =
    option_and_then_some (λ (tile : TileMesh). slice_get tile.polys at.index) (slice_get mesh.tiles at.tile) polygon there
    (λ tile found listed.
    let less = slice_get_within mesh.tiles at.tile tile found in
    let is : HasCornersOver tile = subst HasCornersOver (get_or_from_slice_get mesh.tiles at.tile tile tile found) (each at.tile tile less) in
    let sound : IsPolygon polygon =
    subst IsPolygon (get_or_from_slice_get tile.polys at.index polygon polygon listed)
    (is.convex at.index polygon (slice_get_within tile.polys at.index polygon listed)) in
    let corner : Point = get_or polygon.corners j d in
    let held = subst (λ (p : Point). Holds polygon (scaled p.x p.z))
    (get_or_default polygon.corners j (record { x = pos 0; z = pos 0 }) d inside) (corner_held polygon sound.convex j inside) in
    let stands = is.stand at.index polygon listed j d inside in (
      stands.y,
      record {
        held = record { polygon = polygon; there = there; holds = held };
        storey = stands.storey;
        home = ap (option_and_then (λ (one : TileMesh). storey_in one.storeys at.index)) found ∙ stands.home;
        floor = stands.floor;
      },
    ))
