-- A polygon holds the points of its box alone.
use Rattle.std.proofs.Common.{◌≡◌, ℕ, ◌<◌, ℤ, pos, ◌≤ℤ◌, List, [], length, get_or, sym, subst, ap, ◌∙◌, arith}
use Rattle.std.specs.Prelude.{All, Some, slice_get}
use Rattle.std.proofs.lemmas.Int.{ints}
use Rattle.std.proofs.lemmas.List.{get_or_default}
use Rattle.std.proofs.lemmas.Option.{get_or_from_slice_get}
use Rattle.nav_base.specs.declared.point.Point.{Point}
use Rattle.nav_base.specs.Point.{IsCellCorner}
use Rattle.mesh_types.specs.declared.links.PolyRef.{PolyRef}
use Rattle.mesh_types.specs.declared.mesh.Mesh.{Mesh}
use Rattle.mesh_types.specs.declared.extent.Extent.{Extent}
use Rattle.mesh_types.specs.declared.polygon.Polygon.{Polygon}
use Rattle.mesh_types.specs.Extents.{extent_of}
use Rattle.mesh_types.specs.Located.{Holds, HoldsAt}
use Rattle.mesh_types.specs.FitTiles.{IsPolygon}
use Rattle.mesh_types.specs.WholeMesh.{poly_at}
use Rattle.mesh_types.proofs.HeldPoints.{held_from_x, held_to_x, held_from_z, held_to_z}
use Rattle.mesh_locate.specs.Nearest.{IsInBox}
use Rattle.mesh_locate.proofs.Boxes.{low, high, low-corner, high-corner, low-bound, high-bound}

-- stands for a polygon that is not there
no_polygon : Polygon
no_polygon = record { corners = []; area = 0; low = 0; high = 0 }

each_low : (c : Point → ℤ) (corners : List Point) → All (λ (p : Point). low c corners ≤ℤ c p) corners
each_low c corners k d there = subst (λ (p : Point). low c corners ≤ℤ c p) (get_or_default corners k _ _ there) (low-corner c corners k there)

each_high : (c : Point → ℤ) (corners : List Point) → All (λ (p : Point). c p ≤ℤ high c corners) corners
each_high c corners k d there = subst (λ (p : Point). c p ≤ℤ high c corners) (get_or_default corners k _ _ there) (high-corner c corners k there)

pub held_in_box : (polygon : Polygon) (p : Point) → IsPolygon polygon → Holds polygon p → IsInBox (extent_of polygon) p
held_in_box polygon p rules holds = record {
  low = record {
    across = held_from_x polygon p _ rules.convex holds (each_low (λ (q : Point). q.x) polygon.corners);
    along = held_from_z polygon p _ rules.convex holds (each_low (λ (q : Point). q.z) polygon.corners);
  };
  high = record {
    across = held_to_x polygon p _ rules.convex holds (each_high (λ (q : Point). q.x) polygon.corners);
    along = held_to_z polygon p _ rules.convex holds (each_high (λ (q : Point). q.z) polygon.corners);
  };
}

-- the corners of its box are corners of cells
pub record IsCellBox (extent : Extent) : Type 0 where
  pub low : IsCellCorner extent.low
  pub high : IsCellCorner extent.high

cell_box : (polygon : Polygon) → IsPolygon polygon → IsCellBox (extent_of polygon)
cell_box polygon rules = record {
  low = record {
    left = low-bound (λ p. p.x) polygon.corners (pos 0) some (λ k d there. (rules.corners k d there).left);
    right = up _ _ _ (low-corner (λ p. p.x) polygon.corners 0 some) (rules.corners 0 _ some).right;
    bottom = low-bound (λ p. p.z) polygon.corners (pos 0) some (λ k d there. (rules.corners k d there).bottom);
    top = up _ _ _ (low-corner (λ p. p.z) polygon.corners 0 some) (rules.corners 0 _ some).top;
  };
  high = record {
    left = up _ _ _ (rules.corners 0 _ some).left (high-corner (λ p. p.x) polygon.corners 0 some);
    right = high-bound (λ p. p.x) polygon.corners (pos 1024) some (λ k d there. (rules.corners k d there).right);
    bottom = up _ _ _ (rules.corners 0 _ some).bottom (high-corner (λ p. p.z) polygon.corners 0 some);
    top = high-bound (λ p. p.z) polygon.corners (pos 1024) some (λ k d there. (rules.corners k d there).top);
  };
}
  where
    some : 0 < length polygon.corners
    some =
        let enough = rules.convex.enough in
        omega (arith, enough)

    up : (a b c : ℤ) → a ≤ℤ b → b ≤ℤ c → a ≤ℤ c
    up a b c first next = omega (arith, ints)

module _ (polygons : List Polygon) (k : ℕ) (e : Extent) (are : (d : Polygon) → e ≡ extent_of (get_or polygons k d)) (rules : All IsPolygon polygons)
    (there : k < length polygons) where
  pub box_there : IsCellBox e
  box_there = subst IsCellBox (sym (are no_polygon)) (cell_box (get_or polygons k no_polygon) (rules k no_polygon there))

  -- a polygon whose box does not hold the point does not hold it
  pub not_in_box : (mesh : Mesh) (p : Point) (y : ℕ) (at : PolyRef) → poly_at mesh at ≡ slice_get polygons k → (IsInBox e p → ⊥) → HoldsAt mesh p y at → ⊥
  not_in_box mesh p y at listed never held =
      let is : slice_get polygons k ≡ Some held.polygon = sym listed ∙ held.there in
      let same : get_or polygons k held.polygon ≡ held.polygon = get_or_from_slice_get polygons k held.polygon held.polygon is in
      let own : IsPolygon held.polygon = subst IsPolygon same (rules k held.polygon there) in
      never (subst (λ (x : Extent). IsInBox x p) (sym (are held.polygon ∙ ap extent_of same)) (held_in_box held.polygon p own held.holds))
