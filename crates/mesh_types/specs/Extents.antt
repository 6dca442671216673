-- Extents: the box of a polygon's corners, and its area.
use Rattle.std.specs.Prelude.{ℤ, List, map}
use Rattle.std.specs.List.{fold}
use Rattle.std.specs.Int.{int_min, int_max}
use Rattle.nav_base.specs.declared.point.Point.{Point}
use Rattle.nav_base.specs.Convex.{corner_at}
use Rattle.mesh_types.specs.declared.extent.Extent.{Extent}
use Rattle.mesh_types.specs.declared.polygon.Polygon.{Polygon}

-- the least and the greatest of numbers, from the first of them on
abbrev pub least_of : ℤ → List ℤ → ℤ
least_of first numbers = fold int_min first numbers

abbrev pub greatest_of : ℤ → List ℤ → ℤ
greatest_of first numbers = fold int_max first numbers

-- the least and the greatest of the corners' coordinates along each axis, and the area
abbrev pub extent_of : Polygon → Extent
extent_of polygon =
    let first : Point = corner_at polygon.corners 0 in
    let xs : List ℤ = map (λ (p : Point). p.x) polygon.corners in
    let zs : List ℤ = map (λ (p : Point). p.z) polygon.corners in
    record {
      low = record { x = least_of first.x xs; z = least_of first.z zs };
      high = record { x = greatest_of first.x xs; z = greatest_of first.z zs };
      area = polygon.area;
    }
