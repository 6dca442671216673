-- PackedPolygons: how a polygon lies in small numbers.
use Rattle.std.specs.Prelude.{◌≡◌}
use Rattle.std.proofs.Common.{ap}
use Rattle.mesh_types.specs.declared.polygon.Corners.TheInside as corners
use Rattle.mesh_types.specs.declared.polygon.Polygon.{Polygon}
use Rattle.mesh_types.specs.declared.polygons.PackedPolygon.TheInside.{Inside}
use Rattle.mesh_types.specs.Inline.{IsInline, corners_view, corners_inverse, corners_back}

-- the six places and the number of corners
abbrev pub places_of : Inside → corners.Inside
places_of inside = record { points = inside.points; count = inside.count }

-- the places after the last corner hold (0, 0)
abbrev pub HasInline : Inside → Type 0
HasInline inside = IsInline (places_of inside)

-- the polygon that the small numbers stand for
abbrev pub polygon_view : Inside → Polygon
polygon_view inside = record {
  corners = corners_view (places_of inside);
  area = inside.area;
  low = inside.low;
  high = inside.high;
}

-- the small numbers of a polygon
abbrev pub polygon_inverse : Polygon → Inside
polygon_inverse polygon =
    let places : corners.Inside = corners_inverse polygon.corners in
    record {
      points = places.points;
      count = places.count;
      area = polygon.area;
      low = polygon.low;
      high = polygon.high;
    }

-- the polygon gives the numbers back
pub polygon_back : (inside : Inside) → HasInline inside → polygon_inverse (polygon_view inside) ≡ inside
polygon_back inside h =
    ap (λ (places : corners.Inside). record inside { points = places.points; count = places.count }) (corners_back (places_of inside) h)
