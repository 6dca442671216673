-- Places over the border, there and back.
use Rattle.mesh_types.specs.declared.storeys.MeshPlace.{MeshPlace}
use Rattle.nav_handle.specs.Wire.{point_of, point_told, polygon_told}
use Rattle.place_handle.specs.declared.places.NavdPlace.{NavdPlace}

abbrev pub place_of : NavdPlace → MeshPlace
place_of place = record {
  polygon = record { tile = place.polygon.tile; index = place.polygon.index };
  point = point_of place.at;
  y = place.y;
}

abbrev pub place_told : MeshPlace → NavdPlace
place_told place = record { polygon = polygon_told place.polygon; at = point_told place.point; y = place.y }
