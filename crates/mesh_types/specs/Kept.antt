-- StoredPolygons: the polygons in either of the forms in which they are kept.
use Rattle.std.specs.Prelude.{List}
use Rattle.mesh_types.specs.declared.polygon.Polygon.{Polygon}
use Rattle.mesh_types.specs.declared.polygons.StoredPolygons.{StoredPolygons}
use Rattle.mesh_types.specs.declared.polygons.StoredPolygons.TheVariants.{Small, Wide}

-- the polygons of either form
abbrev pub polygons_in : StoredPolygons → List Polygon
polygons_in (Small polygons) = polygons
polygons_in (Wide polygons) = polygons
