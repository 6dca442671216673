use Rattle.std.proofs.Common.{[], sym, ◌∙◌, arith}
use Rattle.std.proofs.lemmas.List.{get_or-map}
use Rattle.mesh_types.specs.declared.polygon.Polygon.{Polygon}
use Rattle.mesh_types.specs.Extents.{extent_of}
use Rattle.corridor_search.specs.Estimates.{nowhere}
use Rattle.corridor_search.proofs.weights.extent_in.Goals as goal

-- stands for a polygon that is not there
no_polygon : Polygon
no_polygon = record { corners = []; area = 0; low = 0; high = 0 }

pub returns-then-place-len : goal.returns-then-place-len
returns-then-place-len c =
    c.extent.ensures no_polygon ∙ sym (get_or-map extent_of c.args.polygons.now c.args.place no_polygon nowhere (omega (arith, c.if-place-len.true)))
