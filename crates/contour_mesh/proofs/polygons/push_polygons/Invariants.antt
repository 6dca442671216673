use Rattle.std.proofs.Common.{◌≡◌, ◌++◌, map, take}
use Rattle.mesh_types.specs.declared.region.Piece.{Piece}
use Rattle.contour_mesh.specs.Footings.{polygon_over}
use Rattle.contour_mesh.proofs.polygons.push_polygons.Given as goal

-- the polygons of the pieces so far
abbrev pub invariant-loop-number : goal.invariant-loop-number
invariant-loop-number l =
    l.polys.items ≡ l.initial.polys.items ++ map (λ (piece : Piece). polygon_over l.part.outline.corners l.footing piece.corners) (take l.number l.part.pieces)
