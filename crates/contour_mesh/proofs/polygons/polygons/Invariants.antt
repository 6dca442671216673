use Rattle.std.proofs.Common.{◌≡◌, map, take}
use Rattle.contour_mesh.specs.Parts.{numbered, facets_at}
use Rattle.contour_mesh.specs.Footings.{facet_over_footing}
use Rattle.contour_mesh.proofs.polygons.polygons.Given as goal

-- the polygons of the parts so far
abbrev pub invariant-loop-region : goal.invariant-loop-region
invariant-loop-region l = l.polys.items ≡ map (facet_over_footing l.footings) (numbered facets_at 0 (take l.region l.parts))
