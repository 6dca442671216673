use Rattle.std.proofs.Common.{◌≡◌, map}
use Rattle.mesh_types.specs.Facets.{Facet}
use Rattle.contour_mesh.proofs.DoorSteps.{facets_to}
use Rattle.contour_mesh.proofs.storeys.homes.Given as goal

-- the regions of the polygons of the parts so far
abbrev pub invariant-loop-region : goal.invariant-loop-region
invariant-loop-region l = l.homes.items ≡ map (λ (facet : Facet). facet.region) (facets_to l.parts l.region)
