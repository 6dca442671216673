use Rattle.std.proofs.Common.{◌≡◌, take}
use Rattle.std.specs.Prelude.{filter}
use Rattle.mesh_types.specs.Rings.{beginnings}
use Rattle.mesh_types.specs.Simplified.{begins_among}
use Rattle.mesh_types.specs.Words.{codes_of}
use Rattle.contour_simplify.proofs.outline.outline.Given as goal

-- the kept edges of those so far
abbrev pub invariant-loop-edge : goal.invariant-loop-edge
invariant-loop-edge l = record {
  corners : l.corners.items ≡ beginnings (filter (begins_among l.kept) (take l.edge-index l.edges));
  codes : l.codes.items ≡ codes_of (filter (begins_among l.kept) (take l.edge-index l.edges));
}
