use Rattle.std.proofs.Common.{◌≡◌, ◌+◌, ◌≤◌, length, map, All}
use Rattle.mesh_types.specs.Ears.{outline_area}
use Rattle.mesh_types.specs.Merging.{IsPieceOf, areas_of, merge_all, merged}
use Rattle.poly_merge.specs.Seen.{AreChoices, seen}
use Rattle.poly_merge.proofs.union.merge.Given as goal

-- what is left to merge leads to the pieces of the outline
abbrev pub invariant-loop-next : goal.invariant-loop-next
invariant-loop-next l = record {
  pieces : All (IsPieceOf l.outline.corners) l.pieces.items;
  choices : AreChoices l.outline.corners l.pieces.items (map seen l.choices.items);
  few : length l.pieces.items + 2 ≤ length l.outline.corners;
  area : areas_of l.outline.corners l.pieces.items ≡ outline_area l.outline.corners;
  merged : merged l.outline.corners l.fn.triangles ≡ merge_all l.outline.corners (length l.pieces.items) l.pieces.items;
}

abbrev pub decreases-loop-next : goal.decreases-loop-next
decreases-loop-next l = length l.pieces.items
