use Rattle.std.proofs.Common.{◌≡◌, [], ◌∷◌, ◌++◌, length}
use Rattle.std.specs.Prelude.{All, reverse}
use Rattle.std.specs.List.{flat_map, sum_by}
use Rattle.mesh_types.specs.Simplified.{kept_walking}
use Rattle.contour_simplify.specs.Halves.{IsHalf}
use Rattle.contour_simplify.proofs.Halving.{left_of, size_of}
use Rattle.contour_simplify.proofs.run.walk.Given as goal

-- what is kept so far, and what the halves on the stack leave, from the top
abbrev pub invariant-loop-half : goal.invariant-loop-half
invariant-loop-half l = record {
  told : l.kept.items ++ flat_map (left_of l.error) (reverse l.halves.items)
      ≡ kept_walking (length l.fn.inner) l.error l.fn.first l.fn.inner l.fn.last ++ l.fn.last ∷ [];
  each : All IsHalf l.halves.items;
}

abbrev pub decreases-loop-half : goal.decreases-loop-half
decreases-loop-half l = sum_by size_of l.halves.items
