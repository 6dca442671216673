use Rattle.std.specs.Prelude.{All}
use Rattle.nav_ground.specs.Limits.{IsShape}
use Rattle.tests_paths.proofs.lists.shapes_of.Given as goal

-- the shapes so far are within their limits
abbrev pub invariant-loop-asked : goal.invariant-loop-asked
invariant-loop-asked l = All IsShape l.shapes
