-- The test says it.
use Rattle.std.proofs.Common.{◌∙◌, rules, w64}
use Rattle.std.proofs.lemmas.Int.{to_z-of_z}
use Rattle.funnel_path.proofs.SignTests.{below_zero, holds_where}
use Rattle.funnel_path.proofs.corners.look_opposite.Goals as goal

pub dot-requires-clause-first : goal.dot-requires-clause-first
dot-requires-clause-first c = c.requires.first.right

pub dot-requires-clause-second : goal.dot-requires-clause-second
dot-requires-clause-second c = c.requires.first.left

pub dot-requires-clause-third : goal.dot-requires-clause-third
dot-requires-clause-third c = c.requires.second.right

pub dot-requires-clause-fourth : goal.dot-requires-clause-fourth
dot-requires-clause-fourth c = c.requires.second.left

pub returns : goal.returns
returns c = holds_where _ _ (below_zero _ _ (to_z-of_z w64 c.dot.result (search rules) ∙ c.dot.ensures))
