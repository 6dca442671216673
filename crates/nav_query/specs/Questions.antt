-- Questions: which are answered, and what their answers cost.
use Rattle.std.specs.Prelude.{◌<◌, ◌^◌, ⊤}
use Rattle.nav_base.specs.declared.point.Question.{Question}
use Rattle.nav_base.specs.declared.point.Question.TheVariants as questions
use Rattle.nav_base.specs.Point.{HasCoordinates}
use Rattle.mesh_types.specs.declared.answers.Answer.{Answer}
use Rattle.mesh_types.specs.declared.answers.Answer.TheVariants.{Floors, Path, NoStart, NoGoal, NoPath, Reached, Wall}
use Rattle.mesh_types.specs.declared.mesh.Mesh.{Mesh}
use Rattle.mesh_types.specs.Folds.{IsUnfolded}
use Rattle.mesh_types.specs.Right.{IsRight, portals_of}
use Rattle.nav_query.specs.declared.answering.Asking.{Asking}

-- floors are asked of any column, paths and rays between points with coordinates
abbrev pub IsAnswerable : Question → Type 0
IsAnswerable (questions.Floor x z) = ⊤
IsAnswerable (questions.Path from from_y to to_y) = HasCoordinates from × HasCoordinates to
IsAnswerable (questions.Ray from from_y to) = HasCoordinates from × HasCoordinates to

-- a path that was found costs less than 2 ^ 45
abbrev pub HasLowCost : Answer → Type 0
HasLowCost (Path found) = found.cost < 2 ^ 45
HasLowCost (Floors floors) = ⊤
HasLowCost NoStart = ⊤
HasLowCost NoGoal = ⊤
HasLowCost NoPath = ⊤
HasLowCost (Reached at) = ⊤
HasLowCost (Wall a b num den) = ⊤

-- no portal on the way of a path that was found folds back on the one before it
abbrev pub HasUnfoldedWay : Answer → Type 0
HasUnfoldedWay (Path found) = IsUnfolded (portals_of found.links)
HasUnfoldedWay (Floors floors) = ⊤
HasUnfoldedWay NoStart = ⊤
HasUnfoldedWay NoGoal = ⊤
HasUnfoldedWay NoPath = ⊤
HasUnfoldedWay (Reached at) = ⊤
HasUnfoldedWay (Wall a b num den) = ⊤

-- such a question, asked as one that carries how it is answered: it can be asked where it is answered, and an answer is right where it is right in
-- the mesh and costs little
abbrev pub CanAsk : Asking → Type 0
CanAsk asking = IsAnswerable asking.question

abbrev pub IsRightAsked : Asking → Mesh → Answer → Type 0
IsRightAsked asking mesh answer = IsRight mesh asking.question answer × HasLowCost answer
