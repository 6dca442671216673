-- The texts of hop walks: the exact lines of each answer to the question for one, each with its line feed.
use Rattle.std.specs.Prelude.{ℕ, ◌+◌, List, ◌++◌, length, codes, decimal}
use Rattle.std.specs.List.{flat_map}
use Rattle.mesh_types.specs.declared.answers.HopAnswer.{HopAnswer}
use Rattle.mesh_types.specs.declared.answers.HopAnswer.TheVariants.{Found, NoStart, NoGoal, NoPath}
use Rattle.mesh_types.specs.declared.answers.HopFound.{HopFound}
use Rattle.mesh_types.specs.declared.answers.HopStep.{HopStep}
use Rattle.mesh_types.specs.declared.answers.HopStep.TheVariants as hops
use Rattle.nav_record.specs.AnswerTexts.{poly_text, link_text, turn_text}

-- a step of a hop walk: a link as in a path, or the number of a jump and the polygon that it enters
abbrev pub hop_step_text : HopStep → List ℕ
hop_step_text (hops.Link link) = link_text link
hop_step_text (hops.Jump number to) = codes "jump " ++ decimal number ++ codes " " ++ poly_text to ++ codes "\n"

-- a hop walk: its cost, its first polygon, and how many steps and turns it has; then a line for each step, and then one for each turn
abbrev pub hop_line_text : ℕ → HopFound → List ℕ
hop_line_text k found =
    codes "hop " ++ decimal k ++ codes " " ++ decimal found.cost ++ codes " " ++ poly_text found.first ++ codes " " ++ decimal (length found.steps)
    ++ codes " " ++ decimal (length found.turns) ++ codes "\n"

-- all lines of a hop walk
abbrev pub found_text : ℕ → HopFound → List ℕ
found_text k found = hop_line_text k found ++ (flat_map hop_step_text found.steps ++ flat_map turn_text found.turns)

-- an answer, with the length of the version that was read
abbrev pub hop_text : ℕ → HopAnswer → List ℕ
hop_text k (Found found) = found_text k found
hop_text k NoStart = codes "nostart " ++ decimal k ++ codes "\n"
hop_text k NoGoal = codes "nogoal " ++ decimal k ++ codes "\n"
hop_text k NoPath = codes "nopath " ++ decimal k ++ codes "\n"

-- an answer is one line; a hop walk is one, and one more for each step and for each turn
abbrev pub hop_line_count : HopAnswer → ℕ
hop_line_count (Found found) = 1 + length found.steps + length found.turns
hop_line_count _ = 1
