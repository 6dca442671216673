-- The texts of walkers: the exact lines of each answer, each with its line feed.
use Rattle.std.specs.Prelude.{ℕ, ◌+◌, List, ◌++◌, length, codes, decimal}
use Rattle.std.specs.List.{flat_map}
use Rattle.nav_base.specs.declared.point.Point.{Point}
use Rattle.mesh_types.specs.declared.links.Link.{Link}
use Rattle.mesh_types.specs.declared.links.PolyRef.{PolyRef}
use Rattle.mesh_types.specs.declared.answers.WalkAnswer.{WalkAnswer}
use Rattle.mesh_types.specs.declared.answers.WalkAnswer.TheVariants.{Walking, NoStart, NoGoal, NoPath}
use Rattle.nav_record.specs.AnswerTexts.{poly_text, point_text, link_text}

-- a walker: the polygon and the point where it stands, and the cost and the number of the links from there to its goal's polygon; then a line for
-- each of these links
abbrev pub walker_line_text : ℕ → PolyRef → Point → ℕ → ℕ → List ℕ
walker_line_text k at point cost count =
    codes "walker " ++ decimal k ++ codes " " ++ poly_text at ++ codes " " ++ point_text point ++ codes " " ++ decimal cost ++ codes " " ++ decimal count
    ++ codes "\n"

-- all lines of a walker
abbrev pub walker_text : ℕ → PolyRef → Point → ℕ → List Link → List ℕ
walker_text k at point cost links = walker_line_text k at point cost (length links) ++ flat_map link_text links

-- what a walker is answered that is sent or marches, with the length of the version that was read
abbrev pub walk_text : ℕ → WalkAnswer → List ℕ
walk_text k (Walking at point y cost links) = walker_text k at point cost links
walk_text k NoStart = codes "nostart " ++ decimal k ++ codes "\n"
walk_text k NoGoal = codes "nogoal " ++ decimal k ++ codes "\n"
walk_text k NoPath = codes "nopath " ++ decimal k ++ codes "\n"

-- a march where there is no walker names no length
abbrev pub no_walker_text : List ℕ
no_walker_text = codes "nowalker\n"

-- an answer is one line; a walker is one, and one more for each link
abbrev pub walk_line_count : WalkAnswer → ℕ
walk_line_count (Walking at point y cost links) = 1 + length links
walk_line_count _ = 1
