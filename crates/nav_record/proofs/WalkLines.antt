-- The text of what a walker is answered is whole lines.
use Rattle.std.proofs.Common.{ℕ, length, codes, decimal, refl}
use Rattle.nav_base.specs.declared.point.Point.{Point}
use Rattle.mesh_types.specs.declared.links.PolyRef.{PolyRef}
use Rattle.mesh_types.specs.declared.answers.WalkAnswer.{WalkAnswer}
use Rattle.mesh_types.specs.declared.answers.WalkAnswer.TheVariants.{Walking, NoStart, NoGoal, NoPath}
use Rattle.nav_record.specs.OneLine.{IsOneLine, HasLines}
use Rattle.nav_record.specs.AnswerTexts.{poly_text, point_text, link_text}
use Rattle.nav_record.specs.WalkTexts.{no_walker_text, walk_line_count, walk_text, walker_line_text}
use Rattle.nav_record.proofs.AnswerLines.{one, both, each, spaced, line_of, poly_plain, point_plain, named, link_line}
use Rattle.nav_record.proofs.OneLineLaws.{is_line-decimal}

first_line : (k : ℕ) (at : PolyRef) (point : Point) (cost count : ℕ) → IsOneLine (walker_line_text k at point cost count)
first_line k at point cost count =
    let place = spaced (named (codes "walker ") refl k) (poly_text at) (poly_plain at) in
    let stand = spaced place (point_text point) (point_plain point) in
    line_of (spaced (spaced stand (decimal cost) (is_line-decimal cost)) (decimal count) (is_line-decimal count))

pub walk_lines : (k : ℕ) (answer : WalkAnswer) → HasLines (walk_text k answer) (walk_line_count answer)
walk_lines k (Walking at point y cost links) =
    both (walk_line_count (Walking at point y cost links)) (one (first_line k at point cost (length links))) (each link_text link_line links) refl
walk_lines k NoStart = one (line_of (named (codes "nostart ") refl k))
walk_lines k NoGoal = one (line_of (named (codes "nogoal ") refl k))
walk_lines k NoPath = one (line_of (named (codes "nopath ") refl k))

pub no_walker_line : IsOneLine no_walker_text
no_walker_line = line_of (codes "nowalker", refl)
