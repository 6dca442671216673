-- The text of an answer to the question for a hop walk is whole lines.
use Rattle.std.proofs.Common.{ℕ, ◌+◌, length, codes, decimal, refl, arith}
use Rattle.mesh_types.specs.declared.answers.HopAnswer.{HopAnswer}
use Rattle.mesh_types.specs.declared.answers.HopAnswer.TheVariants.{Found, NoStart, NoGoal, NoPath}
use Rattle.mesh_types.specs.declared.answers.HopFound.{HopFound}
use Rattle.mesh_types.specs.declared.answers.HopStep.{HopStep}
use Rattle.mesh_types.specs.declared.answers.HopStep.TheVariants as hops
use Rattle.nav_record.specs.HopTexts.{hop_line_count, hop_line_text, hop_step_text, hop_text}
use Rattle.nav_record.specs.OneLine.{IsOneLine, HasLines}
use Rattle.nav_record.specs.AnswerTexts.{poly_text, turn_text}
use Rattle.nav_record.proofs.AnswerLines.{one, both, each, spaced, line_of, poly_plain, named, link_line, turn_line}
use Rattle.nav_record.proofs.OneLineLaws.{is_line-decimal}

step_line : (step : HopStep) → IsOneLine (hop_step_text step)
step_line (hops.Link link) = link_line link
step_line (hops.Jump number to) = line_of (spaced (named (codes "jump ") refl number) (poly_text to) (poly_plain to))

first_line : (k : ℕ) (found : HopFound) → IsOneLine (hop_line_text k found)
first_line k found =
    let cost = spaced (named (codes "hop ") refl k) (decimal found.cost) (is_line-decimal found.cost) in
    let first = spaced cost (poly_text found.first) (poly_plain found.first) in
    let steps = spaced first (decimal (length found.steps)) (is_line-decimal (length found.steps)) in
    line_of (spaced steps (decimal (length found.turns)) (is_line-decimal (length found.turns)))

pub hop_lines : (k : ℕ) (answer : HopAnswer) → HasLines (hop_text k answer) (hop_line_count answer)
hop_lines k (Found found) =
    let behind = both (length found.steps + length found.turns) (each hop_step_text step_line found.steps) (each turn_text turn_line found.turns) refl in
    both (hop_line_count (Found found)) (one (first_line k found)) behind (omega arith)
hop_lines k NoStart = one (line_of (named (codes "nostart ") refl k))
hop_lines k NoGoal = one (line_of (named (codes "nogoal ") refl k))
hop_lines k NoPath = one (line_of (named (codes "nopath ") refl k))
