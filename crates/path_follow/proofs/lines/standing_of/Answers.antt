use Rattle.std.proofs.Common.{◌≡◌, List, subst}
use Rattle.mesh_types.specs.declared.answers.Corner.{Corner}
use Rattle.agent_walks.specs.Marches.{over_corners}
use Rattle.path_follow.specs.Lines.{IsShort, stand_of}
use Rattle.path_follow.proofs.Standings.{standing-is}
use Rattle.path_follow.proofs.lines.standing_of.Goals as goal

pub returns : goal.returns
returns c =
    let f = c.args.following.now in
    let walked = c.past_turns-standing.result in
    standing-is f c.requires walked _
    (subst (λ (turns : List Corner). over_corners f.from 0 f.far turns ≡ stand_of turns walked) c.as_slice.ensures c.past_turns-standing.ensures.stands)
    (subst (λ (turns : List Corner). IsShort turns walked) c.as_slice.ensures c.past_turns-standing.ensures.short)
    (λ i. record { point = walked.point; place = c.max.ensures i; budget = walked.budget; passed = walked.passed })
