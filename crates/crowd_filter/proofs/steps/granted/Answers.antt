use Rattle.std.proofs.Common.{◌≡◌, List, length, sym, subst, ◌∙◌, arith}
use Rattle.crowd_moves.specs.declared.agents.CrowdMove.{CrowdMove}
use Rattle.crowd_moves.specs.Steps.{AreMoves}
use Rattle.crowd_moves.specs.Wishes.{AreWished}
use Rattle.crowd_filter.specs.CrowdAgents.{MayWalk}
use Rattle.crowd_filter.specs.CrowdSteps.{AreGrantedIn}
use Rattle.crowd_filter.proofs.StepParts.{written_over}
use Rattle.crowd_filter.proofs.steps.granted.Goals as goal

pub grant-settles-requires-clause-moves : goal.grant-settles-requires-clause-moves
grant-settles-requires-clause-moves c =
    subst (AreMoves (MayWalk c.args.mesh.now) c.args.mesh.now.setting.agent.height c.args.placed.now) (sym c.as_mut_slice.ensures.value)
    (c.in_ok-moves.ensures.right c.args.mesh.now.setting.agent.height)

pub returns : goal.returns
returns c =
    let mesh = c.args.mesh.now in
    let order = c.args.wishes.order.now in
    let first = c.args.wishes.first.now in
    let vectors = c.args.wishes.vectors.now in
    let new = c.grant-settles.new.moves in
    let stands = c.in_ok-moves.ensures.right mesh.setting.agent.height in
    let same : length new ≡ c.in_ok-moves.moves.len = omega (arith, c.grant-settles.ensures.right.one_each, stands.one_each, c.in_ok-moves.moves.ok.0) in
    subst (λ (moves : List CrowdMove). AreGrantedIn mesh order first vectors c.args.placed.now moves c.grant-settles.result)
    (sym (written_over c.in_ok-moves.moves.items new c.in_ok-moves.moves.len same)) (record {
      right = c.grant-settles.ensures.right;
      wished = subst (λ (old : List CrowdMove). AreWished first vectors old new) (c.as_mut_slice.ensures.value ∙ c.in_ok-moves.ensures.moves) c.grant-settles.ensures.wished;
      lone = c.grant-settles.ensures.lone;
      settled = c.grant-settles.ensures.settled;
    })
