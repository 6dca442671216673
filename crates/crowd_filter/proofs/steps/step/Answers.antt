use Rattle.std.proofs.Common.{◌≡◌, ap, sym, subst, ◌∙◌, List}
use Rattle.std.specs.Prelude.{All, slice_get}
use Rattle.crowd_moves.specs.declared.agents.CrowdAgent.{CrowdAgent}
use Rattle.crowd_moves.specs.declared.agents.CrowdMove.{CrowdMove}
use Rattle.crowd_filter.specs.CrowdAgents.{IsCrowdAgent}
use Rattle.crowd_filter.proofs.StepParts.{all_agents}
use Rattle.crowd_filter.proofs.steps.step.Goals as goal

pub granted-requires-clause-agents : goal.granted-requires-clause-agents
granted-requires-clause-agents c =
    subst (All (IsCrowdAgent c.args.mesh.now)) (sym c.as_slice.ensures.value)
    (all_agents c.args.mesh.now c.args.agents.now c.in_ok-placed.placed.items c.in_ok-placed.ensures)

pub make_moves-requires-clause-agents : goal.make_moves-requires-clause-agents
make_moves-requires-clause-agents c =
    subst (All (IsCrowdAgent c.args.mesh.now)) (sym c.as_slice-2.ensures.value)
    (all_agents c.args.mesh.now c.args.agents.now c.in_ok-placed.placed.items c.in_ok-placed.ensures)

pub make_moves-requires-clause-moves : goal.make_moves-requires-clause-moves
make_moves-requires-clause-moves c = λ i a m is_a is_m.
    let same : c.as_slice.result.now ≡ c.as_slice-2.result.now = c.as_slice.ensures.value ∙ sym c.as_slice-2.ensures.value in
    let moves : c.in_ok-granted.granted.moves.items ≡ c.as_slice-3.result.now = sym c.as_slice-3.ensures.value in
    c.in_ok-granted.ensures.right.may i m (ap (λ (ms : List CrowdMove). slice_get ms i) moves ∙ is_m) a (ap (λ (xs : List CrowdAgent). slice_get xs i) same ∙ is_a)
