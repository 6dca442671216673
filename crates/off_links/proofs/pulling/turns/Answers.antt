use Rattle.std.proofs.Common.{◌≡◌, ◌+◌, ◌<◌, List, Vec, Global, [], length, drop, ap, sym, subst, ◌∙◌}
use Rattle.std.proofs.lemmas.List.{drop_all}
use Rattle.mesh_types.specs.declared.answers.Corner.{Corner}
use Rattle.mesh_types.specs.declared.links.Portal.{Portal}
use Rattle.mesh_types.specs.declared.answers.Jump.{Jump}
use Rattle.mesh_types.specs.declared.answers.HopStep.{HopStep}
use Rattle.mesh_types.specs.Stretches.{AreTautIn, stretches_from}
use Rattle.mesh_types.proofs.MeshLinks.{held_in}
use Rattle.off_links.specs.Pulling.{IsPulled}
use Rattle.off_links.proofs.Stretches.{IsPulling, rest_at, pulling_as, pulling_begun, pulling_link, jump_there, jump_ready, jump_done, goal_ready, pulling_done}
use Rattle.off_links.proofs.pulling.turns.Goals as goal
use Rattle.off_links.proofs.pulling.turns.Goals.{in-Link+in_ok-push-in-Link, in-Jump+in_ok-push_turns-in-Jump}

pub loop-place-init : goal.loop-place-init
loop-place-init c =
    let mesh = c.args.mesh.now in
    let q = c.args.question.now in
    let steps = c.args.steps.now in
    subst (λ (portals : List Portal). IsPulling mesh q.jumps q.from q.to c.args.ends.1 steps steps 0 q.from 0 portals c.new-turns.result.items) (sym c.new-portals.ensures.items)
    (subst (λ (turns : List Corner). IsPulling mesh q.jumps q.from q.to c.args.ends.1 steps steps 0 q.from 0 [] turns) (sym c.new-turns.ensures.items)
    (pulling_begun mesh q.jumps q.from q.to c.args.ends.1 steps c.args.ends.0 (held_in mesh q.from q.from_y c.args.ends.0 c.requires.within.start.holding) c.requires.walks))

pub loop-place-preserved : goal.loop-place-preserved
loop-place-preserved c =
    let mesh = c.args.mesh.now in
    let q = c.args.question.now in
    let steps = c.args.steps.now in
    let turn = c.loop-place in
    elim c.match-step.branch [
      | in-Link+in_ok-push-in-Link w ↦
          let pulling = subst (λ (rest : List HopStep). IsPulling mesh q.jumps q.from q.to c.args.ends.1 steps rest turn.place turn.from turn.first turn.portals.items turn.turns.items)
          (rest_at steps turn.place _ _ c.loop-place-test.true w.in-Link.is) turn.invariant in
          pulling_as mesh q.jumps q.from q.to c.args.ends.1 steps (drop (turn.place + 1) steps) (turn.place + 1) turn.from _ turn.first _ _ _ turn.turns.items _
          w.from-is w.first-is (ap (λ (v : Vec Portal Global). v.items) w.portals-is ∙ w.in_ok-push-in-Link.ensures.items) (ap (λ (v : Vec Corner Global). v.items) w.turns-is)
          (pulling_link mesh q.jumps q.from q.to c.args.ends.1 steps turn.place turn.from turn.first turn.portals.items turn.turns.items (drop (turn.place + 1) steps) w.in-Link.link pulling)
      | in-Jump+in_ok-push_turns-in-Jump w ↦
          let pulling = subst (λ (rest : List HopStep). IsPulling mesh q.jumps q.from q.to c.args.ends.1 steps rest turn.place turn.from turn.first turn.portals.items turn.turns.items)
          (rest_at steps turn.place _ _ c.loop-place-test.true w.in-Jump.is) turn.invariant in
          pulling_as mesh q.jumps q.from q.to c.args.ends.1 steps (drop (turn.place + 1) steps) (turn.place + 1) _ _ (turn.place + 1) _ [] _ w.push_turns.new.turns.items _
          w.from-is w.first-is (ap (λ (v : Vec Portal Global). v.items) w.portals-is ∙ w.clear.ensures.items) (ap (λ (v : Vec Corner Global). v.items) w.turns-is)
          (jump_done mesh q.jumps q.from q.to c.args.ends.1 steps turn.place turn.from turn.first turn.portals.items turn.turns.items (drop (turn.place + 1) steps)
          w.in-Jump.number w.in-Jump.to c.as_slice-jumps.result.now w.as_slice.result.now w.push_turns.new.turns.items c.as_slice-jumps.ensures w.as_slice.ensures.value pulling
          w.in_ok-push_turns-in-Jump.ensures)
    ]

pub bounds-jumps-number : goal.bounds-jumps-number
bounds-jumps-number c =
    let mesh = c.args.mesh.now in
    let q = c.args.question.now in
    let steps = c.args.steps.now in
    let turn = c.loop-place in
    let pulling = subst (λ (rest : List HopStep). IsPulling mesh q.jumps q.from q.to c.args.ends.1 steps rest turn.place turn.from turn.first turn.portals.items turn.turns.items)
    (rest_at steps turn.place _ _ c.loop-place-test.true c.in-Jump.is) turn.invariant in
    subst (λ (jumps : List Jump). c.in-Jump.number < length jumps) (sym c.as_slice-jumps.ensures)
    (jump_there mesh q.jumps q.from q.to c.args.ends.1 steps turn.place turn.from turn.first turn.portals.items turn.turns.items (drop (turn.place + 1) steps) c.in-Jump.number
    c.in-Jump.to pulling)

pub push_turns-requires-clause-chain : goal.push_turns-requires-clause-chain
push_turns-requires-clause-chain c =
    let mesh = c.args.mesh.now in
    let q = c.args.question.now in
    let steps = c.args.steps.now in
    let turn = c.loop-place in
    let pulling = subst (λ (rest : List HopStep). IsPulling mesh q.jumps q.from q.to c.args.ends.1 steps rest turn.place turn.from turn.first turn.portals.items turn.turns.items)
    (rest_at steps turn.place _ _ c.loop-place-test.true c.in-Jump.is) turn.invariant in
    (jump_ready mesh q.jumps q.from q.to c.args.ends.1 steps turn.place turn.from turn.first turn.portals.items turn.turns.items (drop (turn.place + 1) steps) c.in-Jump.number
    c.in-Jump.to c.as_slice-jumps.result.now c.as_slice.result.now c.requires.sound c.as_slice-jumps.ensures c.as_slice.ensures.value pulling).chain

pub push_turns-requires-clause-coordinates : goal.push_turns-requires-clause-coordinates
push_turns-requires-clause-coordinates c =
    let mesh = c.args.mesh.now in
    let q = c.args.question.now in
    let steps = c.args.steps.now in
    let turn = c.loop-place in
    let pulling = subst (λ (rest : List HopStep). IsPulling mesh q.jumps q.from q.to c.args.ends.1 steps rest turn.place turn.from turn.first turn.portals.items turn.turns.items)
    (rest_at steps turn.place _ _ c.loop-place-test.true c.in-Jump.is) turn.invariant in
    (jump_ready mesh q.jumps q.from q.to c.args.ends.1 steps turn.place turn.from turn.first turn.portals.items turn.turns.items (drop (turn.place + 1) steps) c.in-Jump.number
    c.in-Jump.to c.as_slice-jumps.result.now c.as_slice.result.now c.requires.sound c.as_slice-jumps.ensures c.as_slice.ensures.value pulling).coordinates

pub push_turns-requires-2-clause-chain : goal.push_turns-requires-2-clause-chain
push_turns-requires-2-clause-chain c =
    let mesh = c.args.mesh.now in
    let q = c.args.question.now in
    let steps = c.args.steps.now in
    let turn = c.loop-place in
    let none : drop turn.place steps ≡ [] = drop_all turn.place steps c.loop-place-test.false in
    let pulling = subst (λ (rest : List HopStep). IsPulling mesh q.jumps q.from q.to c.args.ends.1 steps rest turn.place turn.from turn.first turn.portals.items turn.turns.items)
    none turn.invariant in
    (goal_ready mesh q.jumps q.from q.to c.args.ends.1 steps turn.place turn.from turn.first turn.portals.items turn.turns.items c.as_slice-2.result.now c.requires.sound
    c.as_slice-2.ensures.value (held_in mesh q.to q.to_y c.args.ends.1 c.requires.within.goal.holding) pulling).chain

pub push_turns-requires-2-clause-coordinates : goal.push_turns-requires-2-clause-coordinates
push_turns-requires-2-clause-coordinates c =
    let mesh = c.args.mesh.now in
    let q = c.args.question.now in
    let steps = c.args.steps.now in
    let turn = c.loop-place in
    let none : drop turn.place steps ≡ [] = drop_all turn.place steps c.loop-place-test.false in
    let pulling = subst (λ (rest : List HopStep). IsPulling mesh q.jumps q.from q.to c.args.ends.1 steps rest turn.place turn.from turn.first turn.portals.items turn.turns.items)
    none turn.invariant in
    (goal_ready mesh q.jumps q.from q.to c.args.ends.1 steps turn.place turn.from turn.first turn.portals.items turn.turns.items c.as_slice-2.result.now c.requires.sound
    c.as_slice-2.ensures.value (held_in mesh q.to q.to_y c.args.ends.1 c.requires.within.goal.holding) pulling).coordinates

pub returns : goal.returns
returns c =
    let mesh = c.args.mesh.now in
    let q = c.args.question.now in
    let steps = c.args.steps.now in
    let turn = c.loop-place in
    let none : drop turn.place steps ≡ [] = drop_all turn.place steps c.loop-place-test.false in
    let pulling = subst (λ (rest : List HopStep). IsPulling mesh q.jumps q.from q.to c.args.ends.1 steps rest turn.place turn.from turn.first turn.portals.items turn.turns.items)
    none turn.invariant in
    let pulled = subst (λ (portals : List Portal). IsPulled turn.from portals q.to turn.first turn.turns.items c.push_turns-2.new.turns.items) c.as_slice-2.ensures.value
    c.in_ok-push_turns.ensures in
    subst (AreTautIn (stretches_from q.jumps q.to q.from 0 [] steps)) (sym c.from_vec.ensures)
    (pulling_done mesh q.jumps q.from q.to c.args.ends.1 steps turn.place turn.from turn.first turn.portals.items turn.turns.items c.push_turns-2.new.turns.items pulling pulled)
