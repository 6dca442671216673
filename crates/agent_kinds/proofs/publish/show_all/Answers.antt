use Rattle.std.proofs.Common.{◌≡◌, length, arith}
use Rattle.build_queue.specs.StepContracts.{IsShowStep}
use Rattle.agent_kinds.proofs.Downwards.{all_from}
use Rattle.agent_kinds.proofs.Meshes.{is_last, show_next}
use Rattle.agent_kinds.proofs.Shown.{shown_kinds, shown_map}
use Rattle.agent_kinds.proofs.publish.show_all.Goals as goal

pub loop-mesh-preserved : goal.loop-mesh-preserved
loop-mesh-preserved c =
    let here : c.len-kind.result ≡ length c.pop.new.self.items = omega (arith, c.len-kind.ensures) in
    record {
      left = (is_last c.args.levels.now c.loop-mesh.meshes.items c.pop.new.self.items c.in-Some.mesh c.index-levels-kind.result c.loop-mesh.invariant.left
          c.in-Some.ensures.items).left;
      turned = show_next c.args.levels.now c.loop-mesh.levels c.loop-mesh.meshes.items c.pop.new.self.items c.in-Some.mesh c.len-kind.result
          c.index-levels-kind.result c.show.new.self c.loop-mesh.invariant.left c.loop-mesh.invariant.turned c.in-Some.ensures.items here c.show.ensures;
    }

pub returns-clause-state : goal.returns-clause-state
returns-clause-state c =
    let none : length c.loop-mesh.meshes.items ≡ 0 = omega (arith, c.in_default.ensures.cases.0) in
    shown_map c.args.levels.now c.loop-mesh.levels c.requires.kinds
    (all_from IsShowStep (length c.loop-mesh.meshes.items) c.args.levels.now c.loop-mesh.levels none c.loop-mesh.invariant.turned)

pub returns-clause-rules : goal.returns-clause-rules
returns-clause-rules c =
    let none : length c.loop-mesh.meshes.items ≡ 0 = omega (arith, c.in_default.ensures.cases.0) in
    shown_kinds c.args.levels.now c.loop-mesh.levels c.requires.kinds
    (all_from IsShowStep (length c.loop-mesh.meshes.items) c.args.levels.now c.loop-mesh.levels none c.loop-mesh.invariant.turned)
