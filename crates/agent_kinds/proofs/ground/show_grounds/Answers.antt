use Rattle.std.proofs.Common.{◌≡◌, length, arith}
use Rattle.agent_kinds.specs.KindGrounds.{IsChangedTo}
use Rattle.agent_kinds.proofs.Downwards.{all_from, none_from}
use Rattle.agent_kinds.proofs.Grounds.{changed_kinds, from_all, ground_next, last_ground, ready}
use Rattle.agent_kinds.proofs.Turns.{zipped}
use Rattle.agent_kinds.proofs.ground.show_grounds.Goals as goal

pub loop-next-init : goal.loop-next-init
loop-next-init c = record {
  left = from_all c.args.window c.args.field.now c.args.levels.now c.args.nexts.items c.requires.nexts;
  turned = none_from (IsChangedTo c.args.window c.args.field.now) c.args.levels.now (length c.args.nexts.items) (omega (arith, c.requires.nexts.each));
}

pub show_ground-requires-clause-rest : goal.show_ground-requires-clause-rest
show_ground-requires-clause-rest c =
    let here : c.len-kind.result ≡ length c.pop.new.self.items = omega (arith, c.len-kind.ensures) in
    (ready c.args.window c.args.field.now c.args.levels.now c.loop-next.levels c.loop-next.nexts.items c.pop.new.self.items c.in-Some.next
    c.len-kind.result c.index-levels-kind.result c.requires.rest c.loop-next.invariant.left c.loop-next.invariant.turned c.in-Some.ensures.items here).still

pub show_ground-requires-clause-next : goal.show_ground-requires-clause-next
show_ground-requires-clause-next c =
    let here : c.len-kind.result ≡ length c.pop.new.self.items = omega (arith, c.len-kind.ensures) in
    (ready c.args.window c.args.field.now c.args.levels.now c.loop-next.levels c.loop-next.nexts.items c.pop.new.self.items c.in-Some.next
    c.len-kind.result c.index-levels-kind.result c.requires.rest c.loop-next.invariant.left c.loop-next.invariant.turned c.in-Some.ensures.items here).fits

pub loop-next-preserved : goal.loop-next-preserved
loop-next-preserved c =
    let here : c.len-kind.result ≡ length c.pop.new.self.items = omega (arith, c.len-kind.ensures) in
    record {
      left = (last_ground c.args.window c.args.field.now c.args.levels.now c.loop-next.nexts.items c.pop.new.self.items c.in-Some.next
          c.loop-next.invariant.left c.in-Some.ensures.items).left;
      turned = ground_next c.args.window c.args.field.now c.args.levels.now c.loop-next.levels c.loop-next.nexts.items c.pop.new.self.items c.in-Some.next
          c.len-kind.result c.index-levels-kind.result c.show_ground.new.self c.loop-next.invariant.left c.loop-next.invariant.turned
          c.in-Some.ensures.items here c.show_ground.ensures;
    }

pub returns-clause-changed : goal.returns-clause-changed
returns-clause-changed c =
    let none : length c.loop-next.nexts.items ≡ 0 = omega (arith, c.in_default.ensures.cases.0) in
    zipped (IsChangedTo c.args.window c.args.field.now) c.args.levels.now c.loop-next.levels
    (all_from (IsChangedTo c.args.window c.args.field.now) (length c.loop-next.nexts.items) c.args.levels.now c.loop-next.levels none
    c.loop-next.invariant.turned)

pub returns-clause-rules : goal.returns-clause-rules
returns-clause-rules c =
    let none : length c.loop-next.nexts.items ≡ 0 = omega (arith, c.in_default.ensures.cases.0) in
    changed_kinds c.args.window c.args.field.now c.args.levels.now c.loop-next.levels c.requires.kinds
    (all_from (IsChangedTo c.args.window c.args.field.now) (length c.loop-next.nexts.items) c.args.levels.now c.loop-next.levels none
    c.loop-next.invariant.turned)
