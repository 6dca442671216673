use Rattle.std.proofs.Common.{ℕ, ◌+◌, List, length, arith, ◌∙◌, ap}
use Rattle.std.proofs.lemmas.List.{length_push}
use Rattle.nav_book.specs.declared.next_ground.NextGround.{NextGround}
use Rattle.agent_kinds.proofs.Grounds.{all_first, one_first}
use Rattle.agent_kinds.proofs.ground.next_grounds.Goals as goal

pub loop-level-preserved : goal.loop-level-preserved
loop-level-preserved g c = record {
  many = ap (λ (list : List NextGround). length list) c.in_ok-push.ensures.items ∙ length_push c.loop-level.nexts.items c.in_ok-next.next
      ∙ ap (λ (n : ℕ). n + 1) c.loop-level.invariant.many;
  first = one_first c.args.window c.args.field.now c.args.levels.now c.loop-level.nexts.items _ c.in_ok-next.next c.loop-level.level-index c.level-item.result
      c.level-item.result c.loop-level.invariant.first c.loop-level.invariant.many c.loop-level-test.true c.level-item.is c.in_ok-next.ensures
      c.in_ok-push.ensures.items;
}

pub returns : goal.returns
returns g c =
    all_first c.args.window c.args.field.now c.args.levels.now c.loop-level.nexts.items c.loop-level.invariant.first
    (omega (arith, c.loop-level.invariant.many, c.loop-level.invariant.first.few, c.loop-level-test.false))
