use Rattle.std.proofs.Common.{◌<◌, ◌∙◌, ℕ, List, length, ap, subst, arith, length-drop}
use Rattle.build_queue.specs.BookState.{IsBook}
use Rattle.obstacle_registry.specs.Registry.{alive_now}
use Rattle.obstacle_registry.proofs.Requests.{all_taken_down, first_left, left_there, none_taken_down, one_taken_down, room_left}
use Rattle.obstacle_registry.proofs.live.LiveLevel.take_all_down.Goals as goal

pub loop-init : goal.loop-init
loop-init c = record {
  down = none_taken_down c.args.self.now;
  all = c.len-end.ensures ∙ c.self.inside.numbers.ok.0 ∙ ap (λ (ns : List ℕ). length ns) (c.self.invariant.numbers ∙ ap alive_now c.self.view_is);
  rules = subst IsBook c.self.view_is c.self.invariant.rules;
}

pub index-number-requires : goal.index-number-requires
index-number-requires c =
    let left = ap (λ (ns : List ℕ). length ns) c.loop.invariant.down.left in
    let here = ap (λ (ns : List ℕ). length ns) (c.self-in-loop.invariant.numbers ∙ ap alive_now c.self-in-loop.view_is) in
    omega (arith, left, here, c.self-in-loop.inside.numbers.ok.0, c.loop-test.true, c.loop.invariant.all, length-drop c.loop.counter (alive_now c.args.self.now))

pub take_down-requires-clause-room : goal.take_down-requires-clause-room
take_down-requires-clause-room c =
    room_left c.loop.counter c.args.self.now c.loop.self c.loop.invariant.down (omega (arith, c.loop-test.true, c.loop.invariant.all)) c.requires

pub take_down-requires-clause-there : goal.take_down-requires-clause-there
take_down-requires-clause-there c =
    let within : c.loop.counter < length (alive_now c.args.self.now) = omega (arith, c.loop-test.true, c.loop.invariant.all) in
    left_there c.loop.counter c.args.self.now c.loop.self c.index-number.result.now c.loop.invariant.down within
    (first_left c.loop.counter c.args.self.now c.loop.self c.self-in-loop.inside.numbers.items c.index-number.result.now c.index-number.result.now
    c.loop.invariant.down within (c.self-in-loop.invariant.numbers ∙ ap alive_now c.self-in-loop.view_is) c.index-number.ensures)

pub loop-preserved : goal.loop-preserved
loop-preserved c =
    let within : c.loop.counter < length (alive_now c.args.self.now) = omega (arith, c.loop-test.true, c.loop.invariant.all) in
    record {
      down = one_taken_down c.loop.counter c.args.self.now c.loop.self c.take_down.new.self c.index-number.result.now c.loop.invariant.down within
          (first_left c.loop.counter c.args.self.now c.loop.self c.self-in-loop.inside.numbers.items c.index-number.result.now c.index-number.result.now
          c.loop.invariant.down within (c.self-in-loop.invariant.numbers ∙ ap alive_now c.self-in-loop.view_is) c.index-number.ensures)
          c.take_down.ensures.state;
      all = c.loop.invariant.all;
      rules = c.take_down.ensures.rules;
    }

pub returns : goal.returns
returns c =
    let all = all_taken_down c.loop.counter c.args.self.now c.loop.self (omega (arith, c.loop-test.false, c.loop.invariant.all)) c.loop.invariant.down in
    record { state = all.0; none = all.1; rules = c.loop.invariant.rules }
