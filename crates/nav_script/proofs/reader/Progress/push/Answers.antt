use Rattle.std.proofs.Common.{arith, true, false, cond, Bool, ◌≡◌, refl, ap, ◌≤◌, length}
use Rattle.std.specs.Int.{from_bool}
use Rattle.nav_script.proofs.LaneLaws.{counted_more, counted_few}
use Rattle.nav_script.proofs.reader.Progress.push.Goals as goal

as_number : (b : Bool) → from_bool b ≡ cond b 1 0
as_number true = refl
as_number false = refl

at_most_one : (b : Bool) → from_bool b ≤ 1
at_most_one true = omega arith
at_most_one false = omega arith

pub overflow_add-self : goal.overflow_add-self
overflow_add-self c =
    let few = counted_few _ _ _ _ _ c.self.invariant in
    let all = ap length c.self.view_is in
    rw c.from.ensures (omega (arith, at_most_one c.is_add.result, all))

pub invariant_of-self-2 : goal.invariant_of-self-2
invariant_of-self-2 c =
    rw (
      c.in_ok-push.ensures.items,
      c.next_lane-self-inside.ensures,
      c.from.ensures,
      c.from-2.ensures,
      c.from-3.ensures,
      as_number c.is_add.result,
      as_number c.is_request.result,
      as_number c.is_jump.result,
      c.is_add.ensures,
      c.is_request.ensures,
      c.is_jump.ensures,
    ) (counted_more _ _ _ _ _ c.args.line c.self.invariant c.requires.lane)
