use Rattle.std.proofs.Common.{◌≡◌, ◌+◌, rules, length, length-append, ap, sym, ◌∙◌, Some, refl, arith}
use Rattle.turn_lock.proofs.LockLemmas.{fresh_more}
use Rattle.turn_lock.proofs.Seats.{splits}
use Rattle.turn_lock.proofs.lock.TurnLock.deal.Goals as goal

pub split_seat-next-requires : goal.split_seat-next-requires
split_seat-next-requires g c =
    let me = c.loop.invariant.1 in
    let given = ap (λ m. m.0.given) me in
    let rooted = ap (λ m. m.0.root) me ∙ ap (λ l. Some l.root) (sym c.self.view_is) in
    let passes = ap (λ l. l.passes) c.self.view_is in
    let made = c.loop.invariant.2 in
    let below = c.loop-test.true in
    let count = c.requires.count.1 in
    (search rules, search rules, splits g.B.Booked.root g.B.Booked.entries g.B.Booked.maker _ _ _ _ rooted (omega arith) (omega arith))

pub loop-preserved : goal.loop-preserved
loop-preserved g c =
    let split = c.split_seat-next.ensures in
    let before = c.loop.invariant in
    let count : length c.push_reserved.new.self.items ≡ length c.loop.list.items + 1 =
    ap length c.push_reserved.ensures.items ∙ length-append c.loop.list.items _ in (
      split.3 ∙ before.0,
      rw (split.4, before.1, count) refl,
      omega arith,
      omega (arith, before.3, c.push_reserved.ensures.capacity),
      fresh_more c.args.self.now c.loop.list.items c.push_reserved.new.self.items _ c.push_reserved.ensures.items
          (rw (split.0, before.0, split.2, before.1) refl) before.4,
    )

pub returns : goal.returns
returns g c =
    let before = c.loop.invariant in
    let count : length c.push_reserved-2.new.self.items ≡ length c.loop.list.items + 1 =
    ap length c.push_reserved-2.ensures.items ∙ length-append c.loop.list.items _ in
    let all : length c.push_reserved-2.new.self.items ≡ c.args.self.now.passes = omega (arith, before.2, c.loop.auto.counter-end, c.requires.count) in
    record {
      count = all;
      each = λ k below. fresh_more c.args.self.now c.loop.list.items c.push_reserved-2.new.self.items _ c.push_reserved-2.ensures.items
          (rw (before.0, before.1) refl) before.4 k (omega arith);
    }
