use Rattle.std.proofs.Common.{length, ap, sym, ◌∙◌, subst, arith}
use Rattle.std.specs.Vec.Iter.{into_iter_items}
use Rattle.nav_live.specs.declared.actors.ActorSlot.{ActorSlot}
use Rattle.nav_live.specs.Leavings.{HasRoom, eye_left, pass_left, text_left}
use Rattle.nav_live.proofs.EndLaws.{ends_last, ends_next, filter_map_next, map_next, none_left}
use Rattle.nav_live.proofs.actors.ActorsLeft.take_all.Goals as goal

pub loop-slot-preserved : goal.loop-slot-preserved
loop-slot-preserved c =
    let slot = c.in-Some.slot in
    let rest = into_iter_items c.next.new.self in
    let before = into_iter_items c.loop-slot.slots in
    let all = c.args.slots.items in
    let is = c.in-Some.ensures.cases.0 in
    let whole = c.loop-slot.invariant in (
      map_next (λ (one : ActorSlot). pass_left one.task) slot rest before all c.loop-slot.self.passes.items c.take.new.self.passes.items is c.take.ensures.passes whole.0,
      filter_map_next (λ (one : ActorSlot). eye_left one.task) slot rest before all c.loop-slot.self.eyes.items c.take.new.self.eyes.items is c.take.ensures.eyes whole.1,
      filter_map_next (λ (one : ActorSlot). text_left one.task) slot rest before all c.loop-slot.self.texts.items c.take.new.self.texts.items is c.take.ensures.texts whole.2,
      ends_next slot rest before all c.loop-slot.end c.worse-end.result is c.worse-end.ensures whole.3,
      c.take.ensures.room (length rest) (subst (λ n. HasRoom n c.loop-slot.self) (omega (arith, ap length is)) whole.4),
    )

pub returns-clause-end : goal.returns-clause-end
returns-clause-end c = ends_last (into_iter_items c.loop-slot.slots) c.args.slots.items c.loop-slot.end (none_left (into_iter_items c.loop-slot.slots) (sym c.loop-slot.slots.rest.ok.0 ∙ c.in_default.ensures.cases.0)) c.loop-slot.invariant.3
