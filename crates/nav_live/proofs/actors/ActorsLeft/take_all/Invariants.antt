use Rattle.std.proofs.Common.{◌≡◌, ◌++◌, map, filter_map, length}
use Rattle.std.specs.Vec.Iter.{into_iter_items, into_iter_len}
use Rattle.nav_live.specs.declared.actors.ActorSlot.{ActorSlot}
use Rattle.nav_live.specs.Tasks.{End}
use Rattle.nav_live.specs.Leavings.{EndsAs, HasRoom, eye_left, pass_left, text_left, worse}
use Rattle.nav_live.proofs.actors.ActorsLeft.take_all.Given as goal

-- what was taken and what the actors left leave is all that actors leave, and so it is with their ends; there is room for what is left
abbrev pub invariant-loop-slot : goal.invariant-loop-slot
invariant-loop-slot l =
    let rest = into_iter_items l.slots in
    let all = l.fn.slots.items in
    (l.self.passes.items ++ map (λ (slot : ActorSlot). pass_left slot.task) rest ≡ map (λ (slot : ActorSlot). pass_left slot.task) all)
    × (l.self.eyes.items ++ filter_map (λ (slot : ActorSlot). eye_left slot.task) rest ≡ filter_map (λ (slot : ActorSlot). eye_left slot.task) all)
    × (l.self.texts.items ++ filter_map (λ (slot : ActorSlot). text_left slot.task) rest ≡ filter_map (λ (slot : ActorSlot). text_left slot.task) all)
    × ((end : End) → EndsAs rest end → EndsAs all (worse l.end end))
    × HasRoom (length rest) l.self

abbrev pub decreases-loop-slot : goal.decreases-loop-slot
decreases-loop-slot l = into_iter_len l.slots
