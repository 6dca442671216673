use Rattle.std.proofs.Common.{◌≡◌, ◌+◌, ◌≤◌, length, drop}
use Rattle.std.specs.Prelude.{vec_capacity}
use Rattle.std.specs.Vec.Iter.{into_iter_items, into_iter_len}
use Rattle.nav_live.specs.MadeActors.{AreNew}
use Rattle.nav_live.proofs.actors.Actors.make_actors.Given as goal

-- so many actors were made of as many passes, and lanes of as many eyes and lists
abbrev pub invariant-loop-number : goal.invariant-loop-number
invariant-loop-number l =
    (length l.self.slots.items ≡ l.number)
    × (vec_capacity l.self.slots ≡ vec_capacity l.fn.self.slots)
    × (l.self.left ≡ l.fn.self.left)
    × (into_iter_len l.passes + l.number ≡ length l.fn.passes.items)
    × (into_iter_items l.passes ≡ drop l.number l.fn.passes.items)
    × (l.number ≤ l.fn.script.lanes → into_iter_items l.eyes ≡ drop l.number l.fn.outfit.eyes.items)
    × (l.number ≤ l.fn.script.lanes → into_iter_items l.lists ≡ drop l.number l.fn.outfit.lists.items)
    × AreNew l.fn.outfit.eyes.items l.fn.outfit.lists.items l.fn.passes.items l.self.slots.items
