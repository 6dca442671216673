use Rattle.std.proofs.Common.{◌≡◌, ◌++◌, drop}
use Rattle.std.specs.List.{flat_map}
use Rattle.nav_play.specs.Scenes.{StandsInFront}
use Rattle.nav_play.proofs.meshes.append_all.Given as goal

-- what is written so far and what is told of the things left are the whole, and what stood there stands in front
abbrev pub invariant-loop-thing : goal.invariant-loop-thing
invariant-loop-thing g l =
    (l.out.items ++ flat_map g.T.SceneItem.text (drop l.thing-index l.things) ≡ l.fn.out.items ++ flat_map g.T.SceneItem.text l.things)
    × StandsInFront l.fn.out.items l.out.items
