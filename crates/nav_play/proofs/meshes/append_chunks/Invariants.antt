use Rattle.std.proofs.Common.{◌≡◌, ◌++◌, drop}
use Rattle.std.specs.List.{flat_map}
use Rattle.nav_play.specs.Scenes.{StandsInFront}
use Rattle.nav_play.proofs.meshes.append_chunks.Given as goal

-- what is written so far and what is told of the parts left are the whole, and what stood there stands in front
abbrev pub invariant-loop-part : goal.invariant-loop-part
invariant-loop-part g l =
    (l.out.items ++ flat_map (flat_map g.T.SceneItem.text) (drop l.part-index l.part-items) ≡ l.fn.out.items ++ flat_map (flat_map g.T.SceneItem.text) l.part-items)
    × StandsInFront l.fn.out.items l.out.items
