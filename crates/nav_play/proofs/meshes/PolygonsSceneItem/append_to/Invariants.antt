use Rattle.std.proofs.Common.{◌≡◌, ◌++◌, drop}
use Rattle.std.specs.List.{flat_map}
use Rattle.nav_play.specs.Scenes.{StandsInFront, polygon_text}
use Rattle.nav_play.proofs.meshes.PolygonsSceneItem.append_to.Given as goal

-- what is written so far and the lines of the polygons left are the whole, and what stood there stands in front
abbrev pub invariant-loop-place : goal.invariant-loop-place
invariant-loop-place l =
    (l.out.items ++ flat_map polygon_text (drop l.place l.self) ≡ l.fn.out.items ++ flat_map polygon_text l.self)
    × StandsInFront l.fn.out.items l.out.items
