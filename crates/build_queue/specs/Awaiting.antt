-- Awaiting, said of the shapes at hand: a tile stored with a list is awaited where the shapes that touch it are others. Over a state it is
-- `is_awaited`.
use Rattle.std.specs.Prelude.{ℕ, Bool, not, List}
use Rattle.nav_ground.specs.declared.setting.Setting.{Setting}
use Rattle.nav_ground.specs.declared.shape.Shape.{Shape}
use Rattle.nav_ground.specs.Touching.{touching_shapes}
use Rattle.build_queue.specs.SameShapes.{are_same}

abbrev pub awaits : Setting → List Shape → ℕ → List Shape → Bool
awaits setting shapes tile stored = not (are_same stored (touching_shapes setting tile shapes))
