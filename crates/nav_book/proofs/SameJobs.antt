-- The comparison of lists of shapes tells whether they are the same.
use Rattle.std.proofs.Common.{◌≡◌, Bool, List}
use Rattle.std.specs.Bool.{Decides}
use Rattle.std.specs.Cmp.Lexicographic.{pointwise}
use Rattle.std.proofs.lemmas.Slice.Eq.{slice_eq-Decides}
use Rattle.nav_ground.specs.declared.shape.Shape.{Shape}
use Rattle.nav_ground.specs.contracts.shape.ShapePartialEq.TheImpl as shape
use Rattle.build_queue.proofs.SameShapes.{equal_decides}

pub lists_decide : (shapes others : List Shape) (r : Bool) → r ≡ pointwise shape.eq-value.it shapes others → Decides r (shapes ≡ others)
lists_decide shapes others r is = slice_eq-Decides equal_decides shapes others r is
