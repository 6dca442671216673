-- A shape with its bounds at hand is the shape.
use Rattle.std.specs.Prelude.{◌≡◌}
use Rattle.std.proofs.Common.{ap, sym}
use Rattle.nav_ground.specs.declared.shape.Shape.{Shape}
use Rattle.nav_ground.specs.Shapes.{bounds_of}
use Rattle.build_queue.specs.declared.live.BoundedShape.TheInside.{Inside}

abbrev pub shape_in : Inside → Shape
shape_in inside = inside.shape

-- the bounds are those of the shape
abbrev pub HasItsBounds : Inside → Type 0
HasItsBounds inside = inside.bounds ≡ bounds_of inside.shape

abbrev pub with_bounds : Shape → Inside
with_bounds shape = record { shape = shape; bounds = bounds_of shape }

pub bounds_come_back : (inside : Inside) → HasItsBounds inside → with_bounds (shape_in inside) ≡ inside
bounds_come_back inside its = ap (λ bounds. record { shape = inside.shape; bounds = bounds }) (sym its)
