-- The box of a base's corners, as the code keeps it.
use Rattle.std.specs.Prelude.{List}
use Rattle.nav_base.specs.declared.point.Point.{Point}
use Rattle.nav_ground.specs.declared.prism.CornerBox.{CornerBox}
use Rattle.nav_ground.specs.Prisms.{least_along, greatest_along}

-- the least and the greatest of the corners along each axis
abbrev pub box_of : List Point → CornerBox
box_of corners = record {
  low = record { x = least_along (λ (p : Point). p.x) corners; z = least_along (λ (p : Point). p.z) corners };
  high = record { x = greatest_along (λ (p : Point). p.x) corners; z = greatest_along (λ (p : Point). p.z) corners };
}
