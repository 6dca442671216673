-- Shapes, and lists of shapes, that are the same.
use Rattle.std.specs.Prelude.{Bool, false, ◌==◌, ◌&&◌, List}
use Rattle.std.specs.Ordering.{int_eq}
use Rattle.std.specs.Cmp.Lexicographic.{pointwise}
use Rattle.nav_base.specs.declared.point.Point.{Point}
use Rattle.nav_ground.specs.declared.shape.Shape.{Shape}
use Rattle.nav_ground.specs.declared.shape.Shape.TheVariants.{Block, Cylinder, AreaBlock, AreaCylinder, Prism, Disc}
use Rattle.nav_ground.specs.declared.prism.PrismBase.{PrismBase}

-- two bases are the same: with as many corners, in the same places
abbrev pub is_same_point : Point → Point → Bool
is_same_point a b = int_eq a.x b.x && int_eq a.z b.z

abbrev pub is_same_base : PrismBase → PrismBase → Bool
is_same_base a b = a.count == b.count && pointwise is_same_point a.corners b.corners

-- two shapes are the same: of one kind, with the same numbers
abbrev pub is_same_shape : Shape → Shape → Bool
is_same_shape (Block x0 x1 y0 y1 z0 z1) (Block a0 a1 b0 b1 c0 c1) = x0 == a0 && (x1 == a1 && (y0 == b0 && (y1 == b1 && (z0 == c0 && z1 == c1))))
is_same_shape (Cylinder cx cz r y0 y1) (Cylinder dx dz s b0 b1) = cx == dx && (cz == dz && (r == s && (y0 == b0 && y1 == b1)))
is_same_shape (AreaBlock area x0 x1 y0 y1 z0 z1) (AreaBlock other a0 a1 b0 b1 c0 c1) =
    area == other && (x0 == a0 && (x1 == a1 && (y0 == b0 && (y1 == b1 && (z0 == c0 && z1 == c1)))))
is_same_shape (AreaCylinder area cx cz r y0 y1) (AreaCylinder other dx dz s b0 b1) =
    area == other && (cx == dx && (cz == dz && (r == s && (y0 == b0 && y1 == b1))))
is_same_shape (Prism base area y0 y1) (Prism other given b0 b1) = is_same_base base other && (area == given && (y0 == b0 && y1 == b1))
is_same_shape (Disc cx cz r area y0 y1) (Disc dx dz s given b0 b1) =
    int_eq cx dx && (int_eq cz dz && (r == s && (area == given && (y0 == b0 && y1 == b1))))
is_same_shape shape other = false

-- two lists have the same shapes in the same order: they are equal, and the test tells so exactly (clause `own` of `is_touching_list`)
abbrev pub are_same : List Shape → List Shape → Bool
are_same shapes others = pointwise is_same_shape shapes others
