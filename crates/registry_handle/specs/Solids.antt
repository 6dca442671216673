-- Solids over the border, there and back: prisms and discs beside the blocks and cylinders of nav_handle, and obstacles of all kinds.
use Rattle.std.specs.Prelude.{◌≡◌, ℕ, ◌==◌, pos, nat_lt, if◌then◌else◌, List, [], ◌∷◌, Option, Some, None}
use Rattle.nav_base.specs.Convex.{corner_at}
use Rattle.nav_base.specs.declared.point.Point.{Point}
use Rattle.nav_ground.specs.Limits.{IsShape}
use Rattle.nav_ground.specs.declared.prism.PrismBase.{PrismBase}
use Rattle.nav_ground.specs.declared.shape.Shape.{Shape}
use Rattle.nav_ground.specs.declared.shape.Shape.TheVariants.{Block, Cylinder, AreaBlock, AreaCylinder, Prism, Disc}
use Rattle.nav_handle.specs.Looking.{no_block}
use Rattle.nav_handle.specs.Wire.{block_of, cylinder_of, point_of, point_told}
use Rattle.nav_handle.specs.declared.wire.NavdPoint.{NavdPoint}
use Rattle.registry_handle.specs.declared.solids.NavdDisc.{NavdDisc}
use Rattle.registry_handle.specs.declared.solids.NavdPrism.{NavdPrism}
use Rattle.registry_handle.specs.declared.solids.NavdSolid.{NavdSolid}

-- what stands in a place of a base with some corners: a corner, or behind the last of them the origin
abbrev pub corner_in : ℕ → ℕ → NavdPoint → Point
corner_in corners place corner = if nat_lt place corners then point_of corner else (record { x = pos 0; z = pos 0 })

-- the base of a prism
abbrev pub base_of : NavdPrism → PrismBase
base_of prism = record {
  count = prism.corners;
  corners = corner_in prism.corners 0 prism.first ∷ corner_in prism.corners 1 prism.second ∷ corner_in prism.corners 2 prism.third
      ∷ corner_in prism.corners 3 prism.fourth ∷ corner_in prism.corners 4 prism.fifth ∷ corner_in prism.corners 5 prism.sixth ∷ [];
}

-- a prism and a disc as shapes: with the area 0 they stop agents, with another they set it
abbrev pub prism_of : ℕ → NavdPrism → Shape
prism_of area prism = Prism (base_of prism) area prism.y0 prism.y1

abbrev pub disc_of : ℕ → NavdDisc → Shape
disc_of area disc = Disc disc.x disc.z disc.r area disc.y0 disc.y1

-- a solid as a shape, by its kind: a block, a cylinder, a prism, a disc; no other number is a kind
abbrev pub shape_by : ℕ → NavdSolid → Option Shape
shape_by kind solid =
    if kind == 0 then Some (block_of solid.area solid.block)
    else if kind == 1 then Some (cylinder_of solid.area solid.cylinder)
    else if kind == 2 then Some (prism_of solid.area solid.prism)
    else if kind == 3 then Some (disc_of solid.area solid.disc)
    else None

-- a solid is that of a shape, whose numbers are in their limits
pub record IsSolid (solid : NavdSolid) (shape : Shape) : Type 0 where
  pub is : shape_by solid.kind solid ≡ Some shape
  pub limits : IsShape shape

-- a solid of a kind with an area, all of whose numbers are 0
abbrev pub no_point : NavdPoint
no_point = record { x = pos 0; z = pos 0 }

abbrev pub blank : ℕ → ℕ → NavdSolid
blank kind area = record {
  kind = kind;
  area = area;
  block = no_block;
  cylinder = record { cx = 0; cz = 0; r = 0; y0 = 0; y1 = 0 };
  prism = record {
    corners = 0;
    first = no_point;
    second = no_point;
    third = no_point;
    fourth = no_point;
    fifth = no_point;
    sixth = no_point;
    y0 = 0;
    y1 = 0;
  };
  disc = record { x = pos 0; z = pos 0; r = 0; y0 = 0; y1 = 0 };
}

-- what is told of a prism: its corners, and the origin behind the last of them
abbrev pub corner_told : List Point → ℕ → NavdPoint
corner_told corners place = point_told (corner_at corners place)

abbrev pub prism_told : PrismBase → ℕ → ℕ → NavdPrism
prism_told base y0 y1 = record {
  corners = base.count;
  first = corner_told base.corners 0;
  second = corner_told base.corners 1;
  third = corner_told base.corners 2;
  fourth = corner_told base.corners 3;
  fifth = corner_told base.corners 4;
  sixth = corner_told base.corners 5;
  y0 = y0;
  y1 = y1;
}

-- what is told of a shape
abbrev pub solid_told : Shape → NavdSolid
solid_told (Block x0 x1 y0 y1 z0 z1) = record (blank 0 0) { block = record { x0 = x0; x1 = x1; y0 = y0; y1 = y1; z0 = z0; z1 = z1 } }
solid_told (AreaBlock area x0 x1 y0 y1 z0 z1) =
    record (blank 0 area) { block = record { x0 = x0; x1 = x1; y0 = y0; y1 = y1; z0 = z0; z1 = z1 } }
solid_told (Cylinder cx cz r y0 y1) = record (blank 1 0) { cylinder = record { cx = cx; cz = cz; r = r; y0 = y0; y1 = y1 } }
solid_told (AreaCylinder area cx cz r y0 y1) = record (blank 1 area) { cylinder = record { cx = cx; cz = cz; r = r; y0 = y0; y1 = y1 } }
solid_told (Prism base area y0 y1) = record (blank 2 area) { prism = prism_told base y0 y1 }
solid_told (Disc x z r area y0 y1) = record (blank 3 area) { disc = record { x = x; z = z; r = r; y0 = y0; y1 = y1 } }
