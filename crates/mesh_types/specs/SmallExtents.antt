-- SmallExtents: how an extent lies in small numbers.
use Rattle.std.specs.Prelude.{◌≡◌, pos, unsigned_abs}
use Rattle.std.proofs.Common.{refl}
use Rattle.mesh_types.specs.declared.extent.Extent.{Extent}
use Rattle.mesh_types.specs.declared.extents.PackedExtent.TheInside.{Inside}

-- the extent that the small numbers stand for
abbrev pub extent_view : Inside → Extent
extent_view inside = record {
  low = record { x = pos inside.left; z = pos inside.bottom };
  high = record { x = pos inside.right; z = pos inside.top };
  area = inside.area;
}

-- the small numbers of an extent
abbrev pub extent_inverse : Extent → Inside
extent_inverse extent = record {
  left = unsigned_abs extent.low.x;
  bottom = unsigned_abs extent.low.z;
  right = unsigned_abs extent.high.x;
  top = unsigned_abs extent.high.z;
  area = extent.area;
}

-- the extent gives the numbers back
pub extent_back : (inside : Inside) → extent_inverse (extent_view inside) ≡ inside
extent_back inside = refl
