-- HandSettings: what the meshes that are written out have in common: 8 by 4 columns in two tiles side by side, points, and triangles.
use Rattle.std.specs.Prelude.{ℕ, pos, List, [], ◌∷◌, replicate, false}
use Rattle.nav_base.specs.declared.point.Point.{Point}
use Rattle.nav_ground.specs.declared.setting.Setting.{Setting}
use Rattle.nav_ground.specs.declared.setting.MeshKind.TheVariants.{Strips}
use Rattle.mesh_types.specs.declared.polygon.Polygon.{Polygon}

-- the setting, by what its areas cost
abbrev pub hand_setting : List ℕ → Setting
hand_setting costs = record {
  width = 8;
  depth = 4;
  tile = 4;
  agent = record { height = 8; climb = 3; radius = 0 };
  error = 100;
  mesh = Strips;
  limit = 9;
  costs = costs;
  clear = false;
}

-- where each area costs 1
abbrev pub plain_setting : Setting
plain_setting = hand_setting (replicate 64 1)

-- where the area 2 costs 3
abbrev pub costly_setting : Setting
costly_setting = hand_setting (1 ∷ 1 ∷ 3 ∷ replicate 61 1)

abbrev pub point : ℕ → ℕ → Point
point x z = record { x = pos x; z = pos z }

-- a triangle with floors from a height to another
abbrev pub triangle : ℕ → ℕ → ℕ → Point → Point → Point → Polygon
triangle area low high a b c = record { corners = a ∷ b ∷ c ∷ []; area = area; low = low; high = high }
