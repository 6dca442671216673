-- The rules of what is written out: the setting, and points and triangles in one of its two tiles.
use Rattle.std.proofs.Common.{◌≡◌, ℕ, ◌+◌, ◌≤◌, pos, ◌<ℤ◌, List, [], ◌∷◌, length, refl, arith}
use Rattle.std.specs.Prelude.{All, IsTrue}
use Rattle.std.specs.List.{list_all}
use Rattle.std.proofs.lemmas.Int.{ints}
use Rattle.std.proofs.lemmas.List.Elements.{All-nil, All-cons}
use Rattle.nav_base.specs.declared.point.Point.{Point}
use Rattle.nav_base.specs.Point.{IsCellCorner, orient_of}
use Rattle.nav_base.proofs.ConvexLaws.{IsStrictlyConvex-triangle}
use Rattle.nav_ground.specs.Limits.{IsSetting, IsArea, is_cost}
use Rattle.mesh_types.specs.FitTiles.{IsPolygon, IsInSquare}
use Rattle.tests_mesh.specs.HandSettings.{hand_setting, plain_setting, costly_setting, point, triangle}

IsSetting-hand : (costs : List ℕ) → length costs ≡ 64 → IsTrue (list_all is_cost costs) → IsSetting (hand_setting costs)
IsSetting-hand costs areas in_limits = record {
  wide = omega arith;
  width = omega arith;
  deep = omega arith;
  depth = omega arith;
  tile_least = omega arith;
  tile_most = omega arith;
  agent = record { stands = omega arith; low_enough = omega arith; climb = omega arith; radius = omega arith };
  error = omega arith;
  limit_least = omega arith;
  limit_most = omega arith;
  areas = areas;
  costs = in_limits;
  clear = λ is. omega arith;
}

pub IsSetting-plain : IsSetting plain_setting
IsSetting-plain = IsSetting-hand _ refl refl

pub IsSetting-costly : IsSetting costly_setting
IsSetting-costly = IsSetting-hand _ refl refl

-- what holds of three points, and of four
pub three : (P : Point → Type 0) (a b c : Point) → P a → P b → P c → All P (a ∷ b ∷ c ∷ [])
three P a b c pa pb pc = All-cons P a (b ∷ c ∷ []) pa (All-cons P b (c ∷ []) pb (All-cons P c [] pc (All-nil P)))

pub four : (P : Point → Type 0) (a b c d : Point) → P a → P b → P c → P d → All P (a ∷ b ∷ c ∷ d ∷ [])
four P a b c d pa pb pc pd = All-cons P a (b ∷ c ∷ d ∷ []) pa (three P b c d pb pc pd)

pub corner : (x z : ℕ) → x ≤ 8 → z ≤ 8 → IsCellCorner (point x z)
corner x z across along = record { left = omega (arith, ints); right = omega (arith, ints); bottom = omega (arith, ints); top = omega (arith, ints) }

-- the square of four columns and rows from a column on
pub in_square : (x0 x z : ℕ) → x0 ≤ x → x ≤ x0 + 4 → z ≤ 4 → IsInSquare (record { x0 = pos x0; x1 = pos (x0 + 3); z0 = pos 0; z1 = pos 3 }) (point x z)
in_square x0 x z least most high = record { left = omega (arith, ints); right = omega (arith, ints); bottom = omega (arith, ints); top = omega (arith, ints) }

pub triangle_fits : (area low high : ℕ) (a b c : Point) → IsArea area → low ≤ high → high ≤ 11 → IsCellCorner a → IsCellCorner b → IsCellCorner c
    → pos 0 <ℤ orient_of a b c → IsPolygon (triangle area low high a b c)
triangle_fits area low high a b c is_area floors most ha hb hc left = record {
  convex = IsStrictlyConvex-triangle _ _ _ left;
  most = omega arith;
  corners = three IsCellCorner a b c ha hb hc;
  area = is_area;
  floors = floors;
  high = omega (arith, most);
}
