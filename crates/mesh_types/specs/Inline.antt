-- Inline: how up to six points lie in a record of fixed size.
use Rattle.std.specs.Prelude.{◌≡◌, ◌-◌, ◌≤◌, List, length, take, drop, replicate, ◌++◌, pos}
use Rattle.std.proofs.Common.{arith, refl}
use Rattle.std.proofs.lemmas.List.{length-take-le, take-append-drop}
use Rattle.nav_base.specs.declared.point.Point.{Point}
use Rattle.mesh_types.specs.declared.polygon.Corners.TheInside.{Inside}

-- the point that fills the places after the last
abbrev pub origin : Point
origin = record { x = pos 0; z = pos 0 }

-- six places, of which the first ones hold the points and the others the origin
pub record IsInline (inside : Inside) : Type 0 where
  pub few : inside.count ≤ 6
  pub size : length inside.points ≡ 6
  pub rest : drop inside.count inside.points ≡ replicate (6 - inside.count) origin

abbrev pub corners_view : Inside → List Point
corners_view inside = take inside.count inside.points

abbrev pub corners_inverse : List Point → Inside
corners_inverse points = record { points = points ++ replicate (6 - length points) origin; count = length points }

-- the points give the places back
pub corners_back : (inside : Inside) → IsInline inside → corners_inverse (corners_view inside) ≡ inside
corners_back inside h =
    let n : length (take inside.count inside.points) ≡ inside.count = length-take-le inside.count inside.points (omega (arith, h.few, h.size)) in
    rw (n, ← h.rest, take-append-drop inside.count inside.points) refl
