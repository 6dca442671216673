-- The mesh that is written out is sound.
use Rattle.std.proofs.Common.{◌≡◌, ℕ, zero, suc, ◌<◌, ◌≤◌, true, List, [], ◌∷◌, length, get_or, refl, arith}
use Rattle.std.specs.Prelude.{All}
use Rattle.std.proofs.lemmas.Int.{ints}
use Rattle.std.proofs.lemmas.List.Elements.{All-nil, All-cons}
use Rattle.nav_base.specs.declared.point.Point.{Point}
use Rattle.nav_base.specs.Point.{IsCellCorner, orient_of, cross_of}
use Rattle.nav_ground.specs.Tiling.{tile_window}
use Rattle.nav_ground.proofs.Literals.{IsCut-shown}
use Rattle.mesh_types.specs.declared.links.Link.{Link}
use Rattle.mesh_types.specs.declared.polygon.Polygon.{Polygon}
use Rattle.mesh_types.specs.declared.mesh.TileMesh.{TileMesh}
use Rattle.mesh_types.specs.Merging.{is_convex}
use Rattle.mesh_types.specs.FitTiles.{IsPolygon, IsInSquare, IsFit}
use Rattle.mesh_types.specs.Soundness.{IsSound, IsCrossLink}
use Rattle.mesh_types.proofs.MergeLaws.{is_convex-is}
use Rattle.tests_paths.specs.PartMesh.{one_tile, point, flat, left_cell, right_cell, wedge, sliver, hand_tile, hand_mesh}

-- a point of the field, in its one tile
pub record IsInField (p : Point) : Type 0 where
  pub corner : IsCellCorner p
  pub square : IsInSquare (tile_window one_tile 0) p

in_field : (x z : ℕ) → x ≤ 8 → z ≤ 4 → IsInField (point x z)
in_field x z across along = record {
  corner = record { left = omega (arith, ints); right = omega (arith, ints); bottom = omega (arith, ints); top = omega (arith, ints) };
  square = record { left = omega (arith, ints); right = omega (arith, ints); bottom = omega (arith, ints); top = omega (arith, ints) };
}

three : (P : Point → Type 0) (a b c : Point) → P a → P b → P c → All P (a ∷ b ∷ c ∷ [])
three P a b c pa pb pc = All-cons P a (b ∷ c ∷ []) pa (All-cons P b (c ∷ []) pb (All-cons P c [] pc (All-nil P)))

four : (P : Point → Type 0) (a b c d : Point) → P a → P b → P c → P d → All P (a ∷ b ∷ c ∷ d ∷ [])
four P a b c d pa pb pc pd = All-cons P a (b ∷ c ∷ d ∷ []) pa (three P b c d pb pc pd)

-- what a polygon must keep
pub record IsProper (corners : List Point) : Type 0 where
  pub convex : is_convex corners ≡ true
  pub few : length corners ≤ 6
  pub inside : All IsInField corners

left_proper : IsProper left_cell
unfolding is_convex orient_of cross_of
left_proper = record {
  convex = refl;
  few = omega arith;
  inside = four IsInField (point 0 0) (point 1 0) (point 1 1) (point 0 1) (in_field 0 0 (omega arith) (omega arith)) (in_field 1 0 (omega arith) (omega arith))
      (in_field 1 1 (omega arith) (omega arith)) (in_field 0 1 (omega arith) (omega arith));
}

right_proper : IsProper right_cell
unfolding is_convex orient_of cross_of
right_proper = record {
  convex = refl;
  few = omega arith;
  inside = four IsInField (point 1 0) (point 2 0) (point 2 1) (point 1 1) (in_field 1 0 (omega arith) (omega arith)) (in_field 2 0 (omega arith) (omega arith))
      (in_field 2 1 (omega arith) (omega arith)) (in_field 1 1 (omega arith) (omega arith));
}

wedge_proper : IsProper wedge
unfolding is_convex orient_of cross_of
wedge_proper = record {
  convex = refl;
  few = omega arith;
  inside = three IsInField (point 0 0) (point 5 2) (point 2 1) (in_field 0 0 (omega arith) (omega arith)) (in_field 5 2 (omega arith) (omega arith))
      (in_field 2 1 (omega arith) (omega arith));
}

sliver_proper : IsProper sliver
unfolding is_convex orient_of cross_of
sliver_proper = record {
  convex = refl;
  few = omega arith;
  inside = three IsInField (point 0 0) (point 5 2) (point 7 3) (in_field 0 0 (omega arith) (omega arith)) (in_field 5 2 (omega arith) (omega arith))
      (in_field 7 3 (omega arith) (omega arith));
}

is_polygon : (corners : List Point) → IsProper corners → IsPolygon (flat corners)
is_polygon corners is = record {
  convex = is_convex-is corners is.convex;
  most = is.few;
  corners = λ i d there. (is.inside i d there).corner;
  area = record { least = omega arith; most = omega arith };
  floors = omega arith;
  high = omega arith;
}

-- what holds of each of the four
each_polygon : (P : Polygon → Type 0) → ((corners : List Point) → IsProper corners → P (flat corners)) → All P hand_tile.polys
each_polygon P all =
    All-cons P (flat left_cell) (flat right_cell ∷ flat wedge ∷ flat sliver ∷ []) (all left_cell left_proper)
    (All-cons P (flat right_cell) (flat wedge ∷ flat sliver ∷ []) (all right_cell right_proper)
    (All-cons P (flat wedge) (flat sliver ∷ []) (all wedge wedge_proper) (All-cons P (flat sliver) [] (all sliver sliver_proper) (All-nil P))))

tile_fits : IsFit one_tile hand_tile
tile_fits = record {
  of_tile = refl;
  free = IsCut-shown [] refl;
  in_tile = record { there = omega arith; inside = All-nil _ };
  polys = each_polygon IsPolygon is_polygon;
  square = each_polygon (λ (polygon : Polygon). All (IsInSquare (tile_window one_tile 0)) polygon.corners) (λ corners is i d there. (is.inside i d there).square);
  links = All-nil _;
  rim = All-nil _;
}

pub IsSound-parts : IsSound hand_mesh
IsSound-parts = record {
  tiles = record {
    each = refl;
    in_order = numbered;
    fit = All-cons (IsFit one_tile) hand_tile [] tile_fits (All-nil (IsFit one_tile));
    few = omega arith;
  };
  one_each = refl;
  cross = none;
}
  where
    numbered : (t : ℕ) (d : TileMesh) → t < 1 → (get_or (hand_tile ∷ []) t d).tile ≡ t
    numbered zero d there = refl
    numbered (suc t) d there = absurd (omega (arith, there))

    none : (t : ℕ) (d : List Link) → t < 1 → All (IsCrossLink hand_mesh t) (get_or ([] ∷ []) t d)
    none zero d there = All-nil _
    none (suc t) d there = absurd (omega (arith, there))
