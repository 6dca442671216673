-- The mesh that is written out is sound.
use Rattle.std.proofs.Common.{◌≡◌, ℕ, zero, suc, ◌+◌, ◌<◌, ◌≤◌, pos, ◌<ℤ◌, List, [], ◌∷◌, get_or, refl, arith, subst, sym}
use Rattle.std.specs.Prelude.{All}
use Rattle.std.proofs.lemmas.Int.{ints}
use Rattle.std.proofs.lemmas.List.Elements.{All-nil, All-cons}
use Rattle.nav_base.specs.Point.{orient_of, cross_of}
use Rattle.nav_ground.specs.declared.cell.Window.{Window}
use Rattle.nav_ground.specs.Tiling.{tile_window}
use Rattle.nav_ground.proofs.Literals.{IsCut-shown}
use Rattle.mesh_types.specs.declared.links.Link.{Link}
use Rattle.mesh_types.specs.declared.polygon.Polygon.{Polygon}
use Rattle.mesh_types.specs.declared.mesh.TileMesh.{TileMesh}
use Rattle.mesh_types.specs.FitTiles.{IsPolygon, IsInSquare, IsFit}
use Rattle.mesh_types.specs.Soundness.{IsSound, IsCrossLink}
use Rattle.tests_mesh.specs.HandSettings.{plain_setting, point}
use Rattle.tests_mesh.proofs.HandSettings.{three, corner, in_square, triangle_fits}
use Rattle.tests_paths.specs.PlaceMesh.{hand_polygon, left_tile, right_tile, hand_mesh}

polygon_fits : (x top low : ℕ) → x ≤ 4 → top ≤ 8 → low ≤ 9 → pos 0 <ℤ orient_of (point x 0) (point (x + 4) 0) (point top 4) → IsPolygon (hand_polygon x top low)
polygon_fits x top low across up floor left =
    triangle_fits 1 low (low + 2) _ _ _ (record { least = omega arith; most = omega arith }) (omega arith) (omega (arith, floor))
    (corner x 0 (omega (arith, across)) (omega arith)) (corner (x + 4) 0 (omega (arith, across)) (omega arith)) (corner top 4 up (omega arith)) left

low_polygon : IsPolygon (hand_polygon 0 4 0)
unfolding orient_of cross_of
low_polygon = polygon_fits 0 4 0 (omega arith) (omega arith) (omega arith) (omega (arith, ints))

high_polygon : IsPolygon (hand_polygon 0 4 4)
unfolding orient_of cross_of
high_polygon = polygon_fits 0 4 4 (omega arith) (omega arith) (omega arith) (omega (arith, ints))

other_polygon : IsPolygon (hand_polygon 4 4 0)
unfolding orient_of cross_of
other_polygon = polygon_fits 4 4 0 (omega arith) (omega arith) (omega arith) (omega (arith, ints))

squared : (x0 x top low : ℕ) (window : Window) → window ≡ record { x0 = pos x0; x1 = pos (x0 + 3); z0 = pos 0; z1 = pos 3 } → x0 ≡ x
    → x ≤ top → top ≤ x + 4 → All (IsInSquare window) (hand_polygon x top low).corners
squared x0 x top low window is at least most =
    subst (λ (w : Window). All (IsInSquare w) (hand_polygon x top low).corners) (sym is)
    (three (IsInSquare (record { x0 = pos x0; x1 = pos (x0 + 3); z0 = pos 0; z1 = pos 3 })) _ _ _
    (in_square x0 x 0 (omega (arith, at)) (omega (arith, at)) (omega arith)) (in_square x0 (x + 4) 0 (omega (arith, at)) (omega (arith, at)) (omega arith))
    (in_square x0 top 4 (omega (arith, at, least)) (omega (arith, at, most)) (omega arith)))

left_fits : IsFit plain_setting left_tile
left_fits = record {
  of_tile = refl;
  free = IsCut-shown [] refl;
  in_tile = record { there = omega arith; inside = All-nil _ };
  polys = All-cons IsPolygon (hand_polygon 0 4 0) (hand_polygon 0 4 4 ∷ []) low_polygon (All-cons IsPolygon (hand_polygon 0 4 4) [] high_polygon (All-nil IsPolygon));
  square = All-cons (λ (polygon : Polygon). All (IsInSquare (tile_window plain_setting 0)) polygon.corners) (hand_polygon 0 4 0) (hand_polygon 0 4 4 ∷ [])
      (squared 0 0 4 0 (tile_window plain_setting 0) refl refl (omega arith) (omega arith))
      (All-cons (λ (polygon : Polygon). All (IsInSquare (tile_window plain_setting 0)) polygon.corners) (hand_polygon 0 4 4) []
      (squared 0 0 4 4 (tile_window plain_setting 0) refl refl (omega arith) (omega arith)) (All-nil (λ (polygon : Polygon). All (IsInSquare (tile_window plain_setting 0)) polygon.corners)));
  links = All-nil _;
  rim = All-nil _;
}

right_fits : IsFit plain_setting right_tile
right_fits = record {
  of_tile = refl;
  free = IsCut-shown [] refl;
  in_tile = record { there = omega arith; inside = All-nil _ };
  polys = All-cons IsPolygon (hand_polygon 4 4 0) [] other_polygon (All-nil IsPolygon);
  square = All-cons (λ (polygon : Polygon). All (IsInSquare (tile_window plain_setting 1)) polygon.corners) (hand_polygon 4 4 0) []
      (squared 4 4 4 0 (tile_window plain_setting 1) refl refl (omega arith) (omega arith)) (All-nil (λ (polygon : Polygon). All (IsInSquare (tile_window plain_setting 1)) polygon.corners));
  links = All-nil _;
  rim = All-nil _;
}

pub IsSound-places : IsSound hand_mesh
IsSound-places = record {
  tiles = record {
    each = refl;
    in_order = numbered;
    fit = All-cons (IsFit plain_setting) left_tile (right_tile ∷ []) left_fits
        (All-cons (IsFit plain_setting) right_tile [] right_fits (All-nil (IsFit plain_setting)));
    few = omega arith;
  };
  one_each = refl;
  cross = none;
}
  where
    numbered : (t : ℕ) (d : TileMesh) → t < 2 → (get_or (left_tile ∷ right_tile ∷ []) t d).tile ≡ t
    numbered zero d there = refl
    numbered (suc zero) d there = refl
    numbered (suc (suc t)) d there = absurd (omega (arith, there))

    none : (t : ℕ) (d : List Link) → t < 2 → All (IsCrossLink hand_mesh t) (get_or ([] ∷ [] ∷ []) t d)
    none zero d there = All-nil _
    none (suc zero) d there = All-nil _
    none (suc (suc t)) d there = absurd (omega (arith, there))
