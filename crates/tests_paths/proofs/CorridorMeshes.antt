-- The mesh that is written out is sound.
use Rattle.std.proofs.Common.{◌≡◌, ℕ, zero, suc, ◌<◌, ◌≤◌, List, [], ◌∷◌, get_or, refl, arith}
use Rattle.std.specs.Prelude.{All}
use Rattle.std.proofs.lemmas.Int.{ints}
use Rattle.std.proofs.lemmas.List.Elements.{All-nil, All-cons}
use Rattle.nav_base.specs.Point.{orient_of, cross_of, dot_of}
use Rattle.nav_ground.specs.Limits.{IsArea}
use Rattle.nav_ground.specs.Tiling.{tile_window}
use Rattle.nav_ground.proofs.Literals.{IsCut-shown}
use Rattle.mesh_types.specs.declared.links.Link.{Link}
use Rattle.mesh_types.specs.declared.polygon.Polygon.{Polygon}
use Rattle.mesh_types.specs.declared.mesh.TileMesh.{TileMesh}
use Rattle.mesh_types.specs.FitTiles.{IsPolygon, IsInSquare, IsFit, IsInnerLink}
use Rattle.mesh_types.specs.Soundness.{IsSound, IsCrossLink}
use Rattle.mesh_types.specs.Portals.{IsPortalOut, IsPortalIn}
use Rattle.tests_mesh.specs.HandSettings.{costly_setting, point}
use Rattle.tests_mesh.proofs.HandSettings.{three, corner, in_square, triangle_fits}
use Rattle.tests_paths.specs.CorridorMesh.{left_lower, left_upper, right_lower, right_upper, down_link, border_link, up_link, left_tile, right_tile, hand_mesh}
use Rattle.corridor_search.specs.MeshGraphs.{IsThere}

two : (P : Polygon → Type 0) (a b : Polygon) → P a → P b → All P (a ∷ b ∷ [])
two P a b pa pb = All-cons P a (b ∷ []) pa (All-cons P b [] pb (All-nil P))

area : (n : ℕ) → 1 ≤ n → n ≤ 63 → IsArea n
area n least most = record { least = least; most = most }

left_lower-fits : IsPolygon left_lower
unfolding orient_of cross_of
left_lower-fits =
    triangle_fits 1 0 0 (point 0 0) (point 4 0) (point 4 4) (area 1 (omega arith) (omega arith)) (omega arith) (omega arith) (corner 0 0 (omega arith) (omega arith)) (corner 4 0 (omega arith) (omega arith))
    (corner 4 4 (omega arith) (omega arith)) (omega (arith, ints))

left_upper-fits : IsPolygon left_upper
unfolding orient_of cross_of
left_upper-fits =
    triangle_fits 1 0 0 (point 0 0) (point 4 4) (point 0 4) (area 1 (omega arith) (omega arith)) (omega arith) (omega arith) (corner 0 0 (omega arith) (omega arith)) (corner 4 4 (omega arith) (omega arith))
    (corner 0 4 (omega arith) (omega arith)) (omega (arith, ints))

right_lower-fits : IsPolygon right_lower
unfolding orient_of cross_of
right_lower-fits =
    triangle_fits 2 0 0 (point 4 0) (point 8 0) (point 4 4) (area 2 (omega arith) (omega arith)) (omega arith) (omega arith) (corner 4 0 (omega arith) (omega arith)) (corner 8 0 (omega arith) (omega arith))
    (corner 4 4 (omega arith) (omega arith)) (omega (arith, ints))

right_upper-fits : IsPolygon right_upper
unfolding orient_of cross_of
right_upper-fits =
    triangle_fits 1 0 0 (point 8 0) (point 8 4) (point 4 4) (area 1 (omega arith) (omega arith)) (omega arith) (omega arith) (corner 8 0 (omega arith) (omega arith)) (corner 8 4 (omega arith) (omega arith))
    (corner 4 4 (omega arith) (omega arith)) (omega (arith, ints))

-- the portals of the links lead out of one triangle and into another
down-out : IsPortalOut left_upper 0 down_link.portal
unfolding orient_of cross_of dot_of
down-out = record {
  there = omega arith;
  lies = record { begins = refl; ends = refl; after = omega (arith, ints); forward = omega (arith, ints); before = omega (arith, ints) };
}

down-in : IsPortalIn left_lower down_link.portal
unfolding orient_of cross_of dot_of
down-in = record {
  edge = 2;
  there = omega arith;
  lies = record { begins = refl; ends = refl; after = omega (arith, ints); forward = omega (arith, ints); before = omega (arith, ints) };
}

border-out : IsPortalOut left_lower 1 border_link.portal
unfolding orient_of cross_of dot_of
border-out = record {
  there = omega arith;
  lies = record { begins = refl; ends = refl; after = omega (arith, ints); forward = omega (arith, ints); before = omega (arith, ints) };
}

border-in : IsPortalIn right_lower border_link.portal
unfolding orient_of cross_of dot_of
border-in = record {
  edge = 2;
  there = omega arith;
  lies = record { begins = refl; ends = refl; after = omega (arith, ints); forward = omega (arith, ints); before = omega (arith, ints) };
}

up-out : IsPortalOut right_lower 1 up_link.portal
unfolding orient_of cross_of dot_of
up-out = record {
  there = omega arith;
  lies = record { begins = refl; ends = refl; after = omega (arith, ints); forward = omega (arith, ints); before = omega (arith, ints) };
}

up-in : IsPortalIn right_upper up_link.portal
unfolding orient_of cross_of dot_of
up-in = record {
  edge = 2;
  there = omega arith;
  lies = record { begins = refl; ends = refl; after = omega (arith, ints); forward = omega (arith, ints); before = omega (arith, ints) };
}

left_fits : IsFit costly_setting left_tile
left_fits = record {
  of_tile = refl;
  free = IsCut-shown [] refl;
  in_tile = record { there = omega arith; inside = All-nil _ };
  polys = two IsPolygon left_lower left_upper left_lower-fits left_upper-fits;
  square = two (λ (polygon : Polygon). All (IsInSquare (tile_window costly_setting 0)) polygon.corners) left_lower left_upper
      (three (IsInSquare (tile_window costly_setting 0)) (point 0 0) (point 4 0) (point 4 4) (in_square 0 0 0 (omega arith) (omega arith) (omega arith))
      (in_square 0 4 0 (omega arith) (omega arith) (omega arith)) (in_square 0 4 4 (omega arith) (omega arith) (omega arith)))
      (three (IsInSquare (tile_window costly_setting 0)) (point 0 0) (point 4 4) (point 0 4) (in_square 0 0 0 (omega arith) (omega arith) (omega arith))
      (in_square 0 4 4 (omega arith) (omega arith) (omega arith)) (in_square 0 0 4 (omega arith) (omega arith) (omega arith)));
  links = All-cons (IsInnerLink left_tile) down_link []
      (record {
        from_here = refl;
        to_here = refl;
        through = record { leaves = left_upper; is_left = refl; out = down-out; enters = left_lower; is_entered = refl; into = down-in };
      }) (All-nil (IsInnerLink left_tile));
  rim = All-nil _;
}

right_fits : IsFit costly_setting right_tile
right_fits = record {
  of_tile = refl;
  free = IsCut-shown [] refl;
  in_tile = record { there = omega arith; inside = All-nil _ };
  polys = two IsPolygon right_lower right_upper right_lower-fits right_upper-fits;
  square = two (λ (polygon : Polygon). All (IsInSquare (tile_window costly_setting 1)) polygon.corners) right_lower right_upper
      (three (IsInSquare (tile_window costly_setting 1)) (point 4 0) (point 8 0) (point 4 4) (in_square 4 4 0 (omega arith) (omega arith) (omega arith))
      (in_square 4 8 0 (omega arith) (omega arith) (omega arith)) (in_square 4 4 4 (omega arith) (omega arith) (omega arith)))
      (three (IsInSquare (tile_window costly_setting 1)) (point 8 0) (point 8 4) (point 4 4) (in_square 4 8 0 (omega arith) (omega arith) (omega arith))
      (in_square 4 8 4 (omega arith) (omega arith) (omega arith)) (in_square 4 4 4 (omega arith) (omega arith) (omega arith)));
  links = All-cons (IsInnerLink right_tile) up_link []
      (record {
        from_here = refl;
        to_here = refl;
        through = record { leaves = right_lower; is_left = refl; out = up-out; enters = right_upper; is_entered = refl; into = up-in };
      }) (All-nil (IsInnerLink right_tile));
  rim = All-nil _;
}

pub IsSound-corridors : IsSound hand_mesh
IsSound-corridors = record {
  tiles = record {
    each = refl;
    in_order = numbered;
    fit = All-cons (IsFit costly_setting) left_tile (right_tile ∷ []) left_fits
        (All-cons (IsFit costly_setting) right_tile [] right_fits (All-nil (IsFit costly_setting)));
    few = omega arith;
  };
  one_each = refl;
  cross = over_border;
}
  where
    numbered : (t : ℕ) (d : TileMesh) → t < 2 → (get_or (left_tile ∷ right_tile ∷ []) t d).tile ≡ t
    numbered zero d there = refl
    numbered (suc zero) d there = refl
    numbered (suc (suc t)) d there = absurd (omega (arith, there))

    over_border : (t : ℕ) (d : List Link) → t < 2 → All (IsCrossLink hand_mesh t) (get_or ((border_link ∷ []) ∷ [] ∷ []) t d)
    over_border zero d there =
        All-cons (IsCrossLink hand_mesh 0) border_link []
        (record {
          from_here = refl;
          to_another = λ is. omega (arith, is);
          through = record { leaves = left_lower; is_left = refl; out = border-out; enters = right_lower; is_entered = refl; into = border-in };
        }) (All-nil (IsCrossLink hand_mesh 0))
    over_border (suc zero) d there = All-nil _
    over_border (suc (suc t)) d there = absurd (omega (arith, there))

-- the four polygons are there
pub hand-there : (tile index : ℕ) → tile < 2 → index < 2 → IsThere hand_mesh (record { tile = tile; index = index })
hand-there zero zero t i = record { polygon = left_lower; is = refl }
hand-there zero (suc zero) t i = record { polygon = left_upper; is = refl }
hand-there zero (suc (suc k)) t i = absurd (omega (arith, i))
hand-there (suc zero) zero t i = record { polygon = right_lower; is = refl }
hand-there (suc zero) (suc zero) t i = record { polygon = right_upper; is = refl }
hand-there (suc zero) (suc (suc k)) t i = absurd (omega (arith, i))
hand-there (suc (suc k)) index t i = absurd (omega (arith, t))
