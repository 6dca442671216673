-- The two tiles that are written out are fit for their setting.
use Rattle.std.proofs.Common.{◌≡◌, ℕ, zero, suc, ◌+◌, ◌<◌, ◌≤◌, ℤ, pos, negsuc, ◌<ℤ◌, Bool, true, List, [], ◌∷◌, length, get_or, ap, ◌∙◌, sym, refl, subst, arith, inl, inr}
use Rattle.std.specs.Prelude.{All, ◌==◌, ◌||◌}
use Rattle.std.specs.List.{list_all, range_with_len}
use Rattle.std.specs.Int.Signed.{lt_z}
use Rattle.std.proofs.lemmas.Int.{ints}
use Rattle.std.proofs.lemmas.Bool.{and_parts, or_cases, eqb-true}
use Rattle.std.proofs.lemmas.List.Elements.{All-nil, All-cons}
use Rattle.nav_base.specs.declared.point.Point.{Point}
use Rattle.nav_base.specs.Point.{IsCellCorner, orient_of, cross_of}
use Rattle.nav_base.specs.Convex.{IsStrictlyConvex, LiesLeft, place_after, side_of_edge}
use Rattle.nav_ground.specs.declared.cell.Window.{Window}
use Rattle.nav_ground.specs.Tiling.{tile_count, tile_window}
use Rattle.nav_ground.proofs.Literals.{IsCut-shown}
use Rattle.mesh_types.specs.declared.polygon.Polygon.{Polygon}
use Rattle.mesh_types.specs.declared.mesh.TileMesh.{TileMesh}
use Rattle.mesh_types.specs.FitTiles.{IsPolygon, IsInSquare, IsRimOf, IsFit}
use Rattle.mesh_types.specs.Soundness.{AreTiles}
use Rattle.tests_mesh.specs.HandSettings.{plain_setting, point}
use Rattle.tests_mesh.specs.TwoTiles.{hand_polygon, hand_tile, left_tile, right_tile, left_entry, lower_entry, upper_entry}
use Rattle.tests_mesh.proofs.HandSettings.{four, corner, in_square}
use Rattle.mesh_types.specs.WholeMesh.{mesh_of}
use Rattle.tile_links.specs.Across.{AreAcross}
use Rattle.tile_links.specs.NewTiles.{New, AreNew, IsWhole}

-- a test of every number below a number
each_below : (p : ℕ → Bool) (a n : ℕ) → list_all p (range_with_len a n) ≡ true → (i : ℕ) → i < n → p (a + i) ≡ true
each_below p a zero holds i there = absurd (omega (arith, there))
each_below p a (suc n) holds zero there =
    ap p {x = a + zero} {y = a} (omega arith) ∙ (and_parts (p a) (list_all p (range_with_len (a + 1) n)) holds).0
each_below p a (suc n) holds (suc i) there =
    ap p {x = a + suc i} {y = (a + 1) + i} (omega arith)
    ∙ each_below p (a + 1) n (and_parts (p a) (list_all p (range_with_len (a + 1) n)) holds).1 i (omega (arith, there))

-- strict convexity as a test
is_left : List Point → ℕ → ℕ → Bool
is_left corners i j = j == i || (j == place_after (length corners) i || lt_z (pos 0) (side_of_edge corners i j))

is_convex : List Point → Bool
is_convex corners = list_all (λ i. list_all (is_left corners i) (range_with_len 0 (length corners))) (range_with_len 0 (length corners))

positive : (n : ℤ) → lt_z (pos 0) n ≡ true → pos 0 <ℤ n
positive (pos zero) is = absurd cc
positive (pos (suc n)) is = omega (arith, ints)
positive (negsuc n) is = absurd cc

left_shown : (corners : List Point) (i j : ℕ) → is_left corners i j ≡ true → LiesLeft corners i j
unfolding is_left
left_shown corners i j holds apart apart' = elim (or_cases (j == i) _ holds) [
  | inl same ↦ absurd (apart (eqb-true j i same))
  | inr other ↦ elim (or_cases (j == place_after (length corners) i) _ other) [
    | inl same ↦ absurd (apart' (eqb-true j _ same))
    | inr left ↦ positive (side_of_edge corners i j) left
  ]
]

convex_shown : (corners : List Point) → 3 ≤ length corners → is_convex corners ≡ true → IsStrictlyConvex corners
unfolding is_convex
convex_shown corners enough holds = record {
  enough = enough;
  left = λ i i_there j j_there.
      left_shown corners i j
      (subst (λ (n : ℕ). is_left corners i n ≡ true) {x = 0 + j} {y = j} (omega arith)
      (each_below (is_left corners i) 0 (length corners)
      (subst (λ (n : ℕ). list_all (is_left corners n) (range_with_len 0 (length corners)) ≡ true) {x = 0 + i} {y = i} (omega arith)
      (each_below (λ n. list_all (is_left corners n) (range_with_len 0 (length corners))) 0 (length corners) holds i i_there)) j j_there));
}

polygon_fits : (x : ℕ) → x ≤ 4 → IsStrictlyConvex (hand_polygon x).corners → IsPolygon (hand_polygon x)
polygon_fits x small convex = record {
  convex = convex;
  most = omega arith;
  corners = four IsCellCorner (point x 0) (point (x + 2) 0) (point (x + 2) 4) (point x 4)
      (corner x 0 (omega arith) (omega arith)) (corner (x + 2) 0 (omega arith) (omega arith))
      (corner (x + 2) 4 (omega arith) (omega arith)) (corner x 4 (omega arith) (omega arith));
  area = record { least = omega arith; most = omega arith };
  floors = omega arith;
  high = omega arith;
}

left_polygon : IsPolygon (hand_polygon 2)
unfolding orient_of cross_of is_convex is_left
left_polygon = polygon_fits 2 (omega arith) (convex_shown _ (omega arith) refl)

right_polygon : IsPolygon (hand_polygon 4)
unfolding orient_of cross_of is_convex is_left
right_polygon = polygon_fits 4 (omega arith) (convex_shown _ (omega arith) refl)

-- the polygons lie in the squares of the tiles
squared : (x0 x : ℕ) (window : Window) → window ≡ record { x0 = pos x0; x1 = pos (x0 + 3); z0 = pos 0; z1 = pos 3 } → x0 ≤ x → x + 2 ≤ x0 + 4
    → All (IsInSquare window) (hand_polygon x).corners
squared x0 x window is least most =
    subst (λ (w : Window). All (IsInSquare w) (hand_polygon x).corners) (sym is)
    (four (IsInSquare (record { x0 = pos x0; x1 = pos (x0 + 3); z0 = pos 0; z1 = pos 3 })) (point x 0) (point (x + 2) 0) (point (x + 2) 4) (point x 4)
    (in_square x0 x 0 (omega arith) (omega arith) (omega arith)) (in_square x0 (x + 2) 0 (omega arith) (omega arith) (omega arith))
    (in_square x0 (x + 2) 4 (omega arith) (omega arith) (omega arith)) (in_square x0 x 4 (omega arith) (omega arith) (omega arith)))

left_fits : IsFit plain_setting left_tile
left_fits = record {
  of_tile = refl;
  free = IsCut-shown [] refl;
  in_tile = record { there = omega arith; inside = All-nil _ };
  polys = All-cons IsPolygon (hand_polygon 2) [] left_polygon (All-nil IsPolygon);
  square = All-cons (λ (polygon : Polygon). All (IsInSquare (tile_window plain_setting 0)) polygon.corners) (hand_polygon 2) []
      (squared 0 2 (tile_window plain_setting 0) refl (omega arith) (omega arith)) (All-nil _);
  links = All-nil _;
  rim = All-cons (IsRimOf plain_setting left_tile) left_entry []
      (record {
        side = omega arith;
        polygon = hand_polygon 2;
        is_there = refl;
        edge = omega arith;
        lies = (refl, refl);
        runs = λ some. (omega (arith, ints), omega (arith, ints));
      }) (All-nil _);
}

right_fits : IsFit plain_setting right_tile
right_fits = record {
  of_tile = refl;
  free = IsCut-shown [] refl;
  in_tile = record { there = omega arith; inside = All-nil _ };
  polys = All-cons IsPolygon (hand_polygon 4) (hand_polygon 4 ∷ []) right_polygon (All-cons IsPolygon (hand_polygon 4) [] right_polygon (All-nil IsPolygon));
  square =
      let fits = squared 4 4 (tile_window plain_setting 1) refl (omega arith) (omega arith) in
      All-cons (λ (polygon : Polygon). All (IsInSquare (tile_window plain_setting 1)) polygon.corners) (hand_polygon 4) (hand_polygon 4 ∷ []) fits
      (All-cons (λ (polygon : Polygon). All (IsInSquare (tile_window plain_setting 1)) polygon.corners) (hand_polygon 4) [] fits (All-nil _));
  links = All-nil _;
  rim = All-cons (IsRimOf plain_setting right_tile) lower_entry (upper_entry ∷ [])
      (record {
        side = omega arith;
        polygon = hand_polygon 4;
        is_there = refl;
        edge = omega arith;
        lies = (refl, refl);
        runs = λ some. (omega (arith, ints), omega (arith, ints));
      })
      (All-cons (IsRimOf plain_setting right_tile) upper_entry []
      (record {
        side = omega arith;
        polygon = hand_polygon 4;
        is_there = refl;
        edge = omega arith;
        lies = (refl, refl);
        runs = λ some. (omega (arith, ints), omega (arith, ints));
      }) (All-nil _));
}

pub AreTiles-hand : AreTiles plain_setting (left_tile ∷ right_tile ∷ [])
AreTiles-hand = record {
  each = refl;
  in_order = numbered;
  fit = All-cons (IsFit plain_setting) left_tile (right_tile ∷ []) left_fits
      (All-cons (IsFit plain_setting) right_tile [] right_fits (All-nil (IsFit plain_setting)));
  few = omega arith;
}
  where
    numbered : (t : ℕ) (d : TileMesh) → t < 2 → (get_or (left_tile ∷ right_tile ∷ []) t d).tile ≡ t
    numbered zero d there = refl
    numbered (suc zero) d there = refl
    numbered (suc (suc t)) d there = absurd (omega (arith, there))

pub AreAcross-right : AreAcross left_tile right_tile 2
AreAcross-right = record { setting = plain_setting; across = refl; first_fit = left_fits; second_fit = right_fits }

pub AreAcross-left : AreAcross right_tile left_tile 0
AreAcross-left = record { setting = plain_setting; across = refl; first_fit = right_fits; second_fit = left_fits }

empty_fits : IsFit plain_setting (hand_tile 1 [] [])
empty_fits = record {
  of_tile = refl;
  free = IsCut-shown [] refl;
  in_tile = record { there = omega arith; inside = All-nil _ };
  polys = All-nil _;
  square = All-nil _;
  links = All-nil _;
  rim = All-nil _;
}

pub AreNew-hand : AreNew plain_setting ((1, hand_tile 1 [] []) ∷ [])
AreNew-hand = record {
  rising = λ i j d before there. absurd (omega (arith, before, there));
  there = All-cons (λ (new : New). new.0 < tile_count plain_setting) (1, hand_tile 1 [] []) [] (omega arith) (All-nil _);
  own = All-cons (λ (new : New). new.1.tile ≡ new.0) (1, hand_tile 1 [] []) [] refl (All-nil _);
  fit = All-cons (λ (new : New). IsFit plain_setting new.1) (1, hand_tile 1 [] []) [] empty_fits (All-nil _);
}

pub IsWhole-hand : IsWhole (mesh_of plain_setting (left_tile ∷ right_tile ∷ []))
unfolding mesh_of
IsWhole-hand = record { tiles = AreTiles-hand; is = refl }
