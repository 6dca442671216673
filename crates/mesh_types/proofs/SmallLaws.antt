-- Which polygons fit into small numbers, and that their extents do.
use Rattle.std.proofs.Common.{◌≡◌, ℕ, ℤ, ◌+◌, ◌-◌, ◌<◌, ◌≤◌, true, false, List, [], ◌∷◌, length, replicate, take, get_or, ap, subst, arith, refl, sym, ◌∙◌, ◌↔◌, Option, None, IsNone, is_some, inl, inr, rules}
use Rattle.std.specs.List.{All}
use Rattle.std.proofs.lemmas.Int.{fold-int_min_reached, fold-int_max_reached}
use Rattle.std.proofs.lemmas.Bool.{both_ways}
use Rattle.std.proofs.lemmas.List.{take_all}
use Rattle.std.proofs.Math.Seq.{take-append_seam}
use Rattle.std.proofs.lemmas.List.Elements.{All-append, All-replicate, All-nil, All-more, All-take, All-map, All-contains}
use Rattle.nav_base.specs.declared.point.Point.{Point}
use Rattle.mesh_types.specs.declared.polygon.Polygon.{Polygon}
use Rattle.mesh_types.specs.declared.polygon.Corners.TheInside.{Inside}
use Rattle.mesh_types.specs.Inline.{IsInline, origin, corners_inverse}
use Rattle.nav_base.specs.Convex.{corner_at}
use Rattle.mesh_types.specs.Extents.{least_of, greatest_of, extent_of}
use Rattle.mesh_types.specs.SmallNumbers.{IsSmallCoordinate, IsSmallPoint, IsSmallPolygon, IsSmallExtent, IsSmallArea, IsSmallFloor, AreSmallPolygons, HaveSmallExtents}

-- the point that fills the places after the last is small
small_origin : IsSmallPoint origin
small_origin = search rules

-- the six places of small corners are small
places_small : (corners : List Point) (places : Inside) → corners_inverse corners ≡ places → All IsSmallPoint corners → All IsSmallPoint places.points
places_small corners places are small =
    subst (λ (inside : Inside). All IsSmallPoint inside.points) are
    (All-append IsSmallPoint corners (replicate (6 - length corners) origin) small (All-replicate IsSmallPoint (6 - length corners) origin small_origin))

-- corners are small where their six places are
corners_small : (corners : List Point) (places : Inside) → corners_inverse corners ≡ places → All IsSmallPoint places.points → All IsSmallPoint corners
corners_small corners places are small =
    subst (All IsSmallPoint) (take-append_seam corners (replicate (6 - length corners) origin))
    (All-take IsSmallPoint (length corners) _ (subst (λ (inside : Inside). All IsSmallPoint inside.points) (sym are) small))

-- a polygon of which one of the six places is not small is refused
pub place_refused : {X : Type 0} (result : Option X) (polygon : Polygon) (places : Inside) (place : ℕ) (d : Point) → result ≡ None
    → corners_inverse polygon.corners ≡ places → IsInline (corners_inverse polygon.corners) → place < 6
    → (IsSmallPoint (get_or places.points place d) → ⊥) → IsNone result ↔ (IsSmallPolygon polygon → ⊥)
place_refused result polygon places place d none are inline there great =
    let size = ap (λ (inside : Inside). length inside.points) are in (
      λ _ small. great (places_small polygon.corners places are small.corners place d (omega (arith, there, inline.size, size))),
      λ _. ap is_some none,
    )

-- six points are small where each is
all_six : (points : List Point) (d : Point) → length points ≡ 6
    → IsSmallPoint (get_or points 0 d) → IsSmallPoint (get_or points 1 d) → IsSmallPoint (get_or points 2 d)
    → IsSmallPoint (get_or points 3 d) → IsSmallPoint (get_or points 4 d) → IsSmallPoint (get_or points 5 d) → All IsSmallPoint points
all_six points d size first second third fourth fifth sixth =
    let more = All-more IsSmallPoint points in
    subst (All IsSmallPoint) (take_all 6 points (omega (arith, size)))
    (more 5 d (omega (arith, size)) (more 4 d (omega (arith, size)) (more 3 d (omega (arith, size)) (more 2 d (omega (arith, size))
    (more 1 d (omega (arith, size)) (more 0 d (omega (arith, size)) (All-nil IsSmallPoint) first) second) third) fourth) fifth) sixth)

-- a fact of which the contrary makes a refusal of what was given
abbrev pub IsSure : Type 0 → Type 0
IsSure fact = (fact → ⊥) → true ≡ false

-- one sure fact and then another
both : {A B : Type 0} → IsSure A → IsSure B → IsSure (A × B)
both a b not = a (λ x. both_ways true (b (λ y. not (x, y))) refl)

-- a polygon is small where its six places, its area and its floors are
pub sure_polygon : (polygon : Polygon) (places : Inside) (d : Point) → corners_inverse polygon.corners ≡ places → IsInline (corners_inverse polygon.corners)
    → IsSure (IsSmallPoint (get_or places.points 0 d)) → IsSure (IsSmallPoint (get_or places.points 1 d)) → IsSure (IsSmallPoint (get_or places.points 2 d))
    → IsSure (IsSmallPoint (get_or places.points 3 d)) → IsSure (IsSmallPoint (get_or places.points 4 d)) → IsSure (IsSmallPoint (get_or places.points 5 d))
    → IsSure (IsSmallArea polygon.area) → IsSure (IsSmallFloor polygon.low) → IsSure (IsSmallFloor polygon.high) → IsSure (IsSmallPolygon polygon)
sure_polygon polygon places d are inline first second third fourth fifth sixth area low high not =
    let size = sym (ap (λ (inside : Inside). length inside.points) are) ∙ inline.size in
    let points = both (both (both first second) (both third fourth)) (both fifth sixth) in
    both points (both area (both low high)) (λ all.
    let p = all.0 in
    not (record {
      corners = corners_small polygon.corners places are (all_six places.points d size p.0.0.0 p.0.0.1 p.0.1.0 p.0.1.1 p.1.0 p.1.1);
      area = all.1.0;
      low = all.1.1.0;
      high = all.1.1.1;
    }))

-- of some elements each is sure to have a fact: the elements so far, and one more
pub sure_more : {X : Type 0} (P : X → Type 0) (xs : List X) (i : ℕ) (d : X) → i < length xs → IsSure (All P (take i xs)) → IsSure (P (get_or xs i d))
    → IsSure (All P (take (i + 1) xs))
sure_more P xs i d there before this not = both before this (λ facts. not (All-more P xs i d there facts.0 facts.1))

-- where each is sure to have it, nothing is refused
pub sure_all : {X : Type 0} (P : X → Type 0) (xs : List X) (n : ℕ) → length xs ≤ n → IsSure (All P (take n xs))
    → (true ≡ false) ↔ (All P xs → ⊥)
sure_all {X = X} P xs n all sure = (λ refused. absurd (both_ways true refused refl), subst (λ (ys : List X). IsSure (All P ys)) (take_all n xs all) sure)

-- the least and the greatest of small coordinates are small
least_small : (first : ℤ) (numbers : List ℤ) → IsSmallCoordinate first → All IsSmallCoordinate numbers → IsSmallCoordinate (least_of first numbers)
least_small first numbers small all =
    elim (fold-int_min_reached first numbers (least_of first numbers) refl) [
      | inl is ↦ subst IsSmallCoordinate (sym is) small
      | inr has ↦ All-contains IsSmallCoordinate numbers (least_of first numbers) all has
    ]

greatest_small : (first : ℤ) (numbers : List ℤ) → IsSmallCoordinate first → All IsSmallCoordinate numbers → IsSmallCoordinate (greatest_of first numbers)
greatest_small first numbers small all =
    elim (fold-int_max_reached first numbers (greatest_of first numbers) refl) [
      | inl is ↦ subst IsSmallCoordinate (sym is) small
      | inr has ↦ All-contains IsSmallCoordinate numbers (greatest_of first numbers) all has
    ]

-- the first of small corners, or the origin where there is none, is small
first_small : (corners : List Point) → All IsSmallPoint corners → IsSmallPoint (corner_at corners 0)
first_small [] all = small_origin
first_small (corner ∷ corners) all = all 0 origin (omega arith)

-- the extent of a small polygon is small
pub extent_small : (polygon : Polygon) → IsSmallPolygon polygon → IsSmallExtent (extent_of polygon)
extent_small polygon small =
    let first = first_small polygon.corners small.corners in
    let xs = All-map IsSmallCoordinate (λ (p : Point). p.x) polygon.corners (λ k d there. (small.corners k d there).0) in
    let zs = All-map IsSmallCoordinate (λ (p : Point). p.z) polygon.corners (λ k d there. (small.corners k d there).1) in
    record {
      low = (least_small _ _ first.0 xs, least_small _ _ first.1 zs);
      high = (greatest_small _ _ first.0 xs, greatest_small _ _ first.1 zs);
      area = small.area;
    }

-- polygons are refused where their extents are
pub extents_refused : (polygons : List Polygon) → (HaveSmallExtents polygons → ⊥) → (false ≡ false) ↔ (AreSmallPolygons polygons → ⊥)
extents_refused polygons great = (λ _ small. great (λ k d there. extent_small _ (small k d there)), λ _. refl)
