-- How many pieces a region's outline gives: no more than its contour has edges, each with at most six corners.
use Rattle.std.proofs.Common.{◌≡◌, ℕ, zero, suc, ◌+◌, ◌-◌, ◌*◌, ◌≤◌, Bool, true, false, List, [], ◌∷◌, take, drop, map, length, get_or, ap, refl, subst, arith, Option, Some, None}
use Rattle.std.specs.Prelude.{All, nat_le, nat_lt, slice_set, Result, Ok, Err, if◌then◌else◌}
use Rattle.std.specs.List.{sum_by, find, range_with_len}
use Rattle.std.specs.Option.{option_map_or}
use Rattle.std.proofs.Math.ListN.{length-set}
use Rattle.std.proofs.lemmas.Bool.{and_parts, leb-true, ltb-false}
use Rattle.std.proofs.lemmas.List.{length-append, length-drop, length-map, length-take}
use Rattle.std.proofs.lemmas.List.Concat.{length-flat_map}
use Rattle.std.proofs.lemmas.List.Elements.{All-append, All-drop, All-map, All-set, All-take}
use Rattle.std.proofs.lemmas.List.FromFn.{length-range_with_len}
use Rattle.std.proofs.lemmas.List.Sums.{count_by-le-length, length-filter, sum_by-le}
use Rattle.std.proofs.lemmas.Option.{none-some, same_Some}
use Rattle.nav_base.specs.declared.point.Point.{Point}
use Rattle.nav_base.specs.Convex.{corner_at}
use Rattle.nav_ground.specs.declared.cell.Cell.{Cell}
use Rattle.nav_ground.specs.declared.cell.CellRef.{CellRef}
use Rattle.nav_ground.specs.declared.cell.Window.{Window}
use Rattle.nav_ground.proofs.Kept.{few_kept}
use Rattle.mesh_types.specs.declared.region.RegionPart.{RegionPart}
use Rattle.mesh_types.specs.declared.region.Outline as outlines
use Rattle.mesh_types.specs.declared.region.Piece.{Piece}
use Rattle.mesh_types.specs.declared.region.Simplified.TheVariants.{Flat, Outline}
use Rattle.mesh_types.specs.declared.region.Triangle.{Triangle}
use Rattle.mesh_types.specs.declared.region.Regions.{Regions}
use Rattle.mesh_types.specs.declared.region.UnitEdge.{UnitEdge}
use Rattle.mesh_types.specs.Choices.{first_best, or_earlier}
use Rattle.mesh_types.specs.Parts.{cut_part, part_of, region_part}
use Rattle.mesh_types.proofs.Words.{begins_at, begins_before}
use Rattle.mesh_types.specs.Contours.{cell_in, edge_of, is_rim, places_in, rim_edges_of, rim_of, walk_from, once_round, contour_of}
use Rattle.mesh_types.specs.Ears.{ears_of}
use Rattle.mesh_types.specs.Merging.{Merge, best_merge, is_admissible, is_convex, joined, merge_all, merged, union_of}
use Rattle.mesh_types.specs.Words.{piece_of, codes_of}
use Rattle.mesh_types.specs.Rings.{beginnings}
use Rattle.mesh_types.specs.Simplified.{begins_among, kept_corners, kept_edges, simplified_of}
use Rattle.mesh_types.proofs.EarLaws.{ears_of-triangles}
use Rattle.mesh_types.proofs.MergeLaws.{best_merge-admissible}

-- so many pieces at most, of at most six corners each
pub record AreFewPieces (most : ℕ) (pieces : List Piece) : Type 0 where
  pub count : length pieces ≤ most
  pub small : All (λ (piece : Piece). length piece.corners ≤ 6) pieces

-- ---- merging

-- an admissible merge leaves few pieces
few_joined : (corners : List Point) (most : ℕ) (pieces : List Piece) (m : Merge) → AreFewPieces most pieces → is_admissible corners pieces m ≡ true
    → AreFewPieces most (joined pieces m)
few_joined corners most pieces m few admissible =
    let P : Piece → Type 0 = λ (piece : Piece). length piece.corners ≤ 6 in
    let set : List Piece = slice_set pieces m.first (record { corners = union_of pieces m }) in
    let both = and_parts (nat_le (length (union_of pieces m)) 6) (is_convex (map (corner_at corners) (union_of pieces m))) admissible in
    let united : length (union_of pieces m) ≤ 6 = leb-true (length (union_of pieces m)) 6 both.0 in
    let each : All P set = All-set P pieces m.first (record { corners = union_of pieces m }) united few.small in
    let as_many : length set ≡ length pieces = simp length-set refl in
    record {
      count = omega (
        arith,
        few.count,
        as_many,
        length-append (take m.second set) (drop (suc m.second) set),
        length-take m.second set,
        length-drop (suc m.second) set,
      );
      small = All-append P (take m.second set) (drop (suc m.second) set) (All-take P m.second set each) (All-drop P (suc m.second) set each);
    }

few_merged : (corners : List Point) (more most : ℕ) (pieces : List Piece) → AreFewPieces most pieces → AreFewPieces most (merge_all corners more pieces)
unfolding merge_all
few_merged corners zero most pieces few = few
few_merged corners (suc more) most pieces few =
    by_case (best_merge corners pieces) refl (λ m next. few_merged corners more most (joined pieces m) next)
  where
    by_case : (o : Option Merge) → best_merge corners pieces ≡ o
        → ((m : Merge) → AreFewPieces most (joined pieces m) → AreFewPieces most (merge_all corners more (joined pieces m)))
        → AreFewPieces most (option_map_or (λ m. merge_all corners more (joined pieces m)) o pieces)
    by_case None is later = few
    by_case (Some m) is later = later m (few_joined corners most pieces m few (best_merge-admissible corners pieces m is))

few_pieces : (corners : List Point) (triangles : List Triangle) → AreFewPieces (length triangles) (merged corners triangles)
unfolding merged
few_pieces corners triangles =
    few_merged corners (length triangles) (length triangles) (map piece_of triangles)
    (record {
      count = omega (arith, length-map triangles piece_of);
      small = All-map (λ (piece : Piece). length piece.corners ≤ 6) piece_of triangles (λ k d there. omega arith);
    })

-- ---- the part of a contour

few_more : (n most : ℕ) (pieces : List Piece) → n ≤ most → AreFewPieces n pieces → AreFewPieces most pieces
few_more n most pieces less few = record { count = omega (arith, few.count, less); small = few.small }

few_kept_edges : (error : ℕ) (edges : List UnitEdge) → length (kept_edges error edges) ≤ length edges
unfolding kept_edges
few_kept_edges error edges =
    omega (
      arith,
      length-filter (begins_among (kept_corners error edges)) edges,
      count_by-le-length (begins_among (kept_corners error edges)) edges,
    )

few_of_contour : (error : ℕ) (edges : List UnitEdge) (part : RegionPart) → part_of (simplified_of error edges) ≡ Some part
    → AreFewPieces (length edges) part.pieces
unfolding simplified_of
few_of_contour error edges part is = by_test (nat_lt (length kept) 3) refl is
  where
    kept : List UnitEdge
    kept = kept_edges error edges

    outline : outlines.Outline
    outline = record { corners = beginnings kept; codes = codes_of kept }

    as_many : length (beginnings kept) ≡ length kept
    as_many = length-map kept (λ (edge : UnitEdge). edge.from)

    by_cut : 3 ≤ length (beginnings kept) → (r : Result (List Triangle) (List ℕ)) → ears_of (beginnings kept) ≡ r → cut_part outline r ≡ Some part
        → AreFewPieces (length edges) part.pieces
    by_cut enough (Err left) cut is = absurd (none-some part is)
    by_cut enough (Ok triangles) cut is =
        let pieces_are : merged (beginnings kept) triangles ≡ part.pieces = ap (λ (p : RegionPart). p.pieces) (same_Some _ part is) in
        let count = (ears_of-triangles (beginnings kept) triangles enough cut).count in
        subst (AreFewPieces (length edges)) pieces_are
        (few_more (length triangles) (length edges) (merged (beginnings kept) triangles) (omega (arith, count, as_many, few_kept_edges error edges))
        (few_pieces (beginnings kept) triangles))

    by_test : (b : Bool) → nat_lt (length kept) 3 ≡ b → part_of (if b then Flat else Outline outline) ≡ Some part → AreFewPieces (length edges) part.pieces
    by_test true few is = absurd (none-some part is)
    by_test false enough is = by_cut (omega (arith, as_many, ltb-false (length kept) 3 enough)) (ears_of (beginnings kept)) refl is

-- ---- the contour of a region

few_walked : (rim : List UnitEdge) (most : ℕ) (edge : UnitEdge) → length (walk_from rim most edge) ≤ most + 1
unfolding walk_from
few_walked rim zero edge = omega arith
few_walked rim (suc most) edge = by_case (find (begins_at edge.to) rim) (few_walked rim most)
  where
    by_case : (o : Option UnitEdge) → ((next : UnitEdge) → length (walk_from rim most next) ≤ most + 1)
        → length (edge ∷ option_map_or (walk_from rim most) o []) ≤ suc most + 1
    by_case None later = omega arith
    by_case (Some next) later = omega (arith, later next)

few_round : (rim : List UnitEdge) → length (once_round rim) ≤ length rim
unfolding once_round
few_round [] = omega arith
few_round (edge ∷ rim) =
    let walked = few_walked (edge ∷ rim) (length (edge ∷ rim) - 1) (or_earlier begins_before edge (first_best begins_before rim)) in
    omega (arith, walked)

few_of_rim : (window : Window) (cells : List Cell) (regions : Regions) (id : ℕ) → length (rim_of window cells regions id) ≤ 4 * length (places_in regions id)
few_of_rim window cells regions id =
    let places : List CellRef = places_in regions id in
    let four : sum_by (λ at. length (rim_edges_of window cells regions id at)) places ≤ length places * 4 =
    sum_by-le (λ at. length (rim_edges_of window cells regions id at)) 4 places
    (λ k d there.
    let at : CellRef = get_or places k d in
    omega (
      arith,
      few_kept (λ dir. edge_of window cells regions dir at) (λ dir. is_rim cells regions id dir (cell_in cells at)) (range_with_len 0 4),
      length-range_with_len 0 4,
    )) in
    omega (arith, four, length-flat_map (rim_edges_of window cells regions id) places)

-- so a region has no more pieces than four times its cells
pub few_of_region : (window : Window) (error : ℕ) (cells : List Cell) (regions : Regions) (id : ℕ) (part : RegionPart)
    → region_part window error cells regions id ≡ Some part → AreFewPieces (4 * length (places_in regions id)) part.pieces
few_of_region window error cells regions id part is =
    few_more (length (contour_of window cells regions id)) (4 * length (places_in regions id)) part.pieces
    (omega (arith, few_round (rim_of window cells regions id), few_of_rim window cells regions id))
    (few_of_contour error (contour_of window cells regions id) part is)

-- and no more corners of pieces than six times its pieces
pub few_corners : (most : ℕ) (pieces : List Piece) → AreFewPieces most pieces → sum_by (λ (piece : Piece). length piece.corners) pieces ≤ 6 * most
few_corners most pieces few =
    let six = sum_by-le (λ (piece : Piece). length piece.corners) 6 pieces few.small in
    omega (arith, six, few.count)
