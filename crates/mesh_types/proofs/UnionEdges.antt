-- In the pieces of an outline each edge stands once in each direction, and none leads back along the outline: a merge takes away the edge that two pieces
-- share, in both directions, and nothing else.
use Rattle.std.proofs.Common.{◌≡◌, ℕ, ◌+◌, ◌≤◌, ℤ, pos, ◌+ℤ◌, List, [], length, map, ap, arith}
use Rattle.std.specs.Prelude.{All, slice_index, slice_set}
use Rattle.std.proofs.lemmas.Int.{ints}
use Rattle.std.proofs.lemmas.List.{get_or-set_other}
use Rattle.std.proofs.lemmas.List.Sums.{sum_by-remove, sum_by-set}
use Rattle.std.proofs.Math.ListN.{length-set}
use Rattle.nav_base.specs.declared.point.Point.{Point}
use Rattle.nav_base.specs.Convex.{place_after}
use Rattle.mesh_types.specs.declared.region.Triangle.{Triangle}
use Rattle.mesh_types.specs.declared.region.Piece.{Piece}
use Rattle.mesh_types.specs.Ears.{AreEarsOf}
use Rattle.mesh_types.specs.Merging.{IsPieceOf, Merge, joined, merged, places_at, union_of}
use Rattle.mesh_types.specs.Words.{piece_of}
use Rattle.mesh_types.proofs.EarLaws.{ears_of-triangles}
use Rattle.mesh_types.proofs.MergeLaws.{triangles-pieces}
use Rattle.mesh_types.proofs.PieceLaws.{JoinsTwo, best_merge-joins, merge_all-keeps}
use Rattle.mesh_types.proofs.UnionAreas.{piece-some}
use Rattle.mesh_types.specs.Edges.{HaveEdgesOnce, KeepOutline, edges_between, edges_round}
use Rattle.mesh_types.proofs.Rounds.{round-union}
use Rattle.mesh_types.proofs.EdgeCounts.{edges-sum, step, step-back}
use Rattle.mesh_types.proofs.EarEdges.{ears_of-once, ears_of-outline}

-- ---- a merge

module _ (corners : List Point) (pieces : List Piece) (m : Merge) (are : All (IsPieceOf corners) pieces) (is : JoinsTwo pieces m) where
  abbrev one : List ℕ
  one = places_at pieces m.first

  abbrev other : List ℕ
  other = places_at pieces m.second

  -- the shared edge
  abbrev i : ℕ
  i = slice_index one m.edge

  abbrev j : ℕ
  j = slice_index other m.facing

  some : 2 ≤ length one
  some = piece-some corners pieces m.first are (omega (arith, is.first, is.second))

  some' : 2 ≤ length other
  some' = piece-some corners pieces m.second are is.second

  edges-union : (u v : ℕ) → edges_round u v (union_of pieces m) + (step u v i j + step u v j i) ≡ edges_round u v one + edges_round u v other
  edges-union u v =
      whole _ _ _ _ _ _ _ _ (edges-sum u v (union_of pieces m)) (edges-sum u v one) (edges-sum u v other)
      (round-union (λ a b. pos (step u v a b)) one other m.edge m.facing is.edge is.facing some some' is.shared)
    where
      whole : (r s t p q : ℕ) (x y z : ℤ) → pos r ≡ x → pos s ≡ y → pos t ≡ z → x +ℤ (pos p +ℤ pos q) ≡ y +ℤ z → r + (p + q) ≡ s + t
      whole r s t p q x y z is_x is_y is_z same = omega (arith, ints)

  -- so the merge takes away the shared edge both ways, and no other
  edges-joined : (u v : ℕ) → edges_between u v (joined pieces m) + (step u v i j + step u v j i) ≡ edges_between u v pieces
  edges-joined u v =
      let edges : Piece → ℕ = λ (piece : Piece). edges_round u v piece.corners in
      let united : Piece = record { corners = union_of pieces m } in
      let none : Piece = record { corners = [] } in
      let kept : edges_round u v (places_at (slice_set pieces m.first united) m.second) ≡ edges_round u v other =
      ap edges (get_or-set_other pieces m.first m.second united none (omega (arith, is.first))) in
      omega (
        arith,
        sum_by-remove edges (slice_set pieces m.first united) m.second none (omega (arith, is.second, length-set pieces m.first united)),
        sum_by-set edges pieces m.first united none (omega (arith, is.first, is.second)),
        kept,
        edges-union u v,
      )

  once-joined : HaveEdgesOnce pieces → HaveEdgesOnce (joined pieces m)
  once-joined once u v = omega (arith, once u v, edges-joined u v)

  outline-joined : KeepOutline corners pieces → KeepOutline corners (joined pieces m)
  outline-joined keep = record {
    along = λ place below.
        let next : ℕ = place_after (length corners) place in
        omega (
          arith,
          keep.along place below,
          keep.back place below,
          edges-joined place next,
          edges-joined next place,
          step-back place next i j,
          step-back place next j i,
        );
    back = λ place below. omega (arith, keep.back place below, edges-joined (place_after (length corners) place) place);
  }

-- ---- the pieces of an outline

module _ (corners : List Point) (triangles : List Triangle) (enough : 3 ≤ length corners) (are : AreEarsOf corners triangles) where
  triangles_are : All (IsPieceOf corners) (map piece_of triangles)
  triangles_are = triangles-pieces corners _ triangles (ears_of-triangles corners triangles enough are.cut)

  pub merged-once : HaveEdgesOnce (merged corners triangles)
  unfolding merged
  merged-once =
      merge_all-keeps corners HaveEdgesOnce (λ pieces m are is once. once-joined corners pieces m are (best_merge-joins corners pieces m is) once) (length triangles) (map piece_of triangles) triangles_are (ears_of-once corners triangles enough are.cut)

  pub merged-outline : KeepOutline corners (merged corners triangles)
  unfolding merged
  merged-outline =
      merge_all-keeps corners (KeepOutline corners) (λ pieces m are is keep. outline-joined corners pieces m are (best_merge-joins corners pieces m is) keep) (length triangles) (map piece_of triangles) triangles_are
      (ears_of-outline corners triangles enough are.cut)
