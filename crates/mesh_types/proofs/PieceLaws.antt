-- The pieces of an outline that is cut: strictly convex polygons of its corners.
use Rattle.std.proofs.Common.{◌≡◌, ℕ, zero, suc, ◌+◌, ◌-◌, ◌<◌, ◌≤◌, List, length, get_or, map, subst, refl, arith, Option, Some, None, true}
use Rattle.std.specs.Prelude.{All}
use Rattle.std.specs.List.{find, range_with_len}
use Rattle.std.specs.Option.{option_map, option_map_or}
use Rattle.std.proofs.lemmas.List.FromFn.{get_or-range_with_len, length-range_with_len}
use Rattle.nav_base.specs.declared.point.Point.{Point}
use Rattle.nav_ground.proofs.Found.{found_in}
use Rattle.mesh_types.specs.declared.region.Triangle.{Triangle}
use Rattle.mesh_types.specs.declared.region.Piece.{Piece}
use Rattle.mesh_types.specs.Ears.{AreEarsOf}
use Rattle.mesh_types.specs.Merging.{IsPieceOf, Merge, best_merge, is_admissible, is_facing, joined, merge_all, merge_over, merged, merges_between, merges_from, merges_of, places_at}
use Rattle.mesh_types.proofs.Words.{is_longer}
use Rattle.mesh_types.specs.Words.{piece_of}
use Rattle.mesh_types.proofs.ChoiceLaws.{first_best-all, filter-passes}
use Rattle.mesh_types.proofs.EarLaws.{ears_of-triangles}
use Rattle.mesh_types.proofs.Gathered.{gathered_all}
use Rattle.mesh_types.proofs.MergeLaws.{best_merge-admissible, joined-pieces, triangles-pieces}
use Rattle.mesh_types.proofs.RunLaws.{All-found}

-- ---- the merge that is made

-- a merge is of two pieces of the list, over an edge that they share
pub record JoinsTwo (pieces : List Piece) (m : Merge) : Type 0 where
  pub first : m.first < m.second
  pub second : m.second < length pieces
  pub edge : m.edge < length (places_at pieces m.first)
  pub facing : m.facing < length (places_at pieces m.second)
  pub shared : is_facing (places_at pieces m.first) m.edge (places_at pieces m.second) m.facing ≡ true

over_joins : (pieces : List Piece) (first second edge : ℕ) (m : Merge) → first < second → second < length pieces → edge < length (places_at pieces first)
    → (o : Option ℕ) → find (is_facing (places_at pieces first) edge (places_at pieces second)) (range_with_len 0 (length (places_at pieces second))) ≡ o
    → option_map (λ facing. record { first = first; second = second; edge = edge; facing = facing }) o ≡ Some m → JoinsTwo pieces m
over_joins pieces first second edge m before there inside None found is = absurd cc
over_joins pieces first second edge m before there inside (Some facing) found is =
    let same : record { first = first; second = second; edge = edge; facing = facing } ≡ m = cc in
    let range : List ℕ = range_with_len 0 (length (places_at pieces second)) in
    let at = found_in (is_facing (places_at pieces first) edge (places_at pieces second)) range facing found in
    let many = length-range_with_len 0 (length (places_at pieces second)) in
    let value = get_or-range_with_len 0 (length (places_at pieces second)) at.place facing (omega (arith, at.there, many)) in
    subst (JoinsTwo pieces) same (record {
      first = before;
      second = there;
      edge = inside;
      facing = omega (arith, at.at, value, at.there, many);
      shared = at.passes;
    })

merges_join : (pieces : List Piece) → All (JoinsTwo pieces) (merges_of pieces)
merges_join pieces =
    gathered_all (JoinsTwo pieces) (merges_from pieces) 0 (length pieces)
    (λ first least most. gathered_all (JoinsTwo pieces) (merges_between pieces first) (first + 1) (length pieces - (first + 1))
    (λ second least' most'.
    All-found (merge_over pieces first second) (JoinsTwo pieces) (range_with_len 0 (length (places_at pieces first)))
    (λ k d there m is.
    let many = length-range_with_len 0 (length (places_at pieces first)) in
    let value = get_or-range_with_len 0 (length (places_at pieces first)) k d (omega (arith, there, many)) in
    let edge = get_or (range_with_len 0 (length (places_at pieces first))) k d in
    over_joins pieces first second edge m (omega (arith, least')) (omega (arith, most, least', most')) (omega (arith, value, there, many))
    (find (is_facing (places_at pieces first) edge (places_at pieces second)) (range_with_len 0 (length (places_at pieces second)))) refl is)))

pub best_merge-joins : (corners : List Point) (pieces : List Piece) (m : Merge) → best_merge corners pieces ≡ Some m → JoinsTwo pieces m
unfolding best_merge
best_merge-joins corners pieces m is =
    (first_best-all (is_longer corners pieces) (λ m. JoinsTwo pieces m × (is_admissible corners pieces m ≡ true)) _ m
    (filter-passes (is_admissible corners pieces) (JoinsTwo pieces) (merges_of pieces) (merges_join pieces)) is).0

piece_joined : (corners : List Point) (pieces : List Piece) (m : Merge) → All (IsPieceOf corners) pieces → best_merge corners pieces ≡ Some m → All (IsPieceOf corners) (joined pieces m)
piece_joined corners pieces m are is =
    let two = best_merge-joins corners pieces m is in
    joined-pieces corners pieces m are (omega (arith, two.first, two.second)) two.second (best_merge-admissible corners pieces m is)

-- what holds of pieces and is kept by each merge holds of the pieces at the end
pub merge_all-keeps : (corners : List Point) (P : List Piece → Type 0)
    → ((pieces : List Piece) (m : Merge) → All (IsPieceOf corners) pieces → best_merge corners pieces ≡ Some m → P pieces → P (joined pieces m))
    → (more : ℕ) (pieces : List Piece) → All (IsPieceOf corners) pieces → P pieces → P (merge_all corners more pieces)
unfolding merge_all
merge_all-keeps corners P kept zero pieces are holds = holds
merge_all-keeps corners P kept (suc more) pieces are holds =
    by_case (λ m is all. merge_all-keeps corners P kept more (joined pieces m) is all) (best_merge corners pieces) refl
  where
    by_case : ((m : Merge) → All (IsPieceOf corners) (joined pieces m) → P (joined pieces m) → P (merge_all corners more (joined pieces m)))
        → (o : Option Merge) → best_merge corners pieces ≡ o → P (option_map_or (λ m. merge_all corners more (joined pieces m)) o pieces)
    by_case later None is = holds
    by_case later (Some m) is = later m (piece_joined corners pieces m are is) (kept pieces m are is holds)

-- the pieces of an outline that is cut
pub pieces_are : (corners : List Point) (triangles : List Triangle) → 3 ≤ length corners → AreEarsOf corners triangles
    → All (IsPieceOf corners) (merged corners triangles)
unfolding merged
pieces_are corners triangles enough are =
    let all = triangles-pieces corners _ triangles (ears_of-triangles corners triangles enough are.cut) in
    merge_all-keeps corners (All (IsPieceOf corners)) (λ pieces m each is _. piece_joined corners pieces m each is) (length triangles) (map piece_of triangles) all all
