-- Merging: the triangles of an outline united into larger convex pieces.
--
-- The corners of a piece are places of the outline, in a list that runs round. The edge at a position leads from the place there to the next.
use Rattle.std.specs.Prelude.{ℕ, zero, suc, ◌+◌, ◌-◌, ◌==◌, ℤ, pos, ◌+ℤ◌, Bool, ◌&&◌, ◌||◌, nat_le, nat_lt, List, [], ◌∷◌, ◌++◌, length, slice_index, slice_index_or, slice_set, take, drop, map, filter, ◌<◌, ◌≤◌, All, Option}
use Rattle.std.specs.Int.Signed.{lt_z}
use Rattle.std.specs.Option.{option_map, option_map_or}
use Rattle.std.specs.List.{filter_map, find, flat_map, list_all, range_with_len, remove}
use Rattle.nav_base.specs.declared.point.Point.{Point}
use Rattle.nav_base.specs.Point.{from_to}
use Rattle.nav_base.specs.Convex.{IsStrictlyConvex, corner_at, place_after, side_of_edge}
use Rattle.nav_base.specs.Deviation.{square_of}
use Rattle.mesh_types.specs.declared.region.Triangle.{Triangle}
use Rattle.mesh_types.specs.declared.region.Piece.{Piece}
use Rattle.mesh_types.specs.Choices.{first_best}
use Rattle.mesh_types.specs.Ears.{area_of}

-- ---- strict convexity, as a test

-- the corner at j ends the edge that begins at i, or lies strictly to its left
abbrev pub lies_left : List Point → ℕ → ℕ → Bool
lies_left corners i j = j == i || j == place_after (length corners) i || lt_z (pos 0) (side_of_edge corners i j)

-- there are at least three corners, and each lies strictly to the left of each edge that it does not end
unfoldable pub is_convex : List Point → Bool
is_convex corners =
    nat_le 3 (length corners)
    && list_all (λ i. list_all (lies_left corners i) (range_with_len 0 (length corners))) (range_with_len 0 (length corners))

-- ---- the edges of pieces

-- the places of the piece that stands at an index
abbrev pub places_at : List Piece → ℕ → List ℕ
places_at pieces i = (slice_index_or pieces i (record { corners = [] })).corners

-- the place at which an edge ends; it begins at the place at its position
abbrev pub edge_end : List ℕ → ℕ → ℕ
edge_end places edge = slice_index places (place_after (length places) edge)

-- the two edges join the same places in opposite directions
abbrev pub is_facing : List ℕ → ℕ → List ℕ → ℕ → Bool
is_facing p edge q facing = slice_index q facing == edge_end p edge && edge_end q facing == slice_index p edge

-- all places of a piece but the beginning of an edge, from the edge's end on
abbrev pub past_edge : List ℕ → ℕ → List ℕ
past_edge places edge = drop (edge + 1) places ++ take edge places

-- ---- merges

-- two pieces, by their indices, of which the first stands earlier, and the edge of each that they share
pub record Merge : Type 0 where
  pub first : ℕ
  pub second : ℕ
  pub edge : ℕ
  pub facing : ℕ

-- the merge of two pieces over an edge of the first, where the second has one that faces it
abbrev pub merge_over : List Piece → ℕ → ℕ → ℕ → Option Merge
merge_over pieces first second edge =
    option_map (λ facing. record { first = first; second = second; edge = edge; facing = facing })
    (find (is_facing (places_at pieces first) edge (places_at pieces second)) (range_with_len 0 (length (places_at pieces second))))

-- all merges of two pieces, by the edge of the first
abbrev pub merges_between : List Piece → ℕ → ℕ → List Merge
merges_between pieces first second = filter_map (merge_over pieces first second) (range_with_len 0 (length (places_at pieces first)))

-- all merges of a piece with those that stand behind it, by the second piece
abbrev pub merges_from : List Piece → ℕ → List Merge
merges_from pieces first = flat_map (merges_between pieces first) (range_with_len (first + 1) (length pieces - (first + 1)))

-- all merges, by the first piece
abbrev pub merges_of : List Piece → List Merge
merges_of pieces = flat_map (merges_from pieces) (range_with_len 0 (length pieces))

-- the places of two pieces together: those of the first from the end of the shared edge on, and then those of the second from there
abbrev pub union_of : List Piece → Merge → List ℕ
union_of pieces m = past_edge (places_at pieces m.first) m.edge ++ past_edge (places_at pieces m.second) m.facing

-- a merge is admissible where the two together have at most six corners and are strictly convex
abbrev pub is_admissible : List Point → List Piece → Merge → Bool
is_admissible corners pieces m = nat_le (length (union_of pieces m)) 6 && is_convex (map (corner_at corners) (union_of pieces m))

-- the square of the length of the shared edge
abbrev pub shared_length : List Point → List Piece → Merge → ℕ
shared_length corners pieces m =
    let places = places_at pieces m.first in
    square_of (from_to (corner_at corners (slice_index places m.edge)) (corner_at corners (edge_end places m.edge)))

-- the admissible merge over the longest edge, and of equally long ones the first
unfoldable pub best_merge : List Point → List Piece → Option Merge
best_merge corners pieces = first_best (λ (m other : Merge). nat_lt (shared_length corners pieces other) (shared_length corners pieces m))
    (filter (is_admissible corners pieces) (merges_of pieces))

-- ---- merging

-- the two pieces together take the place of the first, and the second leaves the list
abbrev pub joined : List Piece → Merge → List Piece
joined pieces m = remove (slice_set pieces m.first (record { corners = union_of pieces m })) m.second

-- the best merge is made, and again as often as there is one; no more often than the number given
unfoldable pub merge_all : List Point → ℕ → List Piece → List Piece
merge_all corners zero pieces = pieces
merge_all corners (suc more) pieces = option_map_or (λ m. merge_all corners more (joined pieces m)) (best_merge corners pieces) pieces

-- the pieces of an outline that was cut into these triangles; each merge leaves one piece fewer, so there are fewer of them than triangles
unfoldable pub merged : List Point → List Triangle → List Piece
merged corners triangles =
    merge_all corners (length triangles) (map (λ (t : Triangle). record { corners = t.a ∷ t.b ∷ t.c ∷ [] }) triangles)

-- a piece of an outline: a strictly convex polygon with 3 to 6 of the outline's corners, counterclockwise
pub record IsPieceOf (corners : List Point) (piece : Piece) : Type 0 where
  pub places : All (λ place. place < length corners) piece.corners
  pub most : length piece.corners ≤ 6
  pub convex : IsStrictlyConvex (map (corner_at corners) piece.corners)

-- twice the area of pieces together
abbrev pub areas_of : List Point → List Piece → ℤ
areas_of corners [] = pos 0
areas_of corners (piece ∷ pieces) = area_of corners piece.corners +ℤ areas_of corners pieces
