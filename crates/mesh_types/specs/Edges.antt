-- Edges: how often edges of pieces lead from one place of an outline to another.
use Rattle.std.specs.Prelude.{◌≡◌, ℕ, ◌<◌, ◌≤◌, ◌==◌, ◌&&◌, Bool, List, length, slice_index}
use Rattle.std.specs.List.{count_by, sum_by, range_with_len}
use Rattle.nav_base.specs.declared.point.Point.{Point}
use Rattle.nav_base.specs.Convex.{place_after}
use Rattle.mesh_types.specs.declared.region.Piece.{Piece}
use Rattle.mesh_types.specs.Merging.{edge_end}

-- the edge at a position leads from one place to another
abbrev pub leads : List ℕ → ℕ → ℕ → ℕ → Bool
leads places from to edge = slice_index places edge == from && edge_end places edge == to

-- how many edges of places that run round do
abbrev pub edges_round : ℕ → ℕ → List ℕ → ℕ
edges_round from to places = count_by (leads places from to) (range_with_len 0 (length places))

-- how many edges of pieces do
abbrev pub edges_between : ℕ → ℕ → List Piece → ℕ
edges_between from to pieces = sum_by (λ (piece : Piece). edges_round from to piece.corners) pieces

-- no two edges of the pieces lead from the same place to the same other
abbrev pub HaveEdgesOnce : List Piece → Type 0
HaveEdgesOnce pieces = (from to : ℕ) → edges_between from to pieces ≤ 1

-- each edge of the outline is an edge of exactly one piece, and no edge of a piece leads back along it
pub record KeepOutline (corners : List Point) (pieces : List Piece) : Type 0 where
  pub along : (place : ℕ) → place < length corners → edges_between place (place_after (length corners) place) pieces ≡ 1
  pub back : (place : ℕ) → place < length corners → edges_between (place_after (length corners) place) place pieces ≡ 0
