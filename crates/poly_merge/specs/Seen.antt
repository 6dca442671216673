-- Seen: merges of the code, as the definitions see them.
use Rattle.std.specs.Prelude.{◌≡◌, ℕ, ◌+◌, ◌-◌, ◌<◌, ◌≤◌, ◌==◌, nat_lt, Bool, true, ◌||◌, if◌then◌else◌, List, ◌++◌, length, filter, All, Contains, Option, None, Some}
use Rattle.std.specs.List.{find, flat_map, range_with_len}
use Rattle.std.specs.Ordering.{is_lt, nat_cmp, ordering_then}
use Rattle.std.specs.declared.cmp.Ordering.{Ordering}
use Rattle.nav_base.specs.declared.point.Point.{Point}
use Rattle.mesh_types.specs.declared.region.Piece.{Piece}
use Rattle.mesh_types.specs.Merging as merging
use Rattle.mesh_types.specs.Merging.{is_admissible, is_facing, merges_between, merges_from, places_at, shared_length}
use Rattle.poly_merge.specs.declared.edge.Merge.{Merge}

-- a merge as the definitions see it
abbrev pub seen : Merge → merging.Merge
seen m = record { first = m.first; second = m.second; edge = m.edge; facing = m.facing }

-- the merge is of two pieces of the list, over an edge that they share
pub record IsMergeOf (pieces : List Piece) (m : Merge) : Type 0 where
  pub first : m.first < m.second
  pub second : m.second < length pieces
  pub edge : m.edge < length (places_at pieces m.first)
  pub facing : m.facing < length (places_at pieces m.second)
  pub shared : is_facing (places_at pieces m.first) m.edge (places_at pieces m.second) m.facing ≡ true

-- the two pieces have eight corners at most, so that they have six together
pub record IsSmall (pieces : List Piece) (m : Merge) : Type 0 where
  pub few : length (places_at pieces m.first) + length (places_at pieces m.second) ≤ 8

-- ---- the merges that may be made

-- the admissible of some merges
abbrev pub admissible_of : List Point → List Piece → List merging.Merge → List merging.Merge
admissible_of corners pieces merges = filter (is_admissible corners pieces) merges

-- two pieces of the list, of which the second has an edge that faces the edge of the first; it is the first such edge
pub record IsCandidate (pieces : List Piece) (m : merging.Merge) : Type 0 where
  pub first : m.first < m.second
  pub second : m.second < length pieces
  pub edge : m.edge < length (places_at pieces m.first)
  pub found : find (is_facing (places_at pieces m.first) m.edge (places_at pieces m.second)) (range_with_len 0 (length (places_at pieces m.second))) ≡ Some m.facing

-- a merge that may be made
pub record IsChoice (corners : List Point) (pieces : List Piece) (m : merging.Merge) : Type 0 where
  pub candidate : IsCandidate pieces m
  pub admissible : is_admissible corners pieces m ≡ true

-- these are the merges that may be made, in any order
pub record AreChoices (corners : List Point) (pieces : List Piece) (merges : List merging.Merge) : Type 0 where
  pub each : All (IsChoice corners pieces) merges
  pub all : (m : merging.Merge) → IsChoice corners pieces m → Contains merges m

-- merges in the order in which all of them are listed: by the first piece, then by the second, then by the edge of the first
abbrev pub place_cmp : merging.Merge → merging.Merge → Ordering
place_cmp m other = ordering_then (nat_cmp m.first other.first) (ordering_then (nat_cmp m.second other.second) (nat_cmp m.edge other.edge))

-- a merge is over a longer edge than another, or over one as long and listed earlier
abbrev pub comes_before : List Point → List Piece → merging.Merge → merging.Merge → Bool
comes_before corners pieces m other =
    is_lt (ordering_then (nat_cmp (shared_length corners pieces other) (shared_length corners pieces m)) (place_cmp m other))

-- ---- after a merge

-- where an element of a list stands once another one was taken out
abbrev pub after_removal : ℕ → ℕ → ℕ
after_removal index removed = if nat_lt removed index then index - 1 else index

-- the piece at an index is one of the two of a merge
abbrev pub is_of : merging.Merge → ℕ → Bool
is_of m index = m.first == index || m.second == index

-- a merge as one of the pieces after another was made, where that was of other pieces
abbrev pub left_over : merging.Merge → merging.Merge → Option merging.Merge
left_over made m =
    if is_of m made.first || is_of m made.second then None
    else Some (record { first = after_removal m.first made.second; second = after_removal m.second made.second; edge = m.edge; facing = m.facing })

-- the merges of a piece with those before it
abbrev pub merges_onto : List Piece → ℕ → List merging.Merge
merges_onto pieces second = flat_map (λ first. merges_between pieces first second) (range_with_len 0 second)

-- the merges of a piece with all others
abbrev pub merges_with : List Piece → ℕ → List merging.Merge
merges_with pieces index = merges_onto pieces index ++ merges_from pieces index
