-- RimPlaces: the positions along a side of a tile at which the entries of its rim have levels, in the order in which they are looked up.
use Rattle.std.specs.Prelude.{ℕ, ◌+◌, Bool, nat_lt, ◌==◌, ◌&&◌, ◌||◌, if◌then◌else◌, List, [], map, length, slice_index_or}
use Rattle.std.specs.List.{flat_map, range_with_len}
use Rattle.std.specs.List.Sorted.{IsPermutation, IsSortedBy}
use Rattle.std.specs.Ordering.{is_lt, nat_cmp, ordering_then}
use Rattle.std.specs.declared.cmp.Ordering.{Ordering}
use Rattle.mesh_types.specs.declared.mesh.LevelPair.{LevelPair}
use Rattle.mesh_types.specs.declared.mesh.RimEdge.{RimEdge}
use Rattle.tile_links.specs.declared.rim.RimPlace.{RimPlace}

-- a pair of levels and an entry that stand for none
abbrev pub some_pair : LevelPair
some_pair = record { own = 0; other = 0 }

abbrev pub some_entry : RimEdge
some_entry = record { poly = 0; edge = 0; side = 0; first = 0; pairs = [] }

-- the levels of an entry at one of its places, and the entry of a rim with a number
abbrev pub pair_of : RimEdge → ℕ → LevelPair
pair_of entry place = slice_index_or entry.pairs place some_pair

abbrev pub entry_of : List RimEdge → ℕ → RimEdge
entry_of rim number = slice_index_or rim number some_entry

-- the position and the own level at a place of the entry with a number
abbrev pub place_of : ℕ → RimEdge → ℕ → RimPlace
place_of number entry place = record { position = entry.first + place; level = (pair_of entry place).own; entry = number }

-- the places of the entry with a number
abbrev pub entry_places : ℕ → RimEdge → List RimPlace
entry_places number entry = map (place_of number entry) (range_with_len 0 (length entry.pairs))

-- the same where the entry runs along a side, else none
abbrev pub places_along : ℕ → List RimEdge → ℕ → List RimPlace
places_along side rim number = if (entry_of rim number).side == side then entry_places number (entry_of rim number) else []

-- the places of a rim along a side, entry by entry
abbrev pub side_places : ℕ → List RimEdge → List RimPlace
side_places side rim = flat_map (places_along side rim) (range_with_len 0 (length rim))

-- places by position, then by level
abbrev pub place_cmp : RimPlace → RimPlace → Ordering
place_cmp a b = ordering_then (nat_cmp a.position b.position) (nat_cmp a.level b.level)

-- no place comes before an earlier one
abbrev pub AreInOrder : List RimPlace → Type 0
AreInOrder places = IsSortedBy (λ a b. is_lt (place_cmp a b)) places

-- the places of a rim along a side, in order
pub record ArePlaces (side : ℕ) (rim : List RimEdge) (places : List RimPlace) : Type 0 where
  pub order : AreInOrder places
  pub all : IsPermutation (side_places side rim) places

-- a place comes before a position and level, and a place has them
abbrev pub is_before_place : ℕ → ℕ → RimPlace → Bool
is_before_place position level place = nat_lt place.position position || (place.position == position && nat_lt place.level level)

abbrev pub is_at_place : ℕ → ℕ → RimPlace → Bool
is_at_place position level place = place.position == position && place.level == level
