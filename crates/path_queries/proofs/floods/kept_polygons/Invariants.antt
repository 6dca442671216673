use Rattle.std.proofs.Common.{◌≡◌, ℕ, ◌<◌, length, map, take}
use Rattle.std.specs.Prelude.{slice_index_or}
use Rattle.std.specs.List.{filter}
use Rattle.path_queries.specs.Searches.{flooded_as, is_kept, kept_before}
use Rattle.path_queries.proofs.floods.kept_polygons.Given as goal

-- those kept of the entries so far, and the place of each among them
abbrev pub invariant-loop-entry : goal.invariant-loop-entry
invariant-loop-entry l = record {
  items : l.list.items ≡ map (flooded_as l.mesh l.areas l.first l.reached) (filter (is_kept l.mesh l.areas l.first) (take l.entry-index l.reached));
  count : length l.places.items ≡ l.entry-index;
  places : (k : ℕ) (d : ℕ) → k < l.entry-index → slice_index_or l.places.items k d ≡ kept_before l.mesh l.areas l.first l.reached k;
}
