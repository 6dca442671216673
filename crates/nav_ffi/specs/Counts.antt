-- The counts of what a handle holds.
use Rattle.std.specs.Prelude.{◌≡◌, ℕ, length, Option, Some, None}
use Rattle.nav_ground.specs.Tiling.{tile_count}
use Rattle.mesh_types.specs.Soundness.{link_count, polygon_count}
use Rattle.build_queue.specs.BookState.{BookState}
use Rattle.nav_book.specs.LevelResults.{published_mesh}
use Rattle.nav_handle.specs.Statuses as status
use Rattle.nav_handle.specs.declared.wire.NavdCounts.{NavdCounts}

abbrev pub counts_of : BookState → NavdCounts
counts_of state = record {
  history = length state.history;
  target = state.target;
  published = state.published;
  tiles = tile_count state.ground.setting;
  polygons = polygon_count (published_mesh state).tiles;
  links = link_count (published_mesh state);
}

-- counts were asked for: a level tells them, and where there is none, nothing is told
abbrev pub AreCounted : Option BookState → NavdCounts → NavdCounts → ℕ → Type 0
AreCounted None before after ended = (ended ≡ status.empty) × (after ≡ before)
AreCounted (Some state) before after ended = (ended ≡ status.ok) × (after ≡ counts_of state)
