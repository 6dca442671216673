-- What the fields of a queue keep at every moment.
use Rattle.std.specs.Prelude.{◌≡◌, ℕ, ◌<◌, ◌≤◌, false, [], length, slice_index_or, vec_capacity}
use Rattle.std.specs.Arc.{arc_value}
use Rattle.nav_ground.specs.Grounds.{IsGround}
use Rattle.nav_ground.specs.History.{IsHistory, shapes_alive, history_limit}
use Rattle.nav_ground.specs.Tiling.{tile_count}
use Rattle.nav_ground.specs.Touching.{touching_shapes}
use Rattle.build_queue.specs.declared.queue.BuildQueue.TheInside.{Inside}
use Rattle.build_queue.specs.Awaiting.{awaits}
use Rattle.build_queue.specs.BookState.{BookState}
use Rattle.build_queue.specs.Flags.{flag_of}
use Rattle.build_queue.specs.LiveTable.{IsLiveTable, shapes_in}

-- what a queue is seen as
abbrev pub state_of : Inside → BookState
state_of inside = record {
  ground = arc_value inside.ground;
  history = inside.entries.items;
  target = inside.target;
  published = inside.published;
  stored = inside.stored.items;
  claimed = inside.waiting.claimed;
}

-- the shapes alive at the end of the history and at the target are at hand; a tile that is not marked is touched by the same of both; the
-- flags say which tiles are awaited; and there is room for a whole history and for as many live obstacles as may be
pub record IsKept (inside : Inside) : Type 0 where
  pub ground : IsGround (arc_value inside.ground)
  pub history : IsHistory (arc_value inside.ground).setting.limit inside.entries.items
  pub room : history_limit ≤ vec_capacity inside.entries
  pub table : IsLiveTable inside.entries.items inside.live.items
  pub few : length inside.live.items ≤ (arc_value inside.ground).setting.limit
  pub live_room : (arc_value inside.ground).setting.limit ≤ vec_capacity inside.live
  pub aims : inside.target ≤ length inside.entries.items
  pub shows : inside.published ≤ inside.target
  pub shapes : inside.aimed.items ≡ shapes_alive inside.entries.items inside.target
  pub aimed_room : (arc_value inside.ground).setting.limit ≤ vec_capacity inside.aimed
  pub lists : length inside.stored.items ≡ tile_count (arc_value inside.ground).setting
  pub marks : length inside.dirty ≡ tile_count (arc_value inside.ground).setting
  pub flags : length inside.waiting.awaited ≡ tile_count (arc_value inside.ground).setting
  pub claims : length inside.waiting.claimed ≡ tile_count (arc_value inside.ground).setting
  pub clean : (tile : ℕ) → tile < tile_count (arc_value inside.ground).setting → flag_of inside.dirty tile ≡ false
      → touching_shapes (arc_value inside.ground).setting tile (shapes_in inside.live.items) ≡ touching_shapes (arc_value inside.ground).setting tile inside.aimed.items
  pub awaited : (tile : ℕ) → tile < tile_count (arc_value inside.ground).setting
      → flag_of inside.waiting.awaited tile ≡ awaits (arc_value inside.ground).setting inside.aimed.items tile (slice_index_or inside.stored.items tile [])
