use Rattle.std.proofs.Common.{List}
use Rattle.std.specs.Prelude.{AllPairs, Contains, ◌<◌, ◌≡◌, ◌↔◌, filter, IfOk, ℕ}
use Rattle.std.specs.List.{range_with_len}
use Rattle.std.proofs.lemmas.Result.{IfOk-weaker}
use Rattle.nav_ground.specs.Tiling.{tile_count}
use Rattle.mesh_types.specs.Builds.{build_of}
use Rattle.tile_changes.specs.Changes.{HasSameLinks, HasSameTiles, IsChanged}
use Rattle.tile_changes.specs.Telling.{is_touched}
use Rattle.tile_changes.proofs.AliveBetween.{removes_what_is_there}
use Rattle.tile_changes.proofs.SameTiles.{same_links, same_tiles}
use Rattle.tile_changes.proofs.ToldTiles.{changed_limits, told_slice, touched_are_changed, touched_rise}
use Rattle.tile_changes.proofs.changes.tiles_changed_between.Goals as goal

pub changed_shapes-requires-clause-rules : goal.changed_shapes-requires-clause-rules
changed_shapes-requires-clause-rules c = removes_what_is_there c.args.ground.now.setting.limit c.args.history.now c.requires.history.replies

pub touched_tiles-requires-clause-shapes : goal.touched_tiles-requires-clause-shapes
touched_tiles-requires-clause-shapes c =
    changed_limits c.args.history.now c.args.since c.args.upto c.as_slice.result.now c.requires.history.requests (told_slice c.args.history.now c.args.since c.args.upto c.as_slice.result.now c.in_ok-shapes.shapes.items c.as_slice.ensures.value
    c.in_ok-shapes.ensures)

-- what holds of the changed tiles holds of those that are told
exact_of : (c : goal.After-drop-shapes) (Q : List ℕ → Type 0)
    → ((tiles : List ℕ) → ((tile : ℕ) → Contains tiles tile ↔ IsChanged c.args.ground.now c.args.history.now c.args.since c.args.upto tile) → Q tiles)
    → IfOk c.touched_tiles.result Q
exact_of c Q holds =
    IfOk-weaker c.touched_tiles.result
    (λ (tiles : List ℕ). tiles ≡ filter (is_touched c.args.ground.now.setting c.as_slice.result.now) (range_with_len 0 (tile_count c.args.ground.now.setting))) Q
    (λ tiles are.
    holds tiles
    (touched_are_changed c.args.ground.now c.args.history.now c.args.since c.args.upto c.as_slice.result.now tiles c.requires.level.setting
    c.requires.history.requests
    (told_slice c.args.history.now c.args.since c.args.upto c.as_slice.result.now c.in_ok-shapes.shapes.items c.as_slice.ensures.value c.in_ok-shapes.ensures)
    are))
    c.touched_tiles.ensures

pub returns-clause-exact : goal.returns-clause-exact
returns-clause-exact c =
    exact_of c (λ tiles. (tile : ℕ) → Contains tiles tile ↔ IsChanged c.args.ground.now c.args.history.now c.args.since c.args.upto tile) (λ tiles exact. exact)

pub returns-clause-frame : goal.returns-clause-frame
returns-clause-frame c =
    exact_of c
    (λ tiles. HasSameTiles tiles (build_of c.args.ground.now c.args.history.now c.args.since) (build_of c.args.ground.now c.args.history.now c.args.upto))
    (same_tiles c.args.ground.now c.args.history.now c.args.since c.args.upto c.requires.level c.requires.history.requests c.requires.order)

pub returns-clause-links : goal.returns-clause-links
returns-clause-links c =
    exact_of c
    (λ tiles. HasSameLinks tiles (build_of c.args.ground.now c.args.history.now c.args.since) (build_of c.args.ground.now c.args.history.now c.args.upto))
    (same_links c.args.ground.now c.args.history.now c.args.since c.args.upto c.requires.level c.requires.history.requests c.requires.order)

pub returns-clause-rising : goal.returns-clause-rising
returns-clause-rising c =
    IfOk-weaker c.touched_tiles.result
    (λ (tiles : List ℕ). tiles ≡ filter (is_touched c.args.ground.now.setting c.as_slice.result.now) (range_with_len 0 (tile_count c.args.ground.now.setting)))
    (AllPairs (λ a b. a < b)) (touched_rise c.args.ground.now.setting c.as_slice.result.now) c.touched_tiles.ensures
