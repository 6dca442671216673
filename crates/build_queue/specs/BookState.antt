-- What a book is, but for its meshes: the history of a ground, how far the tiles are aimed and published, and who builds what.
use Rattle.std.specs.Prelude.{◌≡◌, ℕ, ◌≤◌, Bool, false, not, ◌&&◌, List, [], length, replicate, slice_index_or, Option}
use Rattle.nav_ground.specs.declared.history.Entry.{Entry}
use Rattle.nav_ground.specs.declared.history.Ground.{Ground}
use Rattle.nav_ground.specs.declared.shape.Shape.{Shape}
use Rattle.nav_ground.specs.Grounds.{IsGround}
use Rattle.nav_ground.specs.History.{IsHistory, shapes_alive}
use Rattle.nav_ground.specs.Tiling.{tile_count}
use Rattle.nav_ground.specs.Touching.{touching_shapes}
use Rattle.build_queue.specs.Flags.{least_below}
use Rattle.build_queue.specs.SameShapes.{are_same}

-- the ground and its history; how many entries the tiles are to show, the target, and how many the published mesh shows; and for each tile
-- the list of shapes that its stored mesh was built with, and whether its build is claimed
pub record BookState : Type 0 where
  pub ground : Ground
  pub history : List Entry
  pub target : ℕ
  pub published : ℕ
  pub stored : List (List Shape)
  pub claimed : List Bool

-- a book at its opening: no entries, each tile stored without shapes, none claimed
abbrev pub first_state : Ground → BookState
first_state ground = record {
  ground = ground;
  history = [];
  target = 0;
  published = 0;
  stored = replicate (tile_count ground.setting) [];
  claimed = replicate (tile_count ground.setting) false;
}

-- the touching list of a tile at the target: the shapes alive after so many entries that touch the tile, in order of number
abbrev pub wanted_at : BookState → ℕ → List Shape
wanted_at state tile = touching_shapes state.ground.setting tile (shapes_alive state.history state.target)

-- whether a tile is claimed
abbrev pub is_claimed : BookState → ℕ → Bool
is_claimed state tile = slice_index_or state.claimed tile false

-- a tile is awaited where its stored list differs from its touching list at the target; lists are compared by shapes, not by numbers
abbrev pub is_awaited : BookState → ℕ → Bool
is_awaited state tile = not (are_same (slice_index_or state.stored tile []) (wanted_at state tile))

-- a tile can be claimed where it is awaited and not claimed
abbrev pub is_claimable : BookState → ℕ → Bool
is_claimable state tile = is_awaited state tile && not (is_claimed state tile)

-- the least such tiles
abbrev pub least_awaited : BookState → Option ℕ
least_awaited state = least_below (tile_count state.ground.setting) (is_awaited state)

-- the least tile that can be claimed
abbrev pub least_claimable : BookState → Option ℕ
least_claimable state = least_below (tile_count state.ground.setting) (is_claimable state)

-- no tile is claimed
pub record IsUnclaimed (book : BookState) : Type 0 where
  pub at : (tile : ℕ) → is_claimed book tile ≡ false

-- what every book keeps: its ground and its history keep their rules, it shows no more entries than it aims at and aims at no more than
-- there are, and there is one stored list and one claim a tile
pub record IsBook (state : BookState) : Type 0 where
  pub level : IsGround state.ground
  pub replied : IsHistory state.ground.setting.limit state.history
  pub aimed : state.target ≤ length state.history
  pub shown : state.published ≤ state.target
  pub lists : length state.stored ≡ tile_count state.ground.setting
  pub claims : length state.claimed ≡ tile_count state.ground.setting
