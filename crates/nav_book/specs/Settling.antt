-- How everything that a history asks for is built and published, by single steps of the book.
use Rattle.std.specs.Prelude.{ℕ, List, filter, fold}
use Rattle.std.specs.List.{range_with_len}
use Rattle.std.specs.Option.{option_map_or}
use Rattle.nav_ground.specs.Tiling.{tile_count}
use Rattle.build_queue.specs.BookState.{BookState, is_awaited, least_claimable, wanted_at}
pub use Rattle.build_queue.specs.BookState.{IsUnclaimed}
use Rattle.build_queue.specs.Steps.{after_aim, after_claim, after_publish, after_put_back_all, after_submit}

-- the tiles that are awaited, rising
abbrev pub awaited_tiles : BookState → List ℕ
awaited_tiles book = filter (is_awaited book) (range_with_len 0 (tile_count book.ground.setting))

-- every job is put back, and the whole history is aimed at
abbrev pub settling : BookState → BookState
settling book = after_aim (after_put_back_all book)

-- a claim, and then the submission of a tile that is built under its touching list
abbrev pub after_job : BookState → ℕ → BookState
after_job book tile = after_submit (after_claim book) tile (wanted_at book tile)

-- the least tile that can be claimed is claimed and submitted so; nothing changes where there is none
abbrev pub after_step : BookState → BookState
after_step book = option_map_or (after_job book) (least_claimable book) book

-- how many steps the count of builds takes with it
abbrev pub steps_due : BookState → ℕ
steps_due book = option_map_or (λ (tile : ℕ). 1) (least_claimable book) 0

-- a claim and a submission for each awaited tile, in rising order
unfoldable pub all_built : BookState → BookState
all_built book = fold after_job book (awaited_tiles book)

-- the book after it was settled: every job is put back, the whole history is aimed at, each awaited tile is claimed and submitted in rising
-- order, and that is published
abbrev pub after_settle : BookState → BookState
after_settle book = after_publish (all_built (settling book))
