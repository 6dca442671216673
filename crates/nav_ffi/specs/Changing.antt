-- Changing: the tiles that may differ between a length of the history and what is published.
use Rattle.std.specs.Prelude.{ℕ, ◌<◌, ◌≤◌, ◌↔◌, ◌⊎◌, List, length, AllPairs, Contains, Option, Some, None}
use Rattle.mesh_types.specs.Builds.{build_of}
use Rattle.build_queue.specs.BookState.{BookState}
use Rattle.nav_book.specs.LevelResults.{published_mesh}
use Rattle.tile_changes.specs.Changes.{HasSameLinks, HasSameTiles, IsChanged}
use Rattle.nav_handle.specs.Statuses as status
use Rattle.nav_handle.specs.Answers.{EndsSo, IsAnswered}
use Rattle.nav_handle.specs.Wire.{laid}

-- a list has the tiles that changed since a length, rising; all else is as it was at that length
pub record AreTilesSince (state : BookState) (since : ℕ) (tiles : List ℕ) : Type 0 where
  pub exact : (tile : ℕ) → Contains tiles tile ↔ IsChanged state.ground state.history since state.published tile
  pub rising : AllPairs (λ a b. a < b) tiles
  pub frame : HasSameTiles tiles (build_of state.ground state.history since) (published_mesh state)
  pub links : HasSameLinks tiles (build_of state.ground state.history since) (published_mesh state)

-- they were asked for: they are told as far as there is room, with how many there are, unless memory is refused; where not so
-- much is published the number is out of its limits; and where there is no level, nothing is told
abbrev pub AreChanged : Option BookState → ℕ → ℕ × List ℕ → ℕ × List ℕ → ℕ → Type 0
AreChanged None since before after ended = EndsSo status.empty before after ended
AreChanged (Some state) since before after ended =
    ((state.published < since) × EndsSo status.out_of_range before after ended)
    ⊎ ((since ≤ state.published) × (IsAnswered (AreTilesSince state since) (λ tiles. status.ok) (λ tiles room. (length tiles, laid tiles room.1))
    before after ended ⊎ EndsSo status.no_memory before after ended))
