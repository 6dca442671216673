-- Work: how many tiles a play builds.
use Rattle.std.specs.Prelude.{ℕ, ◌+◌, List, [], ◌∷◌, length}
use Rattle.nav_ground.specs.declared.setting.Setting.{Setting}
use Rattle.nav_ground.specs.declared.field.Field.{Field}
use Rattle.nav_ground.specs.Tiling.{tile_count}
use Rattle.nav_script.specs.declared.script.Line.{Line}
use Rattle.nav_script.specs.declared.script.Line.TheVariants.{Settle, Claim}
use Rattle.nav_script.specs.declared.script.Script.{Script}
use Rattle.nav_play.specs.Jobs.{jobs_of_claim}
use Rattle.nav_play.specs.PlayStates.{PlayState, first_state_of, held_by, state_after}
use Rattle.nav_book.specs.Settling.{awaited_tiles, settling}

-- how many claims of a line give a tile: one at most of a `claim` line, and those of a `settle` line, one for each tile that is awaited then
abbrev pub jobs_of : PlayState → Line → ℕ
jobs_of state Settle = length (awaited_tiles (settling state.book))
jobs_of state (Claim worker) = jobs_of_claim state.book (held_by state worker)
jobs_of state _ = 0

-- how many claims of lines give a tile, one line after another
unfoldable pub jobs_from : PlayState → List Line → ℕ
jobs_from state [] = 0
jobs_from state (line ∷ lines) = jobs_of state line + jobs_from (state_after state line) lines

-- a play builds each tile at its beginning, and one tile for each claim that gives one
abbrev pub builds_of : Setting → Field → Script → ℕ
builds_of setting field script = tile_count setting + jobs_from (first_state_of setting field script) script.lines
