-- What kinds are opened over.
use Rattle.std.specs.Prelude.{◌≡◌, ◌≤◌, List, length, map, All}
use Rattle.std.specs.List.{Contains}
use Rattle.nav_ground.specs.declared.setting.Setting.{Setting}
use Rattle.nav_ground.specs.declared.field.Field.{Field}
use Rattle.nav_ground.specs.Grounds.{IsSized}
use Rattle.nav_ground.specs.Limits.{IsSetting}
use Rattle.build_queue.specs.BookState.{BookState, first_state}
use Rattle.nav_book.specs.Openings.{ground_of}

-- one to sixteen settings of the size of a field, with one limit of obstacles
pub record AreKindSettings (settings : List Setting) (field : Field) : Type 0 where
  pub some : 1 ≤ length settings
  pub few : length settings ≤ 16
  pub rules : All IsSetting settings
  pub sized : All (λ (setting : Setting). IsSized setting field) settings
  pub limit : (a b : Setting) → Contains settings a → Contains settings b → a.limit ≡ b.limit

-- the kinds of these settings over a field, without entries
abbrev pub first_kinds : List Setting → Field → List BookState
first_kinds settings field = map (λ (setting : Setting). first_state (ground_of setting field)) settings
