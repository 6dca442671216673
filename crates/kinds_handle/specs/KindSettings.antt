-- The settings of kinds that a host asks for, and what it can ask for.
use Rattle.std.specs.Prelude.{ℕ, ◌≤◌, ◌==◌, if◌then◌else◌, List, length, map, replicate, All}
use Rattle.nav_ground.specs.declared.setting.Setting.{Setting}
use Rattle.nav_ground.specs.Limits.{IsSetting}
use Rattle.mesh_handle.specs.declared.wire.NavdSetting.{NavdSetting}
use Rattle.mesh_handle.specs.Settings.{setting_of}
use Rattle.path_queries.specs.Filters.{AreCosts}
use Rattle.kinds_handle.specs.declared.wire.NavdGround.{NavdGround}
use Rattle.kinds_handle.specs.declared.wire.NavdKind.{NavdKind}
use Rattle.kinds_handle.specs.declared.wire.NavdSpan.{NavdSpan}
use Rattle.kinds_handle.specs.KindSpans.{AreSpans}

-- the setting of a kind on a ground, as it is asked for
abbrev pub asked_of : NavdGround → NavdKind → NavdSetting
asked_of ground kind = record {
  width = ground.width;
  depth = ground.depth;
  tile = kind.tile;
  height = kind.height;
  climb = kind.climb;
  radius = kind.radius;
  error = ground.error;
  contours = ground.contours;
  limit = ground.limit;
  clear = kind.clear;
}

-- what a sixteenth of a cell of way costs in each area, for all kinds: 1 where nothing is said of it
abbrev pub costs_said : List ℕ → List ℕ
costs_said costs = if length costs == 0 then replicate 64 1 else costs

-- the setting of a kind, and those of all
abbrev pub kind_setting : NavdGround → List ℕ → NavdKind → Setting
kind_setting ground costs kind = record (setting_of (asked_of ground kind)) { costs = costs }

abbrev pub kind_settings : NavdGround → List ℕ → List NavdKind → List Setting
kind_settings ground costs kinds = map (kind_setting ground costs) kinds

-- a kind's numbers and those of the ground are in their limits
abbrev pub IsKindOf : NavdGround → NavdKind → Type 0
IsKindOf ground kind = IsSetting (setting_of (asked_of ground kind))

-- one to sixteen kinds can be opened with costs of areas: all numbers are in their limits, and the spans stand in their order
pub record CanOpenKinds (ground : NavdGround) (kinds : List NavdKind) (costs : List ℕ) (spans : List NavdSpan) : Type 0 where
  pub some : 1 ≤ length kinds
  pub few : length kinds ≤ 16
  pub kinds_rules : All (IsKindOf ground) kinds
  pub costs_rules : AreCosts costs
  pub spans_rules : AreSpans ground spans
