-- The settings of kinds that can be opened.
use Rattle.std.proofs.Common.{◌≡◌, ℕ, ◌≤◌, ◌<◌, List, length, get_or, refl, sym, ap, ◌∙◌, arith}
use Rattle.std.specs.List.{Contains}
use Rattle.std.proofs.lemmas.List.{get_or-map, length-map}
use Rattle.std.proofs.lemmas.List.Elements.{All-map}
use Rattle.nav_ground.specs.declared.setting.Setting.{Setting}
use Rattle.nav_ground.specs.Fields.{IsField}
use Rattle.nav_ground.specs.Grounds.{IsSized}
use Rattle.nav_ground.specs.Limits.{IsSetting}
use Rattle.mesh_handle.specs.Settings.{setting_of}
use Rattle.path_queries.specs.Filters.{AreCosts}
use Rattle.agent_kinds.specs.KindOpenings.{AreKindSettings}
use Rattle.kinds_handle.specs.declared.wire.NavdGround.{NavdGround}
use Rattle.kinds_handle.specs.declared.wire.NavdKind.{NavdKind}
use Rattle.kinds_handle.specs.declared.wire.NavdSpan.{NavdSpan}
use Rattle.kinds_handle.specs.KindSettings.{CanOpenKinds, asked_of, kind_setting, kind_settings}
use Rattle.kinds_handle.specs.KindSpans.{field_of}
use Rattle.kinds_handle.proofs.SpanOrder.{field_made}

-- a setting with other costs
with_costs_rules : (setting : Setting) (costs : List ℕ) → IsSetting setting → AreCosts costs → IsSetting (record setting { costs = costs })
with_costs_rules setting costs is are = record {
  wide = is.wide;
  width = is.width;
  deep = is.deep;
  depth = is.depth;
  tile_least = is.tile_least;
  tile_most = is.tile_most;
  agent = is.agent;
  error = is.error;
  limit_least = is.limit_least;
  limit_most = is.limit_most;
  areas = are.areas;
  costs = are.each;
  clear = is.clear;
}

-- a kind that stands for none
abbrev no_kind : NavdKind
no_kind = record { height = 0; climb = 0; radius = 0; clear = 0; tile = 0 }

-- all settings have the limit of the ground
limit_told : (ground : NavdGround) (costs : List ℕ) (kinds : List NavdKind) (setting : Setting) → Contains (kind_settings ground costs kinds) setting
    → setting.limit ≡ ground.limit
limit_told ground costs kinds setting has =
    let within : has.0 < length kinds = omega (arith, has.1, length-map kinds (kind_setting ground costs)) in
    ap (λ (s : Setting). s.limit) (sym has.2 ∙ get_or-map (kind_setting ground costs) kinds has.0 no_kind setting within)

pub settings_made : (ground : NavdGround) (kinds : List NavdKind) (costs : List ℕ) (spans : List NavdSpan) → CanOpenKinds ground kinds costs spans
    → AreKindSettings (kind_settings ground costs kinds) (field_of ground spans)
settings_made ground kinds costs spans can =
    let many : length (kind_settings ground costs kinds) ≡ length kinds = length-map kinds (kind_setting ground costs) in
    record {
      some = omega (arith, many, can.some);
      few = omega (arith, many, can.few);
      rules = All-map IsSetting (kind_setting ground costs) kinds
          (λ k d there. with_costs_rules _ costs (can.kinds_rules k d there) can.costs_rules);
      sized = All-map (λ (setting : Setting). IsSized setting (field_of ground spans)) (kind_setting ground costs) kinds
          (λ k d there. record { width = refl; depth = refl });
      limit = λ a b one other. limit_told ground costs kinds a one ∙ sym (limit_told ground costs kinds b other);
    }

-- the sides of a ground with a kind
pub ground_rules : (ground : NavdGround) (kinds : List NavdKind) (costs : List ℕ) (spans : List NavdSpan) → CanOpenKinds ground kinds costs spans
    → IsSetting (setting_of (asked_of ground (get_or kinds 0 no_kind)))
ground_rules ground kinds costs spans can = can.kinds_rules 0 no_kind can.some

pub field_rules : (ground : NavdGround) (kinds : List NavdKind) (costs : List ℕ) (spans : List NavdSpan) → CanOpenKinds ground kinds costs spans
    → length spans ≤ 2000000 → IsField (field_of ground spans)
field_rules ground kinds costs spans can few =
    let is = ground_rules ground kinds costs spans can in
    field_made ground spans is.wide is.width is.deep is.depth few can.spans_rules
