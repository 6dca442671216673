-- The setting and the slope that a host asks for.
use Rattle.std.specs.Prelude.{◌≡◌, ◌≤◌, ◌<◌, not, ◌==◌, if◌then◌else◌, replicate}
use Rattle.nav_ground.specs.declared.setting.Setting.{Setting}
use Rattle.nav_ground.specs.declared.setting.MeshKind.TheVariants.{Strips, Contours}
use Rattle.mesh_input.specs.declared.slope.Slope.{Slope}
use Rattle.mesh_handle.specs.declared.wire.NavdSetting.{NavdSetting}
use Rattle.mesh_handle.specs.declared.wire.NavdSlope.{NavdSlope}

-- a setting as it is asked for; each area costs 1
abbrev pub setting_of : NavdSetting → Setting
setting_of asked = record {
  width = asked.width;
  depth = asked.depth;
  tile = asked.tile;
  agent = record { height = asked.height; climb = asked.climb; radius = asked.radius };
  error = asked.error;
  mesh = if asked.contours == 0 then Strips else Contours;
  limit = asked.limit;
  costs = replicate 64 1;
  clear = not (asked.clear == 0);
}

-- a slope is the one that is asked for, in its limits
pub record IsSlopeOf (asked : NavdSlope) (slope : Slope) : Type 0 where
  pub rise : slope.rise ≡ asked.rise
  pub run : slope.run ≡ asked.run
  pub both_sides : slope.both_sides ≡ not (asked.both_sides == 0)

-- the limits of a setting, in three parts
pub record HasSizes (asked : NavdSetting) : Type 0 where
  pub wide : 1 ≤ asked.width
  pub width : asked.width ≤ 1024
  pub deep : 1 ≤ asked.depth
  pub depth : asked.depth ≤ 1024
  pub tile_least : 4 ≤ asked.tile
  pub tile_most : asked.tile ≤ 128

pub record HasAgent (asked : NavdSetting) : Type 0 where
  pub stands : 1 ≤ asked.height
  pub low_enough : asked.height ≤ 255
  pub climb : asked.climb < asked.height
  pub radius : asked.radius ≤ 15

pub record HasRest (asked : NavdSetting) : Type 0 where
  pub error : asked.error ≤ 10000
  pub limit_least : 1 ≤ asked.limit
  pub limit_most : asked.limit ≤ 1024
