-- What contracts see of the field of a stage, and what it keeps between two calls.
use Rattle.std.specs.Prelude.{◌≡◌, Some}
use Rattle.left_right.specs.Sides.{view}
use Rattle.nav_version.specs.declared.version.PublishedVersion.{PublishedVersion}
use Rattle.nav_version.specs.declared.version.HeldVersion.TheInside as stage
use Rattle.nav_version.specs.VersionRule.{IsShown}

abbrev pub stage_view : stage.Inside → PublishedVersion
stage_view inside = inside.writer.desk.shown.value

-- what is shown is right, and known
pub record IsStageKept (inside : stage.Inside) : Type 0 where
  pub is : IsShown inside.writer.desk.shown.value
  pub knows : view inside.writer.desk.place ≡ Some inside.writer.desk.shown.value
