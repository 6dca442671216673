-- What contracts see of the fields of a press and an eye, and what these keep between two calls.
use Rattle.std.specs.Arc.{arc_value}
use Rattle.left_right.specs.Sides.{view}
use Rattle.nav_version.specs.declared.press.Press.TheInside as press
use Rattle.nav_version.specs.declared.eye.Eye.TheInside as eye
use Rattle.nav_version.specs.Pairs.{PressView, EyeView, press_of, eye_of}
use Rattle.nav_version.specs.VersionRule.{IsKept, IsKnownOf, ground_known}

abbrev pub press_view : press.Inside → PressView
press_view inside = let shown = inside.stage in press_of inside.history.pair (arc_value shown.version.ground) shown.told.entries

abbrev pub IsPressKept : press.Inside → Type 0
IsPressKept inside = IsKept inside.stage.told inside.history inside.ahead

-- an eye's ground is that of the version that its reader knows
abbrev pub eye_view : eye.Inside → EyeView
eye_view inside = eye_of inside.told.pair (ground_known (view inside.reader.place)) inside.told.entries

-- what an eye knows is of its pair
abbrev pub IsEyeKept : eye.Inside → Type 0
IsEyeKept inside = IsKnownOf inside.told.pair (view inside.reader.place)
