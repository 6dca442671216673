-- Refused: which places are left.
use Rattle.std.specs.Prelude.{◌≡◌, List, Err, ⊤}
use Rattle.nav_base.specs.declared.point.Point.{Point}
use Rattle.mesh_types.specs.Ears.{ears_of}
use Rattle.ear_cut.specs.declared.cut.EarRefusal.{EarRefusal}
use Rattle.ear_cut.specs.declared.cut.EarRefusal.TheVariants as refusals

-- where there is no ear, those places of the outline are left
abbrev pub IsLeft : List Point → EarRefusal → Type 0
IsLeft corners (refusals.NoEar left) = ears_of corners ≡ Err left
IsLeft corners refusals.OutOfMemory = ⊤
