-- The rule of published versions, which holds between any two steps, and its four kinds of step.
use Rattle.std.specs.Prelude.{◌≡◌, ◌<◌, ℕ, false, List, [], ◌++◌, Option, Some, None, IfSome, length}
use Rattle.std.specs.Option.{option_map}
use Rattle.std.specs.Arc.{arc_value}
use mathlib.Core.Option.{some}
use mathlib.Core.List.{IsPrefix}
use lib.ListN.{get_elem?}
use Rattle.logbook.specs.Pages.{Book}
use Rattle.nav_ground.specs.declared.history.Entry.{Entry}
use Rattle.nav_ground.specs.declared.history.Ground.{Ground}
use Rattle.nav_ground.specs.declared.setting.MeshKind.TheVariants.{Strips}
use Rattle.mesh_types.specs.declared.mesh.Mesh.{Mesh}
use Rattle.mesh_types.specs.Builds.{build_of}
use Rattle.nav_version.specs.declared.version.PublishedVersion.{PublishedVersion}
use Rattle.nav_version.specs.Lists.{ToldView}
use Rattle.nav_version.specs.Rules.{KeepRules}
use Rattle.nav_version.specs.Versions.{IsVersion}

-- what a shown version is of: its pair, and that pair's ground
abbrev pub origin : PublishedVersion → Book × Ground
origin shown = (shown.told.pair, arc_value shown.version.ground)

-- a ground of no columns
abbrev pub no_ground : Ground
no_ground = record {
  setting = record {
    width = 0;
    depth = 0;
    tile = 0;
    agent = record { height = 0; climb = 0; radius = 0 };
    error = 0;
    mesh = Strips;
    limit = 0;
    costs = [];
    clear = false;
  };
  field = record { width = 0; depth = 0; spans = [] };
  layers = [];
}

-- the ground of a version that is known. Where none is known it is one of no columns
abbrev pub ground_known : Option PublishedVersion → Ground
ground_known (Some once) = arc_value once.version.ground
ground_known None = no_ground

-- what is known is a version of this pair
abbrev pub IsKnownOf : Book → Option PublishedVersion → Type 0
IsKnownOf pair known = option_map origin known ≡ Some (pair, ground_known known)

-- what is shown keeps the rules of versions, and its list is the version's entries
pub record IsShown (shown : PublishedVersion) : Type 0 where
  pub rules : IsVersion shown.version
  pub list : shown.told.entries ≡ shown.version.entries

-- what is shown after what was shown last
abbrev pub next_of : PublishedVersion → PublishedVersion → PublishedVersion
next_of last next = next

-- what is shown goes on from a version that was shown once: it is of the same pair and ground, and its list begins with the one of that version
pub record GoesOn (once shown : PublishedVersion) : Type 0 where
  pub same : origin once ≡ origin shown
  pub begins : IsPrefix once.told.entries shown.told.entries

-- what is known is a version that was shown once, if any: what is shown goes on from it
abbrev pub IsSo : PublishedVersion → Option PublishedVersion → Type 0
IsSo shown known = IfSome known (λ once. GoesOn once shown)

-- the rule: what is shown is right, and goes on from what the press and each eye know. So what is shown only grows
pub record Stands (shown : PublishedVersion) (known : List (Option PublishedVersion)) : Type 0 where
  pub is : IsShown shown
  pub each : (seat : ℕ) (one : Option PublishedVersion) → get_elem? known seat ≡ some one → IsSo shown one

-- what the press keeps: the list that is shown is of the history's pair, and begins the history. It is the whole history, but for those entries
-- with which the history is ahead
pub record IsKept (told history : ToldView) (ahead : Option (List Entry)) : Type 0 where
  pub pair : told.pair ≡ history.pair
  pub begins : IsPrefix told.entries history.entries
  pub whole : IfSome ahead (λ more. history.entries ≡ told.entries ++ more)

-- publish: the next version is shown, and the press knows it
abbrev pub Publishes : Option PublishedVersion → PublishedVersion → PublishedVersion → Option PublishedVersion → Type 0
Publishes before last next after = after ≡ Some next

-- enter: the eye takes what is shown, which is right and goes on from what the eye knew; the eye knows that then
pub record Enters (before : Option PublishedVersion) (shown same : PublishedVersion) (after : Option PublishedVersion) : Type 0 where
  pub is : IsShown shown
  pub so : IsSo shown before
  pub knows : after ≡ Some shown

-- an eye took a version that is shown: it is right, and goes on from what the eye knew
pub record IsTaken (known : Option PublishedVersion) (taken : PublishedVersion) : Type 0 where
  pub is : IsShown taken
  pub so : IsSo taken known

-- an eye has taken a version, and knows it
pub record Takes (before after : Option PublishedVersion) : Type 0 where
  pub shown : PublishedVersion
  pub taken : IsTaken before shown
  pub knows : after ≡ Some shown

-- a version that was shown answered a question: its list goes on from the one that was seen and has fewer entries than a
-- u32 can count, ground and list keep their rules, and the answer is right in its mesh, which is that of the ground and the list
pub record HasFound {A : Type 0} (right : Mesh → A → Type 0) (ground : Ground) (seen : ToldView) (found : ToldView × A) : Type 0 where
  pub pair : found.0.pair ≡ seen.pair
  pub goes_on : IsPrefix seen.entries found.0.entries
  pub few : length found.0.entries < 4294967295
  pub rules : KeepRules ground found.0.entries
  pub right_there : right (build_of ground found.0.entries (length found.0.entries)) found.1
