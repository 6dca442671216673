-- What an eye finds in a version that is shown.
use Rattle.std.proofs.Common.{◌≡◌, ◌<◌, List, length, sym, ap, ◌∙◌, subst}
use Rattle.std.specs.Prelude.{All}
use Rattle.std.specs.Arc.{arc_value}
use mathlib.Core.List.{IsPrefix}
use Rattle.nav_ground.specs.declared.history.Entry.{Entry}
use Rattle.nav_ground.specs.declared.history.Ground.{Ground}
use Rattle.nav_ground.specs.History.{IsRequest}
use Rattle.mesh_types.specs.declared.mesh.Mesh.{Mesh}
use Rattle.mesh_types.specs.Builds.{build_of}
use Rattle.nav_version.specs.declared.version.PublishedVersion.{PublishedVersion}
use Rattle.nav_version.specs.declared.version.Version.{Version}
use Rattle.nav_version.specs.Lists.{ToldView}
use Rattle.nav_version.specs.Pairs.{EyeView, HasLooked, eye_of}
use Rattle.nav_version.specs.Rules.{KeepRules}
use Rattle.nav_version.specs.VersionRule.{HasFound, IsShown}

module _ {A : Type 0} (right : Mesh → A → Type 0) where
  -- an answer that is right in the mesh of a version is right for its ground and its list
  pub HasFound-in : (shown : PublishedVersion) (version : Version) (seen : ToldView) (found : ToldView × A) → IsShown shown → version ≡ shown.version
      → seen.pair ≡ shown.told.pair → IsPrefix seen.entries shown.told.entries → found.0 ≡ shown.told → right version.mesh found.1
      → HasFound right (arc_value shown.version.ground) seen found
  HasFound-in shown version seen found is same pair goes_on told answered =
      let list : found.0.entries ≡ shown.version.entries = ap (λ (t : ToldView). t.entries) told ∙ is.list in
      record {
        pair = ap (λ (t : ToldView). t.pair) told ∙ sym pair;
        goes_on = subst (λ (t : ToldView). IsPrefix seen.entries t.entries) (sym told) goes_on;
        few = subst (λ (entries : List Entry). length entries < 4294967295) (sym list) is.rules.few;
        rules = record {
          level = is.rules.ground;
          requests = subst (λ (entries : List Entry). All (λ (entry : Entry). IsRequest entry.request) entries) (sym list) is.rules.requests;
        };
        right_there = subst (λ (mesh : Mesh). right mesh found.1)
            (ap (λ (v : Version). v.mesh) same ∙ is.rules.mesh ∙ (λ i. build_of (arc_value shown.version.ground) (sym list i) (length (sym list i))))
            answered;
      }

  -- an eye that takes in what was found has looked
  pub HasLooked-found : (before : EyeView) (ground now : Ground) (seen : ToldView) (found : ToldView × A)
      → now ≡ ground → eye_of seen.pair ground seen.entries ≡ before → HasFound right ground seen found
      → HasLooked before (eye_of found.0.pair now found.0.entries)
  HasLooked-found before ground now seen found same is has =
      subst (λ (eye : EyeView). HasLooked eye (eye_of found.0.pair now found.0.entries)) is
      (record {
        pair = has.pair;
        ground = same;
        seen = has.goes_on;
        few = has.few;
        rules = subst (λ (g : Ground). KeepRules g found.0.entries) (sym same) has.rules;
      })
