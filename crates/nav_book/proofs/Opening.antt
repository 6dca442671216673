-- The versions that a book opens with and is renewed with keep the rules of versions.
use Rattle.std.proofs.Common.{◌≡◌, ◌<◌, [], List, length, ap, ◌∙◌, sym, subst, arith}
use Rattle.std.specs.Arc.{arc_value}
use Rattle.std.specs.Prelude.{All}
use Rattle.std.proofs.lemmas.List.Elements.{All-nil}
use Rattle.nav_ground.specs.declared.history.Entry.{Entry}
use Rattle.nav_ground.specs.declared.history.Ground.{Ground}
use Rattle.nav_ground.specs.Grounds.{IsGround}
use Rattle.nav_ground.specs.History.{IsRequest}
use Rattle.mesh_types.specs.Builds.{build_of}
use Rattle.mesh_types.specs.Soundness.{IsSound}
use Rattle.nav_version.specs.declared.version.Version.{Version}
use Rattle.nav_version.specs.Versions.{IsVersion}

-- a version with the mesh of a ground after some entries
pub version_is : (ground : Ground) (entries : List Entry) (version : Version) → IsGround ground → length entries < 4294967295
    → All (λ (entry : Entry). IsRequest entry.request) entries → arc_value version.ground ≡ ground → version.entries ≡ entries → version.mesh ≡ build_of ground entries (length entries) → IsSound version.mesh → IsVersion version
version_is ground entries version rules' few requests level are is sound' = record {
  ground = subst IsGround (sym level) rules';
  few = omega (arith, few, ap (λ (list : List Entry). length list) are);
  requests = subst (λ (list : List Entry). All (λ (entry : Entry). IsRequest entry.request) list) (sym are) requests;
  mesh = is ∙ (λ i. build_of (sym level i) (sym are i) (length (sym are i)));
  sound = sound';
}

-- without entries
pub opening_is : (ground : Ground) (version : Version) → IsGround ground → arc_value version.ground ≡ ground → version.entries ≡ []
    → version.mesh ≡ build_of ground [] 0 → IsSound version.mesh → IsVersion version
opening_is ground version rules' level none is sound' =
    version_is ground [] version rules' (omega arith) (All-nil (λ (entry : Entry). IsRequest entry.request)) level none is sound'
