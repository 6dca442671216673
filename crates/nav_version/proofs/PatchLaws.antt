-- A version's mesh is whole, and so is the one that a patch makes of it; and the version that comes next keeps the rules of versions.
use Rattle.std.proofs.Common.{◌≡◌, ℕ, ◌++◌, List, length, refl, sym, ap, ◌∙◌, subst, arith}
use Rattle.std.specs.Arc.{arc_value}
use Rattle.std.specs.Prelude.{All}
use Rattle.std.proofs.lemmas.List.Elements.{All-append}
use Rattle.nav_ground.specs.declared.history.Entry.{Entry}
use Rattle.nav_ground.specs.declared.history.Ground.{Ground}
use Rattle.nav_ground.specs.Grounds.{IsGround}
use Rattle.nav_ground.specs.History.{IsRequest}
use Rattle.nav_ground.specs.Limits.{IsSetting}
use Rattle.mesh_types.specs.declared.mesh.Mesh.{Mesh}
use Rattle.mesh_types.specs.Builds.{build_of}
use Rattle.mesh_types.specs.Soundness.{IsSound}
use Rattle.mesh_types.specs.WholeMesh.{mesh_of}
use Rattle.tile_links.specs.NewTiles.{IsWhole, New, tiles_after}
use Rattle.nav_version.specs.declared.press.Patch.{Patch}
use Rattle.nav_version.specs.declared.version.Version.{Version}
use Rattle.nav_version.specs.Pairs.{IsNext, IsPatch}
use Rattle.nav_version.specs.Versions.{IsVersion}

setting_of_build : (ground : Ground) (entries : List Entry) (k : ℕ) → (build_of ground entries k).setting ≡ ground.setting
unfolding build_of mesh_of
setting_of_build ground entries k = refl

build_is_whole : (ground : Ground) (entries : List Entry) (k : ℕ) → build_of ground entries k ≡ mesh_of (build_of ground entries k).setting (build_of ground entries k).tiles
unfolding build_of mesh_of
build_is_whole ground entries k = refl

-- a version's mesh has its ground's setting
pub setting_of_version : (version : Version) → IsVersion version → version.mesh.setting ≡ (arc_value version.ground).setting
setting_of_version version rules' =
    ap (λ (mesh : Mesh). mesh.setting) rules'.mesh ∙ setting_of_build (arc_value version.ground) version.entries (length version.entries)

pub IsSetting-of_version : (version : Version) → IsVersion version → IsSetting version.mesh.setting
IsSetting-of_version version rules' = subst IsSetting (sym (setting_of_version version rules')) rules'.ground.setting

pub IsWhole-of_version : (version : Version) → IsVersion version → IsWhole version.mesh
IsWhole-of_version version rules' = record {
  tiles = rules'.sound.tiles;
  is = subst (λ (mesh : Mesh). mesh ≡ mesh_of mesh.setting mesh.tiles) (sym rules'.mesh)
      (build_is_whole (arc_value version.ground) version.entries (length version.entries));
}

-- the mesh that a patch leaves can be published with the patch's entries
pub IsNext-of_patch : (last : Version) (patch : Patch) (news : List New) (mesh : Mesh) → IsVersion last → IsPatch (arc_value last.ground) last.entries patch
    → mesh ≡ mesh_of last.mesh.setting (tiles_after news last.mesh.tiles) → news ≡ patch.tiles.items → IsSound mesh
    → IsNext (arc_value last.ground) last.entries patch.entries mesh
IsNext-of_patch last patch news mesh rules' may is are sound' =
    let setting = setting_of_version last rules' in
    let tiles = ap (λ (m : Mesh). m.tiles) rules'.mesh in
    record {
      few = may.few;
      requests = may.requests;
      shows = is ∙ (λ i. mesh_of (setting i) (tiles_after (are i) (tiles i))) ∙ may.mesh;
      sound = sound';
    }

-- the version after further entries, with a mesh that can be published with them, keeps the rules of versions
pub IsVersion-next : (last next : Version) (more : List Entry) (mesh : Mesh) → IsVersion last → IsNext (arc_value last.ground) last.entries more mesh
    → arc_value next.ground ≡ arc_value last.ground → next.entries ≡ last.entries ++ more → next.mesh ≡ mesh → IsVersion next
IsVersion-next last next more mesh rules' may ground entries is = record {
  ground = subst IsGround (sym ground) rules'.ground;
  few = let few = may.few in omega (arith, ap (λ (list : List Entry). length list) entries);
  requests = subst (λ (list : List Entry). All (λ (entry : Entry). IsRequest entry.request) list) (sym entries)
      (All-append (λ (entry : Entry). IsRequest entry.request) last.entries more rules'.requests may.requests);
  mesh = is ∙ may.shows ∙ (λ i. build_of (sym ground i) (sym entries i) (length (sym entries i)));
  sound = subst IsSound (sym is) may.sound;
}
