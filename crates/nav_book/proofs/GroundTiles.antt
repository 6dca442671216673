-- The tile meshes of a ground under obstacles make its mesh.
use Rattle.std.proofs.Common.{◌≡◌, ℕ, ◌≤◌, List, ◌++◌, length, take, drop, ap, ◌∙◌, refl, sym, subst, arith}
use Rattle.std.proofs.lemmas.List.{length-take-le, take-append-drop}
use Rattle.nav_ground.specs.declared.history.Entry.{Entry}
use Rattle.nav_ground.specs.declared.history.Ground.{Ground}
use Rattle.nav_ground.specs.Grounds.{IsGround}
use Rattle.nav_ground.specs.History.{shapes_alive}
use Rattle.nav_ground.specs.Limits.{IsSetting}
use Rattle.nav_ground.proofs.AliveLaws.{shapes_alive-append}
use Rattle.mesh_types.specs.declared.mesh.Mesh.{Mesh}
use Rattle.mesh_types.specs.declared.mesh.TileMesh.{TileMesh}
use Rattle.mesh_types.specs.Builds.{build_of, mesh_under}
use Rattle.mesh_types.specs.WholeMesh.{mesh_of}
use Rattle.tile_build.specs.Meshes.{tiles_under}
pub use Rattle.tile_build.proofs.BuiltTiles.{are_tiles, get_or-tiles_under, length-tiles_under}

-- they make the mesh of the ground
pub build_from : (ground : Ground) (history : List Entry) (k : ℕ) (tiles : List TileMesh) (mesh : Mesh)
    → tiles ≡ tiles_under ground (shapes_alive history k) → mesh ≡ mesh_of ground.setting tiles → mesh ≡ build_of ground history k
unfolding build_of
build_from ground history k tiles mesh same is = is ∙ ap (mesh_of ground.setting) same

pub tiles_of_build : (ground : Ground) (history : List Entry) (k : ℕ) → (build_of ground history k).tiles ≡ tiles_under ground (shapes_alive history k)
unfolding build_of mesh_of
tiles_of_build ground history k = refl

-- entries after those that a mesh shows do not change it
pub build_of-append : (ground : Ground) (history more : List Entry) (k : ℕ) → k ≤ length history → build_of ground (history ++ more) k ≡ build_of ground history k
unfolding build_of
build_of-append ground history more k within = ap (mesh_under ground) (shapes_alive-append history more k within)

-- and the beginning that a mesh shows makes it alone
pub build_of_beginning : (ground : Ground) (history some : List Entry) (k : ℕ) → k ≤ length history → some ≡ take k history
    → build_of ground some (length some) ≡ build_of ground history k
build_of_beginning ground history some k within is =
    let count : length (take k history) ≡ k = length-take-le k history within in
    (λ i. build_of ground (is i) (length (is i)))
    ∙ ap (build_of ground (take k history)) count
    ∙ sym (build_of-append ground (take k history) (drop k history) k (omega (arith, count)))
    ∙ ap (λ (list : List Entry). build_of ground list k) (take-append-drop k history)

-- it has the ground's setting
pub setting_of_build : (ground : Ground) (history : List Entry) (k : ℕ) → (build_of ground history k).setting ≡ ground.setting
unfolding build_of mesh_of
setting_of_build ground history k = refl

pub IsSetting-of_build : (ground : Ground) (history : List Entry) (k : ℕ) (mesh : Mesh) → IsGround ground → mesh ≡ build_of ground history k
    → IsSetting mesh.setting
IsSetting-of_build ground history k mesh rules' same =
    subst IsSetting (sym (ap (λ (m : Mesh). m.setting) same ∙ setting_of_build ground history k)) rules'.setting

-- it is the whole of its tiles
pub whole_build : (ground : Ground) (history : List Entry) (k : ℕ) → build_of ground history k ≡ mesh_of ground.setting (tiles_under ground (shapes_alive history k))
unfolding build_of
whole_build ground history k = refl

pub build_is_whole : (ground : Ground) (history : List Entry) (k : ℕ) → build_of ground history k ≡ mesh_of (build_of ground history k).setting (build_of ground history k).tiles
unfolding build_of mesh_of
build_is_whole ground history k = refl

-- two histories after which the same shapes are alive have the same mesh
pub same_shapes_build : (ground : Ground) (some history : List Entry) (j k : ℕ) → shapes_alive some j ≡ shapes_alive history k
    → build_of ground some j ≡ build_of ground history k
same_shapes_build ground some history j k same =
    whole_build ground some j ∙ (λ i. mesh_of ground.setting (tiles_under ground (same i))) ∙ sym (whole_build ground history k)
