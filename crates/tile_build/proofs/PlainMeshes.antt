-- Without shapes, what agents keep from obstacles changes nothing of the mesh of a ground.
use Rattle.std.proofs.Common.{◌≡◌, ℕ, List, [], map, ap, ◌∙◌, sym, refl}
use Rattle.std.specs.List.{range_with_len}
use Rattle.std.proofs.lemmas.Simd.{map-map}
use Rattle.nav_ground.specs.declared.setting.MeshKind.{MeshKind}
use Rattle.nav_ground.specs.declared.setting.MeshKind.TheVariants.{Strips, Contours}
use Rattle.nav_ground.specs.declared.setting.Setting.{Setting}
use Rattle.nav_ground.specs.declared.field.Field.{Field}
use Rattle.nav_ground.specs.declared.cell.FreeLayer.{FreeLayer}
use Rattle.nav_ground.specs.declared.cell.Layer.{Layer}
use Rattle.nav_ground.specs.declared.history.Ground.{Ground}
use Rattle.nav_ground.specs.Fields.{IsField}
use Rattle.nav_ground.specs.FreeCells.{free_layer_of}
use Rattle.nav_ground.specs.Grounds.{IsGround}
use Rattle.nav_ground.specs.Layers.{layer_of, layers_of}
use Rattle.nav_ground.specs.Limits.{IsSetting}
use Rattle.nav_ground.specs.Tiling.{tile_count}
use Rattle.mesh_types.specs.declared.mesh.TileMesh.{TileMesh}
use Rattle.mesh_types.specs.Builds.{tile_mesh_of, mesh_under}
use Rattle.mesh_types.specs.ContourMeshes.{parts_mesh, contour_mesh_of, mesh_of_kind, mesh_of_free}
use Rattle.mesh_types.specs.StripMeshes.{strip_mesh_of}
use Rattle.mesh_types.specs.WholeMesh.{cross_links, mesh_of}
use Rattle.obstacle_mark.proofs.WholeFree.{free_without_shapes}
use Rattle.tile_build.specs.Meshes.{tiles_of, tiles_under, plain_setting, plain_ground, HasSameParts}

-- the mesh of free cells does not ask what agents keep from obstacles
plain_kind : (kind : MeshKind) (setting : Setting) (free : FreeLayer) → mesh_of_kind kind setting free ≡ mesh_of_kind kind (plain_setting setting) free
unfolding strip_mesh_of contour_mesh_of parts_mesh
plain_kind Strips setting free = refl
plain_kind Contours setting free = refl

plain_free : (setting : Setting) (free : FreeLayer) → mesh_of_free setting free ≡ mesh_of_free (plain_setting setting) free
unfolding mesh_of_free
plain_free setting free = plain_kind setting.mesh setting free

-- and without shapes the free cells of a tile are the same
plain_tile : (setting : Setting) (field : Field) (tile : ℕ) → IsSetting setting → IsField field
    → tile_mesh_of setting (layer_of setting field tile) [] ≡ tile_mesh_of (plain_setting setting) (layer_of (plain_setting setting) field tile) []
plain_tile setting field tile limits rules' =
    ap (mesh_of_free setting) (free_without_shapes setting field tile limits rules')
    ∙ plain_free setting (free_layer_of (layer_of (plain_setting setting) field tile) [])

-- so all tiles are
pub plain_tiles : (ground : Ground) → IsGround ground → tiles_under ground [] ≡ tiles_under (plain_ground ground) []
unfolding layers_of
plain_tiles ground rules' =
    let setting = ground.setting in
    let field = ground.field in
    let tiles : List ℕ = range_with_len 0 (tile_count setting) in
    let same = plain_tile setting field in
    ap (tiles_of setting []) rules'.layers
    ∙ map-map (λ (layer : Layer). tile_mesh_of setting layer []) (layer_of setting field) tiles
    ∙ (λ i. map (λ (tile : ℕ). same tile rules'.setting rules'.field i) tiles)
    ∙ sym (map-map (λ (layer : Layer). tile_mesh_of (plain_setting setting) layer []) (layer_of (plain_setting setting) field) tiles)

-- and the links over their sides
pub plain_parts : (ground : Ground) → IsGround ground → HasSameParts (mesh_under ground []) (mesh_under (plain_ground ground) [])
unfolding mesh_of
plain_parts ground rules' = record {
  tiles = plain_tiles ground rules';
  cross = ap (λ (tiles : List TileMesh). map (cross_links ground.setting tiles) tiles) (plain_tiles ground rules');
}
