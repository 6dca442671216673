-- What is the same at two lengths of a history: the tiles that are not changed, and the links between them.
use Rattle.std.proofs.Common.{◌≡◌, ℕ, ◌<◌, ◌≤◌, List, get_or, Some, sym, ap, ◌∙◌, subst, arith, inl, inr}
use Rattle.std.specs.Prelude.{All, Contains, slice_get, ◌↔◌}
use Rattle.std.proofs.lemmas.Bool.{cases_lt}
use Rattle.std.proofs.lemmas.Option.{slice_get-get_or, slice_get_past}
use Rattle.nav_ground.specs.declared.cell.Layer.{Layer}
use Rattle.nav_ground.specs.declared.history.Entry.{Entry}
use Rattle.nav_ground.specs.declared.history.Ground.{Ground}
use Rattle.nav_ground.specs.declared.shape.Shape.{Shape}
use Rattle.nav_ground.specs.Cells.{IsInTile}
use Rattle.nav_ground.specs.Grounds.{IsGround}
use Rattle.nav_ground.specs.History.{IsRequest, shapes_alive}
use Rattle.nav_ground.specs.Layers.{cells_of, kept_cells_of, layer_of}
use Rattle.nav_ground.specs.Tiling.{tile_count}
use Rattle.nav_ground.specs.Touching.{touching_shapes}
use Rattle.nav_ground.proofs.LayerLaws.{IsLayerOf-from_ground, layer_of_ground, length-layers_of_ground, wide_within}
use Rattle.mesh_types.specs.declared.links.Link.{Link}
use Rattle.mesh_types.specs.declared.mesh.TileMesh.{TileMesh}
use Rattle.mesh_types.specs.Builds.{build_of, tile_mesh_of}
use Rattle.mesh_types.specs.Corridors.{IsLinkOf}
use Rattle.mesh_types.specs.WholeMesh.{mesh_of}
use Rattle.tile_build.specs.Meshes.{tiles_under}
use Rattle.tile_build.proofs.BuildTotals.{alive_limits}
use Rattle.tile_build.proofs.BuiltTiles.{are_tiles, get_or-tiles_under, length-tiles_under}
use Rattle.tile_build.proofs.LocalTiles.{tile_mesh_local}
use Rattle.tile_changes.specs.Changes.{HasSameLinks, HasSameTiles, IsChanged}
use Rattle.nav_book.proofs.Differing.{kept_link}
use Rattle.tile_changes.proofs.SameShapes.{same_touching}

-- the mesh of a tile is that under the shapes that touch it
touched_tile : (ground : Ground) (shapes : List Shape) (tile : ℕ) (d : TileMesh) → IsGround ground → tile < tile_count ground.setting
    → get_or (tiles_under ground shapes) tile d
    ≡ tile_mesh_of ground.setting (layer_of ground.setting ground.field tile) (touching_shapes ground.setting tile shapes)
unfolding layer_of
touched_tile ground shapes tile d rules' there =
    let layer : Layer = layer_of ground.setting ground.field tile in
    let inside : IsInTile ground.setting layer.tile layer.cells =
    subst (λ (e : Layer). IsInTile ground.setting e.tile e.cells) (layer_of_ground ground tile layer rules' there)
    (IsLayerOf-from_ground ground rules' tile layer (omega (arith, there, length-layers_of_ground ground rules'))).inside in
    get_or-tiles_under ground shapes tile d rules' there
    ∙ sym (tile_mesh_local ground.setting layer shapes inside (wide_within ground.setting (cells_of ground.setting ground.field) (kept_cells_of ground.setting ground.field) tile))

module _ (ground : Ground) (history : List Entry) (a b : ℕ) (rules' : IsGround ground) (requests : All (λ (entry : Entry). IsRequest entry.request) history)
    (order : a ≤ b) where
  same_tile : (tile : ℕ) → (IsChanged ground history a b tile → ⊥)
      → slice_get (tiles_under ground (shapes_alive history a)) tile ≡ slice_get (tiles_under ground (shapes_alive history b)) tile
  same_tile tile unchanged = elim (cases_lt tile (tile_count ground.setting)) [
    | inl there ↦
        let d : TileMesh = tile_mesh_of ground.setting (layer_of ground.setting ground.field tile) (shapes_alive history a) in
        slice_get-get_or (tiles_under ground (shapes_alive history a)) tile d (omega (arith, there, length-tiles_under ground (shapes_alive history a) rules'))
        ∙ ap (λ (t : TileMesh). Some t) (touched_tile ground (shapes_alive history a) tile d rules' there
        ∙ ap (tile_mesh_of ground.setting (layer_of ground.setting ground.field tile)) (same_touching ground history a b tile rules'.setting requests order there unchanged)
        ∙ sym (touched_tile ground (shapes_alive history b) tile d rules' there))
        ∙ sym (slice_get-get_or (tiles_under ground (shapes_alive history b)) tile d
        (omega (arith, there, length-tiles_under ground (shapes_alive history b) rules')))
    | inr past ↦
        slice_get_past (tiles_under ground (shapes_alive history a)) tile (omega (arith, past, length-tiles_under ground (shapes_alive history a) rules'))
        ∙ sym (slice_get_past (tiles_under ground (shapes_alive history b)) tile
        (omega (arith, past, length-tiles_under ground (shapes_alive history b) rules')))
  ]

  one_way : (j k : ℕ) (link : Link)
      → slice_get (tiles_under ground (shapes_alive history j)) link.from.tile ≡ slice_get (tiles_under ground (shapes_alive history k)) link.from.tile
      → slice_get (tiles_under ground (shapes_alive history j)) link.to.tile ≡ slice_get (tiles_under ground (shapes_alive history k)) link.to.tile
      → IsLinkOf (build_of ground history j) link → IsLinkOf (build_of ground history k) link
  unfolding build_of
  one_way j k link from to is =
      kept_link ground.setting (tiles_under ground (shapes_alive history j)) (tiles_under ground (shapes_alive history k))
      (are_tiles ground (shapes_alive history j) rules' (alive_limits history j requests)).in_order link from to is

  module _ (told : List ℕ) (exact : (tile : ℕ) → Contains told tile ↔ IsChanged ground history a b tile) where
    untold : (tile : ℕ) → (Contains told tile → ⊥)
        → slice_get (tiles_under ground (shapes_alive history a)) tile ≡ slice_get (tiles_under ground (shapes_alive history b)) tile
    untold tile none = same_tile tile (λ changed. none ((exact tile).1 changed))

    pub same_tiles : HasSameTiles told (build_of ground history a) (build_of ground history b)
    unfolding build_of mesh_of
    same_tiles tile none = untold tile none

    pub same_links : HasSameLinks told (build_of ground history a) (build_of ground history b)
    same_links link from to = (
      one_way a b link (untold link.from.tile from) (untold link.to.tile to),
      one_way b a link (sym (untold link.from.tile from)) (sym (untold link.to.tile to)),
    )
