-- What is stored of the tiles of a ground, and what it makes of the published mesh.
use Rattle.std.proofs.Common.{◌≡◌, ◌≢◌, ℕ, ◌<◌, List, [], length, get_or, ap, ◌∙◌, sym, subst, arith, Option, Some, None, ⊎_elim, replicate}
use Rattle.std.specs.Prelude.{All, unwrap_or, slice_set}
use Rattle.std.proofs.lemmas.Bool.{cases_order}
use Rattle.std.proofs.lemmas.List.{get_or-replicate, get_or-set_same, get_or-set_other}
use Rattle.nav_ground.specs.declared.cell.Layer.{Layer}
use Rattle.nav_ground.specs.declared.history.Ground.{Ground}
use Rattle.nav_ground.specs.declared.shape.Shape.{Shape}
use Rattle.nav_ground.specs.Cells.{IsInTile}
use Rattle.nav_ground.specs.Grounds.{IsGround, IsLayerOf}
use Rattle.nav_ground.specs.Layers.{layer_of, cells_of, kept_cells_of}
use Rattle.nav_ground.specs.Limits.{IsShape}
use Rattle.nav_ground.specs.Tiling.{tile_count}
use Rattle.nav_ground.specs.Touching.{touching_shapes}
use Rattle.nav_ground.proofs.LayerLaws.{IsLayerOf-from_ground, length-layers_of_ground, layer_of_ground, wide_within}
use Rattle.mesh_types.specs.declared.mesh.TileMesh.{TileMesh}
use Rattle.mesh_types.specs.Soundness.{AreTiles}
use Rattle.tile_build.specs.Meshes.{tiles_under}
use Rattle.tile_build.proofs.LocalTiles.{tile_mesh_local}
use Rattle.tile_links.specs.NewTiles.{AreNew, tiles_after}
use Rattle.nav_book.specs.LevelResults.{tile_under}
use Rattle.nav_book.specs.Fresh.{AreStored, mesh_at_hand, news_of}
use Rattle.nav_book.proofs.FreshTiles.{are_new, tiles_with_news}
use Rattle.nav_book.proofs.GroundTiles.{are_tiles, length-tiles_under, get_or-tiles_under}

-- the cells of a tile's layer lie in the tile
inside_tile : (ground : Ground) (t : ℕ) → IsGround ground → t < tile_count ground.setting
    → IsInTile ground.setting (layer_of ground.setting ground.field t).tile (layer_of ground.setting ground.field t).cells
inside_tile ground t rules' there =
    let e : Layer = layer_of ground.setting ground.field t in
    subst (λ (layer : Layer). IsInTile ground.setting layer.tile layer.cells) (layer_of_ground ground t e rules' there)
    (IsLayerOf-from_ground ground rules' t e (omega (arith, there, length-layers_of_ground ground rules'))).inside

-- a tile's mesh is that under the shapes that touch it
touched_tile : (ground : Ground) (shapes : List Shape) (t : ℕ) → IsGround ground → t < tile_count ground.setting
    → tile_under ground t (touching_shapes ground.setting t shapes) ≡ tile_under ground t shapes
unfolding layer_of
touched_tile ground shapes t rules' there =
    tile_mesh_local ground.setting (layer_of ground.setting ground.field t) shapes (inside_tile ground t rules' there)
    (wide_within ground.setting (cells_of ground.setting ground.field) (kept_cells_of ground.setting ground.field) t)

-- each stored list is that of the shapes that touch its tile
abbrev pub AreTouching : Ground → List Shape → List (List Shape) → Type 0
AreTouching ground shapes stored = (t : ℕ) → t < tile_count ground.setting → get_or stored t [] ≡ touching_shapes ground.setting t shapes

module _ (ground : Ground) (shapes : List Shape) (stored : List (List Shape)) (rules' : IsGround ground) (touching : AreTouching ground shapes stored) where
  -- then a tile's mesh under its stored list is that under all the shapes
  pub stored_tile : (t : ℕ) (d : TileMesh) → t < tile_count ground.setting
      → tile_under ground t (get_or stored t []) ≡ get_or (tiles_under ground shapes) t d
  stored_tile t d there =
      ap (tile_under ground t) (touching t there) ∙ touched_tile ground shapes t rules' there ∙ sym (get_or-tiles_under ground shapes t d rules' there)

  module _ (fresh : List (Option TileMesh)) (published : List TileMesh) (one_each : length fresh ≡ tile_count ground.setting)
      (ties : AreStored ground stored fresh published) where
    now_is : (t : ℕ) (d : TileMesh) → t < tile_count ground.setting
        → mesh_at_hand fresh published t d ≡ get_or (tiles_under ground shapes) t d
    now_is t d there = ties t d there ∙ stored_tile t d there

    -- so the fresh meshes are new tile meshes
    pub news_are_new : All IsShape shapes → AreNew ground.setting (news_of fresh)
    news_are_new limits =
        are_new ground.setting fresh (tiles_under ground shapes) (are_tiles ground shapes rules' limits) (one_each ∙ sym (length-tiles_under ground shapes rules'))
        (λ t mesh there is. ap (λ (place : Option TileMesh). unwrap_or place (get_or published t mesh)) (sym is) ∙ now_is t mesh (omega (arith, there, one_each)))

    -- and put into the published tiles they make those under all the shapes
    pub tiles_renewed : AreTiles ground.setting published → tiles_after (news_of fresh) published ≡ tiles_under ground shapes
    tiles_renewed are =
        tiles_with_news fresh published (tiles_under ground shapes) (one_each ∙ sym are.each) (are.each ∙ sym (length-tiles_under ground shapes rules'))
        are.in_order (λ t d there. now_is t d (omega (arith, there, are.each)))

  -- with these published, no place has a fresh mesh
  pub stored_again : AreStored ground stored (replicate (tile_count ground.setting) None) (tiles_under ground shapes)
  stored_again t d there =
      ap (λ (place : Option TileMesh). unwrap_or place (get_or (tiles_under ground shapes) t d)) (get_or-replicate (tile_count ground.setting) t None None there)
      ∙ sym (stored_tile t d there)

-- a build comes in: its list is stored, and its mesh is fresh
pub stored_with : (ground : Ground) (stored : List (List Shape)) (fresh : List (Option TileMesh)) (published : List TileMesh) (tile : ℕ)
    (shapes : List Shape) (mesh : TileMesh) → AreStored ground stored fresh published → tile < length stored → tile < length fresh
    → mesh ≡ tile_under ground tile shapes → AreStored ground (slice_set stored tile shapes) (slice_set fresh tile (Some mesh)) published
stored_with ground stored fresh published tile shapes mesh ties in_stored in_fresh is t d there =
    ⊎_elim here (λ apart. ⊎_elim (λ below. elsewhere (λ same. omega (arith, same, below))) (λ above. elsewhere (λ same. omega (arith, same, above))) apart) (cases_order t tile)
  where
    Holds : ℕ → Type 0
    Holds n = mesh_at_hand (slice_set fresh tile (Some mesh)) published n d ≡ tile_under ground n (get_or (slice_set stored tile shapes) n [])

    here : t ≡ tile → Holds t
    here same =
        subst Holds (sym same)
        (ap (λ (place : Option TileMesh). unwrap_or place (get_or published tile d)) (get_or-set_same fresh tile (Some mesh) None in_fresh)
        ∙ is ∙ ap (tile_under ground tile) (sym (get_or-set_same stored tile shapes [] in_stored)))

    elsewhere : t ≢ tile → Holds t
    elsewhere apart =
        ap (λ (place : Option TileMesh). unwrap_or place (get_or published t d)) (get_or-set_other fresh tile t (Some mesh) None apart)
        ∙ ties t d there
        ∙ ap (tile_under ground t) (sym (get_or-set_other stored tile t shapes [] apart))

-- what stands in the place of a tile among the layers is its layer
pub record IsLayerAt (ground : Ground) (tile : ℕ) (layer : Layer) : Type 0 where
  pub rules : IsLayerOf ground.setting layer
  pub is : layer ≡ layer_of ground.setting ground.field tile

pub layer_at : (ground : Ground) (tile : ℕ) (layer : Layer) → IsGround ground → tile < tile_count ground.setting → layer ≡ get_or ground.layers tile layer
    → IsLayerAt ground tile layer
layer_at ground tile layer rules' there found =
    let within : tile < length ground.layers = omega (arith, there, length-layers_of_ground ground rules') in
    record {
      rules = subst (IsLayerOf ground.setting) (sym found) (IsLayerOf-from_ground ground rules' tile layer within);
      is = found ∙ layer_of_ground ground tile layer rules' there;
    }
