-- The scan of the polygons of a tile.
use Rattle.std.proofs.Common.{◌≡◌, ℕ, ◌+◌, ◌≤◌, ◌<◌, ◌⊎◌, inl, inr, length, sym, ap, ◌∙◌, arith}
use Rattle.std.specs.Prelude.{Some, slice_get}
use Rattle.std.proofs.lemmas.Bool.{cases_lt}
use Rattle.std.proofs.lemmas.Option.{same_Some, slice_get_within, option_and_then_some}
use Rattle.mesh_types.specs.declared.mesh.Mesh.{Mesh}
use Rattle.mesh_types.specs.declared.mesh.TileMesh.{TileMesh}
use Rattle.mesh_types.specs.declared.storeys.MeshPlace.{MeshPlace}
use Rattle.mesh_types.specs.Places.{Stands}

-- a place lies in a tile, in a polygon before one
pub record IsEarlier (tile end : ℕ) (place : MeshPlace) : Type 0 where
  pub tile_is : place.polygon.tile ≡ tile
  pub before : place.polygon.index < end

pub no_earlier : (tile : ℕ) (place : MeshPlace) → IsEarlier tile 0 place → ⊥
no_earlier tile place one =
    let before = one.before in
    omega (arith, before)

pub next_polygon : (tile i : ℕ) (place : MeshPlace) → IsEarlier tile (i + 1) place
    → IsEarlier tile i place ⊎ (place.polygon ≡ record { tile = tile; index = i })
next_polygon tile i place one =
    elim (cases_lt place.polygon.index i) [
      | inl less ↦ inl (record { tile_is = one.tile_is; before = less })
      | inr least ↦
          let before = one.before in
          let index : place.polygon.index ≡ i = omega (arith, before, least) in
          let at = one.tile_is in
          inr (λ k. record { tile = at k; index = index k })
    ]

-- each place of a tile lies in one of its polygons
pub all_polygons : (mesh : Mesh) (t end i : ℕ) (tile : TileMesh) → slice_get mesh.tiles t ≡ Some tile → end ≡ length tile.polys → end ≤ i → (place : MeshPlace)
    → Stands mesh place → place.polygon.tile ≡ t → IsEarlier t i place
all_polygons mesh t end i tile there ends past place stands at = record { tile_is = at; before = omega (arith, ends, past, within) }
  where
    within : place.polygon.index < length tile.polys
    within =
        option_and_then_some (λ (d : TileMesh). slice_get d.polys place.polygon.index) (slice_get mesh.tiles place.polygon.tile) stands.held.polygon stands.held.there
        (λ d there' listed.
        let same : d ≡ tile = same_Some d tile (sym there' ∙ ap (slice_get mesh.tiles) at ∙ there) in
        slice_get_within tile.polys place.polygon.index stands.held.polygon (ap (λ (e : TileMesh). slice_get e.polys place.polygon.index) (sym same) ∙ listed))
