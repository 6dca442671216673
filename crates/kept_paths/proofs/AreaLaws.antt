-- Areas by extents: a link enters a polygon of an open area exactly where the extent of what it enters has an open area that can be walked on.
use Rattle.std.proofs.Common.{◌≡◌, ℕ, ◌<◌, List, map, refl, sym, ap, ◌∙◌, arith}
use Rattle.std.specs.Prelude.{Option, None, Some, slice_get, slice_index_or}
use Rattle.std.specs.Option.{option_and_then, option_map, option_map_or, unwrap_or}
use Rattle.std.proofs.lemmas.Option.{slice_get-map, unwrap_or-slice_get}
use Rattle.nav_ground.specs.Limits.{IsArea}
use Rattle.mesh_types.specs.declared.extent.Extent.{Extent}
use Rattle.mesh_types.specs.declared.links.PolyRef.{PolyRef}
use Rattle.mesh_types.specs.declared.mesh.Mesh.{Mesh}
use Rattle.mesh_types.specs.declared.mesh.TileMesh.{TileMesh}
use Rattle.mesh_types.specs.declared.polygon.Polygon.{Polygon}
use Rattle.mesh_types.specs.Extents.{extent_of}
use Rattle.mesh_types.specs.Soundness.{IsSound}
use Rattle.mesh_types.specs.WholeMesh.{poly_at}
use Rattle.corridor_search.specs.Estimates.{extent_at, nowhere}
use Rattle.corridor_search.proofs.Extents.{extent-is, extent-rules}

-- past the end of a list there is what stands for no element
get_or-past : {X : Type 0} (xs : List X) (i : ℕ) (d : X) → slice_get xs i ≡ None → slice_index_or xs i d ≡ d
get_or-past xs i d past = sym (unwrap_or-slice_get xs i d) ∙ ap (λ o. unwrap_or o d) past

-- where no polygon is, the area is 0
none-area : (tile : Option TileMesh) (index : ℕ) → option_and_then (λ (t : TileMesh). slice_get t.polys index) tile ≡ None
    → (option_map_or (λ (t : TileMesh). slice_index_or (map extent_of t.polys) index nowhere) tile nowhere).area ≡ 0
none-area None index none = refl
none-area (Some t) index none =
    ap (λ (e : Extent). e.area) (get_or-past (map extent_of t.polys) index nowhere
    (slice_get-map extent_of t.polys index ∙ ap (option_map extent_of) none))

module _ (mesh : Mesh) (at : PolyRef) (extent : Extent) (sound : IsSound mesh) (is : extent ≡ extent_at mesh at) where
  zero-area : poly_at mesh at ≡ None → extent.area ≡ 0
  zero-area none = ap (λ (e : Extent). e.area) is ∙ none-area (slice_get mesh.tiles at.tile) at.index none

  -- a polygon there has the area of the extent
  pub own-area : (polygon : Polygon) → poly_at mesh at ≡ Some polygon → polygon.area ≡ extent.area
  own-area polygon there = sym (ap (λ (e : Extent). e.area) (is ∙ extent-is mesh at polygon there))

  walked-area : (polygon : Polygon) → poly_at mesh at ≡ Some polygon → IsArea extent.area
  walked-area polygon there = (extent-rules mesh at extent sound (record { polygon = polygon; is = there }) is).area

  -- and that can be walked on
  pub some-area : (polygon : Polygon) → poly_at mesh at ≡ Some polygon → 0 < extent.area
  some-area polygon there = let rules = walked-area polygon there in omega (arith, rules.least)

  small-by : (o : Option Polygon) → poly_at mesh at ≡ o → extent.area < 64
  small-by (Some polygon) there = let rules = walked-area polygon there in omega (arith, rules.most)
  small-by None none = omega (arith, zero-area none)

  pub small-area : extent.area < 64
  small-area = small-by (poly_at mesh at) refl

  there-by : (o : Option Polygon) → poly_at mesh at ≡ o → 0 < extent.area → (polygon : Polygon) × (poly_at mesh at ≡ Some polygon)
  there-by (Some polygon) there walked = (polygon, there)
  there-by None none walked = absurd (omega (arith, walked, zero-area none))

  -- where the area can be walked on, there is a polygon
  pub there-area : 0 < extent.area → (polygon : Polygon) × (poly_at mesh at ≡ Some polygon)
  there-area walked = there-by (poly_at mesh at) refl walked
