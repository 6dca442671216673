-- A tile of contours at an error up to 49 is built by the outlines of its regions, or one of these cannot be cut.
use Rattle.std.proofs.Common.{◌≡◌, ◌⊎◌, inl, inr, ℕ, zero, suc, ◌+◌, ◌<◌, Bool, true, false, List, length, get_or, sym, refl, subst, arith, Option, Some, None, Result, Ok, Err}
use Rattle.std.specs.Prelude.{◌&&◌, is_some, unwrap_or, if◌then◌else◌}
use Rattle.std.specs.List.{filter_map, list_all, range_with_len}
use Rattle.std.specs.Option.{option_map}
use Rattle.std.proofs.lemmas.List.Elements.{All-map}
use Rattle.nav_ground.specs.declared.cell.FreeLayer.{FreeLayer}
use Rattle.nav_ground.specs.declared.cell.Layer.{Layer}
use Rattle.nav_ground.specs.declared.setting.MeshKind.{MeshKind}
use Rattle.nav_ground.specs.declared.setting.MeshKind.TheVariants.{Contours}
use Rattle.nav_ground.specs.declared.setting.Setting.{Setting}
use Rattle.nav_ground.specs.Cells.{IsCut}
use Rattle.nav_ground.specs.FreeCells.{free_layer_of}
use Rattle.nav_ground.specs.Grounds.{IsLayerOf}
use Rattle.nav_ground.specs.Tiling.{tile_window}
use Rattle.nav_ground.proofs.FreeLayers.{free_layer_cut}
use Rattle.nav_ground.proofs.LayerLaws.{IsLayerOf-from_ground}
use Rattle.mesh_types.specs.declared.mesh.TileMesh.{TileMesh}
use Rattle.mesh_types.specs.declared.region.Outline as outlines
use Rattle.mesh_types.specs.declared.region.RegionPart.{RegionPart}
use Rattle.mesh_types.specs.declared.region.Simplified.{Simplified}
use Rattle.mesh_types.specs.declared.region.Simplified.TheVariants.{Flat, Outline}
use Rattle.mesh_types.specs.declared.region.Triangle.{Triangle}
use Rattle.mesh_types.specs.declared.region.UnitEdge.{UnitEdge}
use Rattle.mesh_types.specs.Builds.{tile_mesh_of}
use Rattle.mesh_types.specs.ContourMeshes.{contour_mesh_of, mesh_of_free, mesh_of_kind, parts_mesh}
use Rattle.mesh_types.specs.Contours.{contour_of}
use Rattle.mesh_types.specs.Ears.{ears_of}
use Rattle.mesh_types.specs.Parts.{cut_part, part_of, parts_of, region_numbers, region_part}
use Rattle.mesh_types.specs.Regions.{regions_of}
use Rattle.mesh_types.specs.Simplified.{simplified_of}
use Rattle.mesh_types.specs.StripMeshes.{strip_mesh_of}
use Rattle.mesh_types.specs.WholeMesh.{mesh_of}
use Rattle.mesh_types.proofs.TileMeshes.{mesh_of_cells}
use Rattle.mono_regions.proofs.RegionsKept.{regions_kept}
use Rattle.outline_laws.specs.UncutOutlines.{HasUncutOutline, IsOfOutlinesIfCut, TilesAreOfOutlinesIfCut}
use Rattle.outline_laws.specs.UnitRings.{IsFine}
use Rattle.outline_laws.proofs.ContourSteps.{region_not_flat}

-- where not all of a range pass a test, one fails it
record HasFailing (test : ℕ → Bool) (first count : ℕ) : Type 0 where
  number : ℕ
  below : number < first + count
  fails : test number ≡ false

failing : (test : ℕ → Bool) (first count : ℕ) → list_all test (range_with_len first count) ≡ false → HasFailing test first count
failing test first zero none = absurd cc
failing test first (suc count) none = by_case (test first) refl none (λ rest. failing test (first + 1) count rest)
  where
    by_case : (passes : Bool) → test first ≡ passes → (passes && list_all test (range_with_len (first + 1) count)) ≡ false
        → (list_all test (range_with_len (first + 1) count) ≡ false → HasFailing test (first + 1) count) → HasFailing test first (suc count)
    by_case false fails rest later = record { number = first; below = omega arith; fails = fails }
    by_case true passes rest later =
        let one = later rest in
        record { number = one.number; below = omega (arith, one.below); fails = one.fails }

module _ (setting : Setting) (free : FreeLayer) (cut : IsCut free.cells) (fine : IsFine setting.error) where
  uncut_region : (region : ℕ) → region < length (regions_of free.cells).regions
      → is_some (region_part (tile_window setting free.tile) setting.error free.cells (regions_of free.cells) region) ≡ false → HasUncutOutline setting free
  uncut_region region inside none = by_simplified (simplified_of setting.error edges) refl none
    where
      edges : List UnitEdge
      edges = contour_of (tile_window setting free.tile) free.cells (regions_of free.cells) region

      by_ears : (outline : outlines.Outline) → simplified_of setting.error (contour_of (tile_window setting free.tile) free.cells (regions_of free.cells) region) ≡ Outline outline
          → (ears : Result (List Triangle) (List ℕ)) → ears_of outline.corners ≡ ears → is_some (cut_part outline ears) ≡ false → HasUncutOutline setting free
      by_ears outline is (Ok triangles) ears none = absurd cc
      by_ears outline is (Err left) ears none = record { region = region; inside = inside; outline = outline; simplified = is; left = left; uncut = ears }

      by_simplified : (simplified : Simplified) → simplified_of setting.error (contour_of (tile_window setting free.tile) free.cells (regions_of free.cells) region) ≡ simplified
          → is_some (part_of simplified) ≡ false → HasUncutOutline setting free
      by_simplified Flat is none =
          absurd (region_not_flat setting.error (tile_window setting free.tile) free.cells (regions_of free.cells) region fine cut.rules (regions_kept free.cells cut) inside is)
      by_simplified (Outline outline) is none = by_ears outline is (ears_of outline.corners) refl none

  uncut : parts_of (tile_window setting free.tile) setting.error free.cells (regions_of free.cells) ≡ None → HasUncutOutline setting free
  unfolding parts_of
  uncut none = by_case (list_all (λ id. is_some (region_part (tile_window setting free.tile) setting.error free.cells (regions_of free.cells) id)) (region_numbers (regions_of free.cells))) refl none
    where
      count : ℕ
      count = length (regions_of free.cells).regions

      by_case : (all : Bool)
          → list_all (λ id. is_some (region_part (tile_window setting free.tile) setting.error free.cells (regions_of free.cells) id)) (region_numbers (regions_of free.cells)) ≡ all
          → (if all then Some (filter_map (region_part (tile_window setting free.tile) setting.error free.cells (regions_of free.cells)) (region_numbers (regions_of free.cells))) else None) ≡ None
          → HasUncutOutline setting free
      by_case true is none = absurd cc
      by_case false is none =
          let one = failing (λ id. is_some (region_part (tile_window setting free.tile) setting.error free.cells (regions_of free.cells) id)) 0 count is in
          uncut_region one.number (omega (arith, one.below)) one.fails

  no_parts : contour_mesh_of setting free ≡ None → parts_of (tile_window setting free.tile) setting.error free.cells (regions_of free.cells) ≡ None
  unfolding contour_mesh_of
  no_parts none = by_case (parts_of (tile_window setting free.tile) setting.error free.cells (regions_of free.cells)) none
    where
      by_case : (parts : Option (List RegionPart)) → option_map (parts_mesh setting free (regions_of free.cells)) parts ≡ None → parts ≡ None
      by_case None is = refl
      by_case (Some parts) is = absurd cc

  -- the tile's mesh is that of the outlines, where there is one
  by_outlines : setting.mesh ≡ Contours → (contour_mesh_of setting free ≡ Some (mesh_of_free setting free)) ⊎ HasUncutOutline setting free
  unfolding mesh_of_free
  by_outlines is =
      subst (λ (kind : MeshKind). (contour_mesh_of setting free ≡ Some (mesh_of_kind kind setting free)) ⊎ HasUncutOutline setting free) (sym is)
      (by_found (contour_mesh_of setting free) refl)
    where
      by_found : (found : Option TileMesh) → contour_mesh_of setting free ≡ found
          → (contour_mesh_of setting free ≡ Some (unwrap_or found (strip_mesh_of setting free))) ⊎ HasUncutOutline setting free
      by_found None is = inr (uncut (no_parts is))
      by_found (Some tile) is = inl is

  tile_if_cut : setting.mesh ≡ Contours → IsOfOutlinesIfCut setting (mesh_of_free setting free)
  tile_if_cut is =
      let same : (mesh_of_free setting free).free ≡ free = mesh_of_cells setting free in
      elim (by_outlines is) [
        | inl made ↦ inl (subst (λ (cells : FreeLayer). contour_mesh_of setting cells ≡ Some (mesh_of_free setting free)) (sym same) made)
        | inr left ↦ inr (subst (HasUncutOutline setting) (sym same) left)
      ]

pub tiles_if_cut : TilesAreOfOutlinesIfCut
unfolding mesh_of
tiles_if_cut ground shapes rules' limits is fine =
    All-map (IsOfOutlinesIfCut ground.setting) (λ (layer : Layer). tile_mesh_of ground.setting layer shapes) ground.layers
    (λ k d there.
    let layer : Layer = get_or ground.layers k d in
    let of : IsLayerOf ground.setting layer = IsLayerOf-from_ground ground rules' k d there in
    tile_if_cut ground.setting (free_layer_of layer shapes) (free_layer_cut layer shapes of.rules.cells limits) fine is)
