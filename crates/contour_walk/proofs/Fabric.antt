-- The regions of a tile's cells are woven: what lies beyond an edge within a region is that region.
use Rattle.std.proofs.Common.{◌≡◌, ℕ, ◌<◌, Bool, true, length, List, get_or, ap, ◌∙◌, Some}
use Rattle.std.specs.Prelude.{Contains}
use Rattle.std.specs.Option.{option_and_then}
use Rattle.nav_ground.specs.declared.cell.Cell.{Cell}
use Rattle.nav_ground.specs.Cells.{is_naming, is_toward, IsCells}
use Rattle.nav_ground.proofs.FreeLayers.{names_one}
use Rattle.nav_ground.proofs.Found.{first_found}
use Rattle.mesh_types.specs.declared.region.Strip.{Strip}
use Rattle.mesh_types.specs.declared.region.Regions.{Regions}
use Rattle.mesh_types.specs.Regions.{IsIn, place_in, AreRegionsOf}
use Rattle.mesh_types.specs.Contours.{cell_in, region_at, region_beyond, strips_in}
use Rattle.mesh_types.proofs.RegionLaws.{cell_there, own_region, stack, woven}
use Rattle.contour_walk.proofs.Rims.{IsFabric}

module _ (cells : List Cell) (cells_rules : IsCells cells) (regions : Regions) (are : AreRegionsOf cells regions) (id : ℕ) (there : id < length regions.regions) where
  beyond : (dir : ℕ) (s t : Strip) (x y : ℕ) → dir < 4 → Contains (strips_in regions id) s → Contains (strips_in regions id) t → IsIn s x → IsIn t y
      → is_toward dir (place_in s x) (place_in t y) ≡ true → region_beyond cells regions dir (cell_in cells (place_in s x)) ≡ Some id
  beyond dir s t x y small own own' inside inside' toward =
      let from = cell_there cells (place_in s x) ((woven cells regions are id there).there s x own inside) in
      let to = cell_there cells (place_in t y) ((woven cells regions are id there).there t y own' inside') in
      let cell = cell_in cells (place_in s x) in
      let p : Cell → Bool = λ (other : Cell). is_naming dir cell other.at in
      let names : is_naming dir cell (place_in t y) ≡ true = (woven cells regions are id there).connected dir x y s t cell small own own' inside inside' toward from.own from.place in
      let found = first_found p cells to.own.0 (cell_in cells (place_in t y)) to.own.1
      (ap (λ (c : Cell). is_naming dir cell c.at) to.own.2 ∙ ap (is_naming dir cell) to.place ∙ names) in
      let same : (get_or cells found.place (cell_in cells (place_in t y))).at ≡ place_in t y = names_one dir cell _ _ small found.passes names in
      ap (λ o. option_and_then (λ (other : Cell). region_at regions other.at) o) found.is
      ∙ ap (region_at regions) same
      ∙ own_region cells regions are id there t y own' inside'

  pub fabric : IsFabric cells regions id
  fabric = record {
    strips = (stack cells regions are id there).strips;
    there = λ s x own inside. (cell_there cells (place_in s x) ((woven cells regions are id there).there s x own inside)).place;
    woven = beyond;
  }
