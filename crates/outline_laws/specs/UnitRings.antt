-- UnitRings: rings whose edges go one cell each, and the errors at which none of them is flat.
use Rattle.std.specs.Prelude.{◌≡◌, ℕ, ◌<◌, ◌≤◌, List, length, All}
use Rattle.nav_base.specs.Point.{from_to}
use Rattle.nav_base.specs.Deviation.{square_of}
use Rattle.nav_ground.specs.declared.cell.Cell.{Cell}
use Rattle.nav_ground.specs.declared.cell.Window.{Window}
use Rattle.nav_ground.specs.Cells.{IsCells}
use Rattle.mesh_types.specs.declared.region.Regions.{Regions}
use Rattle.mesh_types.specs.declared.region.UnitEdge.{UnitEdge}
use Rattle.mesh_types.specs.declared.region.Simplified.TheVariants.{Flat}
use Rattle.mesh_types.specs.Contours.{contour_of}
use Rattle.mesh_types.specs.Regions.{AreRegionsOf}
use Rattle.mesh_types.specs.Rings.{IsRing}
use Rattle.mesh_types.specs.Simplified.{kept_edges, simplified_of}

-- an edge goes one cell, along x or along z
pub record IsUnitStep (edge : UnitEdge) : Type 0 where
  pub one : square_of (from_to edge.from edge.to) ≡ 1

-- a ring of three edges or more, each of which goes one cell
pub record IsUnitRing (edges : List UnitEdge) : Type 0 where
  pub ring : IsRing edges
  pub steps : All IsUnitStep edges
  pub enough : 3 ≤ length edges

-- an error of outlines, in hundredths of a squared cell, that is less than half of one
abbrev pub IsFine : ℕ → Type 0
IsFine error = error ≤ 49

-- of each such ring three edges or more are kept at such an error
abbrev pub KeepThree : Type 0
KeepThree = (error : ℕ) (edges : List UnitEdge) → IsFine error → IsUnitRing edges → 3 ≤ length (kept_edges error edges)

-- so none of them is flat
abbrev pub AreNotFlat : Type 0
AreNotFlat = (error : ℕ) (edges : List UnitEdge) → IsFine error → IsUnitRing edges → simplified_of error edges ≡ Flat → ⊥

-- and at each greater error one of them is
abbrev pub SomeAreFlat : Type 0
SomeAreFlat = (error : ℕ) → (IsFine error → ⊥) → (edges : List UnitEdge) × IsUnitRing edges × (simplified_of error edges ≡ Flat)

-- the contour of each region is such a ring
abbrev pub ContoursAreUnitRings : Type 0
ContoursAreUnitRings = (window : Window) (cells : List Cell) (regions : Regions) (id : ℕ) → IsCells cells → AreRegionsOf cells regions
    → id < length regions.regions → IsUnitRing (contour_of window cells regions id)

-- so no region is flat
abbrev pub RegionsAreNotFlat : Type 0
RegionsAreNotFlat = (error : ℕ) (window : Window) (cells : List Cell) (regions : Regions) (id : ℕ) → IsFine error → IsCells cells → AreRegionsOf cells regions
    → id < length regions.regions → simplified_of error (contour_of window cells regions id) ≡ Flat → ⊥
