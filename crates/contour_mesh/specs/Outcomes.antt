-- What comes of meshing a tile by the outlines of its regions.
use Rattle.std.specs.Prelude.{◌≡◌, Some, None}
use Rattle.nav_ground.specs.declared.setting.Setting.{Setting}
use Rattle.nav_ground.specs.declared.cell.FreeLayer.{FreeLayer}
use Rattle.mesh_types.specs.declared.mesh.TileMesh.{TileMesh}
use Rattle.mesh_types.specs.ContourMeshes.{contour_mesh_of}
use Rattle.mono_regions.specs.Joining.{IsTableOf}
use Rattle.contour_mesh.specs.declared.build.ContourMesh.{ContourMesh}
use Rattle.contour_mesh.specs.declared.build.ContourMesh.TheVariants.{Made, NotCut}

-- the mesh by the outlines where each region has one that can be cut, and otherwise the free cells again, with their strips
abbrev pub IsMeshOrCells : Setting → FreeLayer → ContourMesh → Type 0
IsMeshOrCells setting free (Made mesh) = contour_mesh_of setting free ≡ Some mesh
IsMeshOrCells setting free (NotCut cells strips) = (contour_mesh_of setting free ≡ None) × (cells ≡ free) × IsTableOf cells.cells strips

-- P of the mesh, where one is made
abbrev pub IfMade : (TileMesh → Type 0) → ContourMesh → Type 0
IfMade P (Made mesh) = P mesh
IfMade P (NotCut cells strips) = Unit {0}
