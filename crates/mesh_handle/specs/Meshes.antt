-- The field of a mesh, and why there is none.
use Rattle.std.specs.Prelude.{◌≡◌, ℕ, ◌%◌, List, [], length, ⊤}
use Rattle.nav_ground.specs.Limits.{IsSetting}
use Rattle.tri_raster.specs.declared.triangle.Tri.{Tri}
use Rattle.tri_raster.specs.Rasters.{HasManySpans, IsRaster}
use Rattle.mesh_input.specs.declared.fault.FaultyTriangle.{FaultyTriangle}
use Rattle.mesh_input.specs.Adding.{AreAdded, AreAreasOf, IsFirstFault, MeshLists}
use Rattle.mesh_input.specs.Axes.{IsGridOf}
use Rattle.mesh_handle.specs.declared.input.MeshAsk.{MeshAsk}
use Rattle.mesh_handle.specs.declared.input.MeshEnd.{MeshEnd}
use Rattle.mesh_handle.specs.declared.input.MeshEnd.TheVariants as ends
use Rattle.mesh_handle.specs.declared.input.MeshField.{MeshField}
use Rattle.mesh_handle.specs.declared.wire.NavdMesh.{NavdMesh}
use Rattle.mesh_handle.specs.Settings.{IsSlopeOf, setting_of}

-- arrays have whole triangles, and an area for each or none at all
pub record AreWhole (corners areas : List ℕ) : Type 0 where
  pub whole : length corners % 3 ≡ 0
  pub one_each : AreAreasOf corners areas

-- what a host asks for, within its limits
pub record IsAskOf (mesh : NavdMesh) (ask : MeshAsk) : Type 0 where
  pub setting : ask.setting ≡ setting_of mesh.setting
  pub rules : IsSetting ask.setting
  pub slope : IsSlopeOf mesh.slope ask.slope
  pub grid : IsGridOf mesh.frame ask.grid

-- a mesh and its arrays are within their limits
pub record CanMesh (mesh : NavdMesh) (lists : MeshLists) (ask : MeshAsk) : Type 0 where
  pub asked : IsAskOf mesh ask
  pub arrays : AreWhole lists.corners lists.areas

-- the triangles of a mesh
pub record AreTrianglesOf (mesh : NavdMesh) (lists : MeshLists) (tris : List Tri) : Type 0 where
  pub ask : MeshAsk
  pub can : CanMesh mesh lists ask
  pub are : AreAdded ask.grid ask.slope lists [] tris

-- the field of a mesh: what its triangles leave in the columns
pub record IsFieldOfMesh (mesh : NavdMesh) (lists : MeshLists) (made : MeshField) : Type 0 where
  pub setting : made.setting ≡ setting_of mesh.setting
  pub tris : List Tri
  pub are : AreTrianglesOf mesh lists tris
  pub raster : IsRaster made.setting tris made.field

-- a triangle of a mesh fails, and none before it does
pub record HasFaulty (mesh : NavdMesh) (lists : MeshLists) (faulty : FaultyTriangle) : Type 0 where
  pub ask : MeshAsk
  pub can : CanMesh mesh lists ask
  pub first : IsFirstFault ask.grid ask.slope lists faulty

-- the triangles of a mesh leave more spans than a field may have
pub record HasTooManySpans (mesh : NavdMesh) (lists : MeshLists) : Type 0 where
  pub tris : List Tri
  pub are : AreTrianglesOf mesh lists tris
  pub many : HasManySpans (setting_of mesh.setting) tris

-- why there is no field of a mesh
abbrev pub EndsMesh : NavdMesh → MeshLists → MeshEnd → Type 0
EndsMesh mesh lists ends.OutOfRange = (ask : MeshAsk) → ¬ CanMesh mesh lists ask
EndsMesh mesh lists (ends.Faulty faulty) = HasFaulty mesh lists faulty
EndsMesh mesh lists ends.TooManySpans = HasTooManySpans mesh lists
EndsMesh mesh lists ends.NoMemory = ⊤

-- why a mesh has no triangles
abbrev pub EndsTriangles : MeshAsk → MeshLists → MeshEnd → Type 0
EndsTriangles ask lists ends.OutOfRange = ⊥
EndsTriangles ask lists (ends.Faulty faulty) = IsFirstFault ask.grid ask.slope lists faulty
EndsTriangles ask lists ends.TooManySpans = ⊥
EndsTriangles ask lists ends.NoMemory = ⊤
