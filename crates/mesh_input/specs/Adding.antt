-- The triangles of a mesh among those of a field, and the first that is none.
use Rattle.std.specs.Prelude.{◌≡◌, ◌⊎◌, ℕ, ◌+◌, ◌*◌, ◌<◌, List, [], ◌∷◌, ◌++◌, length, Option, Some, None, Result, Ok, Err, ⊤}
use Rattle.std.specs.Float.{Float}
use Rattle.tri_raster.specs.declared.triangle.Tri.{Tri}
use Rattle.mesh_input.specs.declared.fault.MeshFault.{MeshFault}
use Rattle.mesh_input.specs.declared.fault.MeshFault.TheVariants as faults
use Rattle.mesh_input.specs.declared.fault.FaultyTriangle.{FaultyTriangle}
use Rattle.mesh_input.specs.declared.fault.MeshRefusal.{MeshRefusal}
use Rattle.mesh_input.specs.declared.fault.MeshRefusal.TheVariants as refusals
use Rattle.mesh_input.specs.declared.grid.MeshGrid.{MeshGrid}
use Rattle.mesh_input.specs.declared.mesh.WorldTriangle.{WorldTriangle}
use Rattle.mesh_input.specs.declared.slope.Slope.{Slope}
use Rattle.mesh_input.specs.Meshes.{facet_of, area_of}
use Rattle.mesh_input.specs.Triangles.{IsMade}

-- the arrays of a mesh: three numbers a vertex, three a triangle, and one a triangle, or none at all
pub record MeshLists : Type 0 where
  pub vertices : List Float
  pub corners : List ℕ
  pub areas : List ℕ

abbrev pub lists_of : List Float → List ℕ → List ℕ → MeshLists
lists_of vertices corners areas = record { vertices = vertices; corners = corners; areas = areas }

-- there is an area for each triangle, or none at all
abbrev pub AreAreasOf : List ℕ → List ℕ → Type 0
AreAreasOf corners areas = (areas ≡ []) ⊎ (3 * length areas ≡ length corners)

-- a triangle has not all its vertices
abbrev pub IsNoVertex : Result Tri MeshFault → Type 0
IsNoVertex (Ok tri) = ⊥
IsNoVertex (Err faults.NoVertex) = ⊤
IsNoVertex (Err faults.NoNumber) = ⊥
IsNoVertex (Err faults.Outside) = ⊥
IsNoVertex (Err faults.BadArea) = ⊥

-- what a triangle becomes, to which an area is given; one that has not all its vertices is none
abbrev pub IsMadeOf : MeshGrid → Slope → Option WorldTriangle → ℕ → Result Tri MeshFault → Type 0
IsMadeOf grid slope (Some facet) given result = IsMade grid slope facet given result
IsMadeOf grid slope None given result = IsNoVertex result

-- what the triangle at a place becomes
abbrev pub IsMadeAt : MeshGrid → Slope → MeshLists → ℕ → Result Tri MeshFault → Type 0
IsMadeAt grid slope mesh place result = IsMadeOf grid slope (facet_of mesh.vertices mesh.corners place) (area_of mesh.areas place) result

-- these are what the triangles from a place on become, one after the other
unfoldable pub AreMade : MeshGrid → Slope → MeshLists → ℕ → List Tri → Type 0
AreMade grid slope mesh place [] = ⊤
AreMade grid slope mesh place (tri ∷ tris) = IsMadeAt grid slope mesh place (Ok tri) × AreMade grid slope mesh (place + 1) tris

-- the first so many triangles stand behind the old ones
pub record AreFirst (grid : MeshGrid) (slope : Slope) (mesh : MeshLists) (number : ℕ) (old new : List Tri) : Type 0 where
  pub made : List Tri
  pub are : AreMade grid slope mesh 0 made
  pub count : length made ≡ number
  pub added : new ≡ old ++ made

-- all triangles of a mesh stand behind the old ones
pub record AreAdded (grid : MeshGrid) (slope : Slope) (mesh : MeshLists) (old new : List Tri) : Type 0 where
  pub made : List Tri
  pub are : AreMade grid slope mesh 0 made
  pub all : 3 * length made ≡ length mesh.corners
  pub added : new ≡ old ++ made

-- a triangle fails, and those before it do not
pub record IsFirstFault (grid : MeshGrid) (slope : Slope) (mesh : MeshLists) (faulty : FaultyTriangle) : Type 0 where
  pub before : List Tri
  pub are : AreMade grid slope mesh 0 before
  pub count : length before ≡ faulty.place
  pub there : 3 * faulty.place + 2 < length mesh.corners
  pub fails : IsMadeAt grid slope mesh faulty.place (Err faulty.fault)

-- some triangles may stand behind the old ones
pub record BeginsAs (old new : List Tri) : Type 0 where
  pub more : List Tri
  pub added : new ≡ old ++ more

-- all triangles were added, or one is the first that fails, unless memory runs out; then some may stand behind the old ones
abbrev pub HasAdded : MeshGrid → Slope → MeshLists → List Tri → List Tri → {T : Type 0} → Result T MeshRefusal → Type 0
HasAdded grid slope mesh old new (Ok done) = AreAdded grid slope mesh old new
HasAdded grid slope mesh old new (Err (refusals.Faulty faulty)) = BeginsAs old new × IsFirstFault grid slope mesh faulty
HasAdded grid slope mesh old new (Err refusals.OutOfMemory) = BeginsAs old new
