-- Slots: each polygon has one of 1024, which several share, and those of the polygons that off-mesh links leave are taken.
use Rattle.std.specs.Prelude.{◌≡◌, ℕ, ◌+◌, ◌*◌, ◌%◌, Bool, true, false, List, All, slice_index_or}
use Rattle.mesh_types.specs.declared.links.PolyRef.{PolyRef}
use Rattle.off_links.specs.declared.off_mesh_links.OffMeshLink.{OffMeshLink}

-- the slot of a polygon
abbrev pub slot_of : PolyRef → ℕ
slot_of at = (at.tile * 31 + at.index) % 1024

-- whether the slot of a polygon is taken
abbrev pub is_taken : List Bool → PolyRef → Bool
is_taken slots at = slice_index_or slots (slot_of at) false

-- the slots of the polygons that off-mesh links leave are taken
abbrev pub HaveSlots : List Bool → List OffMeshLink → Type 0
HaveSlots slots off_mesh_links = All (λ (off_mesh_link : OffMeshLink). is_taken slots off_mesh_link.from ≡ true) off_mesh_links
