-- The arrays of a mesh. A vertex is three floats; a triangle three numbers of vertices; an area one number for a triangle.
use Rattle.std.specs.Prelude.{ℕ, ◌+◌, ◌*◌, Bool, false, nat_lt, ◌&&◌, if◌then◌else◌, pos, List, length, slice_index_or, Option, Some, None}
use Rattle.std.specs.Float.{Float, fin, float_is_finite}
use Rattle.world_grid.specs.declared.frame.WorldPoint.{WorldPoint}
use Rattle.mesh_input.specs.declared.mesh.WorldTriangle.{WorldTriangle}

-- what stands where no float does
abbrev pub no_float : Float
no_float = fin false 0 (pos 0)

-- the float at a place
abbrev pub float_at : List Float → ℕ → Float
float_at floats i = slice_index_or floats i no_float

-- the point of a vertex, where all three of its numbers are there
abbrev pub vertex_of : List Float → ℕ → Option WorldPoint
vertex_of vertices index =
    if nat_lt (3 * index + 2) (length vertices)
    then Some (record { x = float_at vertices (3 * index); y = float_at vertices (3 * index + 1); z = float_at vertices (3 * index + 2) })
    else None

-- three points, where all of them are there
abbrev pub facet_at : Option WorldPoint → Option WorldPoint → Option WorldPoint → Option WorldTriangle
facet_at (Some a) (Some b) (Some c) = Some (record { a = a; b = b; c = c })
facet_at (Some a) (Some b) None = None
facet_at (Some a) None c = None
facet_at None b c = None

-- the triangle at a place, where all its vertices are there
abbrev pub facet_of : List Float → List ℕ → ℕ → Option WorldTriangle
facet_of vertices corners place =
    facet_at (vertex_of vertices (slice_index_or corners (3 * place) 0)) (vertex_of vertices (slice_index_or corners (3 * place + 1) 0))
    (vertex_of vertices (slice_index_or corners (3 * place + 2) 0))

-- all numbers of a point are finite
abbrev pub is_finite_point : WorldPoint → Bool
is_finite_point at = float_is_finite at.x && float_is_finite at.y && float_is_finite at.z

-- all numbers of a triangle are finite
abbrev pub is_finite : WorldTriangle → Bool
is_finite facet = is_finite_point facet.a && is_finite_point facet.b && is_finite_point facet.c

-- the area that a mesh gives the triangle at a place: 63 where it gives none
abbrev pub area_of : List ℕ → ℕ → ℕ
area_of areas place = slice_index_or areas place 63
