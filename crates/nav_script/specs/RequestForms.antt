-- The forms of lines that ask for a change of the obstacles, with the limits of their numbers.
use Rattle.std.specs.Prelude.{ℕ, Bool, nat_lt, nat_le, ◌==◌, ◌&&◌, if◌then◌else◌, List, [], ◌∷◌, slice_index, codes, Option, option_and_then, Ok, Err}
use Rattle.nav_ground.specs.declared.shape.Shape.TheVariants.{Block, Cylinder, AreaBlock, AreaCylinder}
use Rattle.nav_text.specs.declared.fault.FaultKind.TheVariants as kinds
use Rattle.nav_text.specs.Forms.{number_after}
use Rattle.nav_script.specs.declared.script.Line.TheVariants.{Add, Remove, Undo}
use Rattle.nav_script.specs.Forms.{LineRead, in_limits, is_range, form, first_of_them}

-- the limits of the numbers of a block, and of those of a cylinder
abbrev pub is_block : List ℕ → Bool
is_block n = is_range (slice_index n 0) (slice_index n 1) 1023 && is_range (slice_index n 2) (slice_index n 3) 8191 && is_range (slice_index n 4) (slice_index n 5) 1023

-- the numbers of a cylinder are within their limits
abbrev pub is_cylinder : List ℕ → Bool
is_cylinder n = nat_le (slice_index n 0) 2048 && nat_le (slice_index n 1) 2048 && nat_le (slice_index n 2) 1023 && is_range (slice_index n 3) (slice_index n 4) 8191

-- each form whose numbers have limits: what it says where it has these numbers
abbrev pub block_line : List ℕ → LineRead
block_line n =
    in_limits (is_block n) (Add (Block (slice_index n 0) (slice_index n 1) (slice_index n 2) (slice_index n 3) (slice_index n 4) (slice_index n 5)))

-- what a line says that adds a cylinder
abbrev pub cylinder_line : List ℕ → LineRead
cylinder_line n = in_limits (is_cylinder n) (Add (Cylinder (slice_index n 0) (slice_index n 1) (slice_index n 2) (slice_index n 3) (slice_index n 4)))

-- and with an area from 1 to 63
abbrev pub area_block_line : ℕ → List ℕ → LineRead
area_block_line area n =
    in_limits
    (is_range 1 area 63 && is_block n)
    (Add (AreaBlock area (slice_index n 0) (slice_index n 1) (slice_index n 2) (slice_index n 3) (slice_index n 4) (slice_index n 5)))

-- what a line says that adds a cylinder which sets an area
abbrev pub area_cylinder_line : ℕ → List ℕ → LineRead
area_cylinder_line area n =
    in_limits
    (is_range 1 area 63 && is_cylinder n)
    (Add (AreaCylinder area (slice_index n 0) (slice_index n 1) (slice_index n 2) (slice_index n 3) (slice_index n 4)))

-- a `drop` where so many adds of its lane stand before it
abbrev pub drop_line : ℕ → ℕ → LineRead
drop_line adds back =
    if back == 0 then Err kinds.Range else (if nat_lt adds back then Err kinds.BeforeAdd else Ok (Undo back))

-- what a line says that asks for a change of the obstacles, where so many adds of its lane stand before it
unfoldable pub request_line : ℕ → List ℕ → Option LineRead
request_line adds line =
    first_of_them (form (codes "add block") 6 block_line line
    ∷ form (codes "add cylinder") 5 cylinder_line line
    ∷ form (codes "remove") 1 (λ n. Ok (Remove (slice_index n 0))) line
    ∷ form (codes "drop") 1 (λ n. drop_line adds (slice_index n 0)) line
    ∷ [])

-- an obstacle that sets an area: what is said behind `add area` and the area
abbrev pub area_forms : ℕ → List ℕ → List (Option LineRead)
area_forms area rest = form (codes " block") 6 (area_block_line area) rest ∷ form (codes " cylinder") 5 (area_cylinder_line area) rest ∷ []

-- what a line says that adds an obstacle which sets an area
unfoldable pub area_line : List ℕ → Option LineRead
area_line line = option_and_then (λ x. first_of_them (area_forms x.0 x.1)) (number_after (codes "add area") line)
