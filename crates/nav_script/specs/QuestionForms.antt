-- The forms of lines that ask a question, with the limits of the points that they name.
use Rattle.std.specs.Prelude.{ℕ, Bool, nat_le, ◌&&◌, List, [], ◌∷◌, slice_index, codes, pos, Option}
use Rattle.nav_base.specs.declared.point.Point.{Point}
use Rattle.nav_base.specs.declared.point.Question.TheVariants.{Floor, Path, Ray}
use Rattle.nav_script.specs.declared.script.Line.TheVariants.{Ask}
use Rattle.nav_script.specs.Forms.{LineRead, in_limits, form, first_of_them}

-- each form whose numbers have limits: what it says where it has these numbers
abbrev pub floor_line : List ℕ → LineRead
floor_line n = in_limits (nat_le (slice_index n 0) 1023 && nat_le (slice_index n 1) 1023) (Ask (Floor (slice_index n 0) (slice_index n 1)))

-- the limits of a point of a question, in sixteenths, and of its height
abbrev pub is_place : ℕ → ℕ → Bool
is_place x z = nat_le x 16384 && nat_le z 16384

-- a point and a height are within their limits
abbrev pub is_standing : ℕ → ℕ → ℕ → Bool
is_standing x z y = is_place x z && nat_le y 8191

-- the point of two numbers
abbrev pub point_at : ℕ → ℕ → Point
point_at x z = record { x = pos x; z = pos z }

-- the limits of two such points, each with its height
abbrev pub are_standing : List ℕ → Bool
are_standing n = is_standing (slice_index n 0) (slice_index n 1) (slice_index n 2) && is_standing (slice_index n 3) (slice_index n 4) (slice_index n 5)

-- a path question: two points, each with its height
abbrev pub path_line : List ℕ → LineRead
path_line n =
    in_limits
    (are_standing n)
    (Ask (Path (point_at (slice_index n 0) (slice_index n 1)) (slice_index n 2) (point_at (slice_index n 3) (slice_index n 4)) (slice_index n 5)))

-- a ray question: a point with its height, and a point
abbrev pub ray_line : List ℕ → LineRead
ray_line n =
    in_limits
    (is_standing (slice_index n 0) (slice_index n 1) (slice_index n 2) && is_place (slice_index n 3) (slice_index n 4))
    (Ask (Ray (point_at (slice_index n 0) (slice_index n 1)) (slice_index n 2) (point_at (slice_index n 3) (slice_index n 4))))

-- what a line says that asks a question
unfoldable pub question_line : List ℕ → Option LineRead
question_line line =
    first_of_them (form (codes "floor") 2 floor_line line
    ∷ form (codes "path") 6 path_line line
    ∷ form (codes "ray") 5 ray_line line
    ∷ [])
