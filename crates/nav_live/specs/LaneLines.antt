-- The lines of a script, dealt to its lanes.
use Rattle.std.specs.Prelude.{ℕ, if◌then◌else◌, List, [], ◌∷◌, ◌++◌, map, count_by, get_or, slice_set}
use Rattle.std.specs.List.{range_with_len}
use Rattle.nav_script.specs.declared.script.Line.{Line}
use Rattle.nav_script.specs.declared.script.Script.{Script}
use Rattle.nav_script.specs.Lanes.{is_request, lines_of, names_lane}

-- the lists of all lanes once a line more is given to the current lane; one that names a lane is given to none
abbrev pub given : List (List Line) → (current : ℕ) → Line → List (List Line)
given lists current line = if names_lane line then lists else slice_set lists current (get_or lists current [] ++ line ∷ [])

-- how many requests a lane's lines make
abbrev pub requests_of : ℕ → List Line → ℕ
requests_of lane lines = count_by is_request (lines_of lane lines)

-- the lines of each lane, the lanes in the order of their numbers
abbrev pub lines_by_lane : Script → List (List Line)
lines_by_lane script = map (λ lane. lines_of lane script.lines) (range_with_len 0 script.lanes)
