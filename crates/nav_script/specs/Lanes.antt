-- The lanes of a script: which lane a line belongs to, and how many requests, adds and jumps stand before it.
use Rattle.std.specs.Prelude.{◌≡◌, ℕ, ◌+◌, ◌<◌, Bool, true, false, not, ◌==◌, ◌&&◌, if◌then◌else◌, List, [], ◌∷◌, ◌++◌, length, get_or, fold, count_by, ⊤}
use Rattle.nav_script.specs.declared.script.Line.{Line}
use Rattle.nav_script.specs.declared.script.Line.TheVariants.{Lane, Add, Remove, Undo, Jump}

-- the lane of the line after a line
abbrev pub next_lane : ℕ → Line → ℕ
next_lane lane (Lane other) = other
next_lane lane _ = lane

-- the lane of the line after these: that of the last `lane` line, or 0
abbrev pub lane_after : List Line → ℕ
lane_after lines = fold next_lane 0 lines

-- a line that adds an obstacle
abbrev pub is_add : Line → Bool
is_add (Add shape) = true
is_add _ = false

-- a line that asks for a change of the obstacles
abbrev pub is_request : Line → Bool
is_request (Add shape) = true
is_request (Remove number) = true
is_request (Undo back) = true
is_request _ = false

-- a line that declares a jump
abbrev pub is_jump : Line → Bool
is_jump (Jump jump) = true
is_jump _ = false

-- a line that names the lane of the lines after it; it belongs to no lane itself
abbrev pub names_lane : Line → Bool
names_lane (Lane other) = true
names_lane _ = false

-- the lines that belong to a lane, where the first of these belongs to the lane `current`
abbrev pub lines_from : (lane current : ℕ) → List Line → List Line
lines_from lane current [] = []
lines_from lane current (line ∷ more) =
    (if not (names_lane line) && current == lane then line ∷ [] else []) ++ lines_from lane (next_lane current line) more

-- the lines of a lane, in order: those after each line that names it, up to the next line that names one; the lines before the first such
-- line belong to lane 0
abbrev pub lines_of : ℕ → List Line → List Line
lines_of lane lines = lines_from lane 0 lines

-- how many adds of the lane of the line after these are among them
abbrev pub adds_before : List Line → ℕ
adds_before lines = count_by is_add (lines_of (lane_after lines) lines)

-- a line that names a lane names one below a count
abbrev pub NamesLaneBelow : ℕ → Line → Type 0
NamesLaneBelow count (Lane lane) = lane < count
NamesLaneBelow count _ = ⊤

-- the lane of the next line, the adds of each of 16 lanes and the numbers of requests and jumps are those of these lines
pub record IsCounted (lines : List Line) (lane : ℕ) (adds : List ℕ) (requests jumps : ℕ) : Type 0 where
  pub here : lane ≡ lane_after lines
  pub below : lane < 16
  pub places : length adds ≡ 16
  pub each : (k : ℕ) → k < 16 → get_or adds k 0 ≡ count_by is_add (lines_of k lines)
  pub asked : requests ≡ count_by is_request lines
  pub declared : jumps ≡ count_by is_jump lines
