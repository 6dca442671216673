-- What is read of a line of a script, its form first, then its numbers; and the lines that settle or name their lane.
use Rattle.std.specs.Prelude.{ℕ, Bool, nat_lt, nat_le, ◌&&◌, if◌then◌else◌, List, [], ◌∷◌, slice_index, codes, Option, Some, None, Result, Ok, Err}
use Rattle.std.specs.Option.{option_map}
use Rattle.nav_text.specs.declared.fault.FaultKind.{FaultKind}
use Rattle.nav_text.specs.declared.fault.FaultKind.TheVariants as kinds
use Rattle.nav_text.specs.Forms.{numbers_of}
use Rattle.nav_script.specs.declared.script.Line.{Line}
use Rattle.nav_script.specs.declared.script.Line.TheVariants.{Lane, Settle}

-- what is read of a line: the line, or the kind of its fault
abbrev pub LineRead : Type 0
LineRead = Result Line FaultKind

-- a line whose numbers have to be in their limits
abbrev pub in_limits : Bool → Line → LineRead
in_limits fits line = if fits then Ok line else Err kinds.Range

-- a line that names a lane or a worker, which has to be below their count
abbrev pub below_count : ℕ → ℕ → Line → LineRead
below_count number count line = if nat_lt number count then Ok line else Err kinds.Lane

-- a range does not run backwards, and ends at most there
abbrev pub is_range : ℕ → ℕ → ℕ → Bool
is_range low high most = nat_le low high && nat_le high most

-- what a line says that is this word and so many numbers
abbrev pub form : List ℕ → ℕ → (List ℕ → LineRead) → List ℕ → Option LineRead
form word count make line = option_map make (numbers_of word count line)

-- the first of these that there is
abbrev pub first_of_them : List (Option LineRead) → Option LineRead
first_of_them [] = None
first_of_them (Some x ∷ more) = Some x
first_of_them (None ∷ more) = first_of_them more

-- `settle`, and the lane of the lines that follow, where there are so many lanes
unfoldable pub lane_line : ℕ → List ℕ → Option LineRead
lane_line lanes line =
    first_of_them (form (codes "settle") 0 (λ n. Ok Settle) line
    ∷ form (codes "lane") 1 (λ n. below_count (slice_index n 0) lanes (Lane (slice_index n 0))) line
    ∷ [])
