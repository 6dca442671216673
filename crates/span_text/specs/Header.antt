-- What each line of the header says, in the order of the tests that it can fail.
use Rattle.std.specs.Prelude.{ℕ, ◌*◌, Bool, not, ◌&&◌, ◌||◌, ◌==◌, nat_lt, nat_le, if◌then◌else◌, List, Option, Some, None, Result, Ok, Err, bytes_eq, slice_index, codes}
use Rattle.std.specs.Option.{option_map_or}
use Rattle.nav_ground.specs.declared.setting.Agent.{Agent}
use Rattle.nav_ground.specs.declared.setting.MeshKind.{MeshKind}
use Rattle.nav_ground.specs.declared.setting.MeshKind.TheVariants.{Strips, Contours}
pub use Rattle.nav_ground.specs.Shapes.{is_in}
use Rattle.nav_text.specs.declared.fault.FaultKind.{FaultKind}
use Rattle.nav_text.specs.declared.fault.FaultKind.TheVariants.{Form, Range, Climb}
use Rattle.nav_text.specs.Forms.{numbers_of}
use Rattle.span_text.specs.declared.front.TextForm.{TextForm}
use Rattle.span_text.specs.declared.front.TextForm.TheVariants.{First, Second}

-- `nav 1` or `nav 2`
unfoldable pub nav_line : List ℕ → Result TextForm FaultKind
nav_line line = if bytes_eq line (codes "nav 1") then Ok First else (if bytes_eq line (codes "nav 2") then Ok Second else Err Form)

-- `size` and two numbers, 1 to 1024 each
unfoldable pub size_line : List ℕ → Result (ℕ × ℕ) FaultKind
size_line line = option_map_or (λ (numbers : List ℕ).
    if not (is_in 1 1024 (slice_index numbers 0)) || not (is_in 1 1024 (slice_index numbers 1)) then Err Range else Ok (slice_index numbers 0, slice_index numbers 1))
    (numbers_of (codes "size") 2 line) (Err Form)

-- a word and a number within limits
unfoldable pub limited : List ℕ → ℕ → ℕ → List ℕ → Result ℕ FaultKind
limited word low high line = option_map_or (λ (numbers : List ℕ).
    if not (is_in low high (slice_index numbers 0)) then Err Range else Ok (slice_index numbers 0)) (numbers_of word 1 line) (Err Form)

-- `agent` and its height, climb and radius, the climb below the height
unfoldable pub agent_line : List ℕ → Result Agent FaultKind
agent_line line = option_map_or (λ (numbers : List ℕ).
    if not (is_in 1 255 (slice_index numbers 0)) || nat_lt 254 (slice_index numbers 1) || nat_lt 15 (slice_index numbers 2) then Err Range
    else (if nat_le (slice_index numbers 0) (slice_index numbers 1) then Err Climb else Ok (record { height = slice_index numbers 0; climb = slice_index numbers 1; radius = slice_index numbers 2 })))
    (numbers_of (codes "agent") 3 line) (Err Form)

-- `mesh strips` or `mesh contours`
unfoldable pub mesh_line : List ℕ → Result MeshKind FaultKind
mesh_line line =
    if bytes_eq line (codes "mesh strips") then Ok Strips else (if bytes_eq line (codes "mesh contours") then Ok Contours else Err Form)

-- `clear` and 0 or 1, where 1 says that agents keep their radius from obstacles too: then a tile is at least twice as wide as that
abbrev pub clear_in : (tile radius : ℕ) → Option (List ℕ) → Result Bool FaultKind
clear_in tile radius None = Err Form
clear_in tile radius (Some numbers) =
    if nat_lt 1 (slice_index numbers 0) || slice_index numbers 0 == 1 && nat_lt tile (2 * radius) then Err Range else Ok (slice_index numbers 0 == 1)

-- the line is `clear` and one number, which is judged so
unfoldable pub clear_line : (tile radius : ℕ) → List ℕ → Result Bool FaultKind
clear_line tile radius line = clear_in tile radius (numbers_of (codes "clear") 1 line)
