-- How a script's text is read: first its `script` line, then each of its lines, given those before it.
use Rattle.std.specs.Prelude.{◌≡◌, ℕ, ◌+◌, Bool, false, nat_le, ◌&&◌, ◌||◌, if◌then◌else◌, List, [], ◌∷◌, ◌++◌, length, count_by, codes, slice_index, Option, Some, None, Result, Ok, Err, ⊤}
use Rattle.std.specs.Option.{option_map_or}
use Rattle.nav_ground.specs.History.{history_limit}
use Rattle.nav_text.specs.declared.fault.TextFault.{TextFault}
use Rattle.nav_text.specs.declared.fault.FaultKind.{FaultKind}
use Rattle.nav_text.specs.declared.fault.FaultKind.TheVariants as kinds
use Rattle.nav_text.specs.Lines.{lines, is_ended}
use Rattle.nav_text.specs.Forms.{numbers_of, has_word}
use Rattle.nav_text.specs.Reading.{Verdict, Refuses, Format, IsFirstFault, lead}
use Rattle.nav_script.specs.declared.script.Header.{Header}
use Rattle.nav_script.specs.declared.script.Line.{Line}
use Rattle.nav_script.specs.declared.script.Way.{Way}
use Rattle.nav_script.specs.declared.script.Way.TheVariants.{Play, Live}
use Rattle.nav_script.specs.declared.script.Script.{Script}
use Rattle.nav_script.specs.declared.script.ScriptRefusal.{ScriptRefusal}
use Rattle.nav_script.specs.declared.script.ScriptRefusal.TheVariants as refusals
use Rattle.nav_script.specs.Lanes.{adds_before, is_request, is_jump}
use Rattle.nav_script.specs.Forms.{LineRead}
use Rattle.nav_script.specs.WayForms.{line_read}

-- what the lines before have said
pub data Place : Type 0 where
  AtScript : Place
  AtLines : (lanes workers : ℕ) (before : List Line) → Place

-- the lanes and workers of a `script` line
abbrev pub header_read : List ℕ → Result Header FaultKind
header_read line = option_map_or (λ (n : List ℕ).
    if nat_le 1 (slice_index n 0) && nat_le (slice_index n 0) 16 && nat_le 1 (slice_index n 1) && nat_le (slice_index n 1) 8
    then Ok (record { lanes = slice_index n 0; workers = slice_index n 1 })
    else Err kinds.Range) (numbers_of (codes "script") 2 line) (Err kinds.Form)

-- the first word of a line is that of a request
abbrev pub begins_request : List ℕ → Bool
begins_request line = has_word (codes "add") line || has_word (codes "remove") line || has_word (codes "drop") line

-- a script that runs live has as many requests as a history has entries, and the line is one more
abbrev pub lacks_room : Way → List Line → List ℕ → Bool
lacks_room Play before line = false
lacks_room Live before line = nat_le history_limit (count_by is_request before) && begins_request line

-- a script has 256 jumps, and the line is one more: its first word is `jump`
abbrev pub lacks_jumps : List Line → List ℕ → Bool
lacks_jumps before line = nat_le 256 (count_by is_jump before) && has_word (codes "jump") line

-- what a line is: after 300000 lines, or where there is no room for one more request, it is one too many; else, where there is none for one more
-- jump, it is a jump too many; and else what is read of it decides
abbrev pub line_verdict : Way → Place → List ℕ → Verdict Place Script
line_verdict way AtScript line = lead (header_read line) (λ (header : Header). AtLines header.lanes header.workers [])
line_verdict way (AtLines lanes workers before) line =
    if nat_le 300000 (length before) then Refuses kinds.TooManyLines
    else (if lacks_room way before line then Refuses kinds.TooManyLines
    else (if lacks_jumps before line then Refuses kinds.TooManyJumps
    else lead (line_read way lanes workers (adds_before before) line) (λ (said : Line). AtLines lanes workers (before ++ said ∷ []))))

-- the script, where the text may end there: after its `script` line, and with every line ended
abbrev pub value_at : Bool → Place → Option Script
value_at ended AtScript = None
value_at ended (AtLines lanes workers before) =
    if ended then Some (record { lanes = lanes; workers = workers; lines = before }) else None

-- the format of the texts of scripts for a way to run them, where every line of the text is ended or the last one is not
abbrev pub script_format : Way → Bool → Format Place Script
script_format way ended = record { verdict = line_verdict way; value = value_at ended }

-- where a line that is read leads, after lines of so many lanes and workers
abbrev pub verdict_of : (lanes workers : ℕ) → List Line → LineRead → Verdict Place Script
verdict_of lanes workers before told = lead told (λ (said : Line). AtLines lanes workers (before ++ said ∷ []))

-- a fault whose line is one later
abbrev pub one_later : TextFault → TextFault
one_later fault = record { line = fault.line + 1; kind = fault.kind }

-- the fault is that of the first line of these bytes that fails, where their first line has this number
abbrev pub IsFirstFaultFrom : Way → ℕ → List ℕ → TextFault → Type 0
IsFirstFaultFrom way first_line bytes fault =
    IsFirstFault (script_format way (is_ended bytes)) AtScript first_line (lines bytes) (record { line = fault.line + 1; kind = fault.kind })

-- the script of what is read
abbrev pub value_of : Result (Script × ℕ) TextFault → Option Script
value_of (Ok x) = Some x.0
value_of (Err fault) = None

-- what reading gives is what is read, the faults one line earlier, unless memory runs out
abbrev pub IsReading : Result (Script × ℕ) TextFault → Result Script ScriptRefusal → Type 0
IsReading told (Ok script) = value_of told ≡ Some script
IsReading told (Err (refusals.Fault fault)) = told ≡ Err (one_later fault)
IsReading told (Err refusals.OutOfMemory) = ⊤

-- this script is what is read, unless memory runs out
abbrev pub Gives : Script → Result Script ScriptRefusal → Type 0
Gives script (Ok read) = read ≡ script
Gives script (Err (refusals.Fault fault)) = ⊥
Gives script (Err refusals.OutOfMemory) = ⊤
