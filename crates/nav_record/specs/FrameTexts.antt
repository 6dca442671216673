-- The lines that stand around the answers, each with its line feed: the end of a play, the lines between the lanes of a live text, and what is wrong with an input.
use Rattle.std.specs.Prelude.{ℕ, List, ◌++◌, codes, decimal}
use Rattle.nav_text.specs.declared.fault.TextFault.{TextFault}

-- the end of a play: the published length and the history's length
abbrev pub done_text : ℕ → ℕ → List ℕ
done_text k n = codes "done " ++ decimal k ++ codes " " ++ decimal n ++ codes "\n"

-- the live text begins with the history's length; before what its lines were answered each lane is named; and it ends with the final
-- length and the numbers of polygons and directed links of the final mesh
abbrev pub history_text : ℕ → List ℕ
history_text n = codes "history " ++ decimal n ++ codes "\n"

-- the line that names a lane
abbrev pub lane_text : ℕ → List ℕ
lane_text lane = codes "lane " ++ decimal lane ++ codes "\n"

-- the last line of a live text
abbrev pub final_text : ℕ → ℕ → ℕ → List ℕ
final_text n polygons links = codes "final " ++ decimal n ++ codes " " ++ decimal polygons ++ codes " " ++ decimal links ++ codes "\n"

-- what is wrong with the input: the line that fails, and the number of the fault's kind
abbrev pub fault_text : TextFault → List ℕ
fault_text fault = codes "fault " ++ decimal fault.line ++ codes " " ++ decimal fault.kind ++ codes "\n"

-- the call had the wrong arguments
abbrev pub usage_text : List ℕ
usage_text = codes "fault usage\n"

-- the input is longer than any that is read
abbrev pub too_long_text : List ℕ
too_long_text = codes "fault too long\n"
