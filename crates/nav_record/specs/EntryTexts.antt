-- The texts of requests, each with its line feed: what each was replied, and how the history tells it.
use Rattle.std.specs.Prelude.{ℕ, List, [], ◌∷◌, ◌++◌, codes, decimal}
use Rattle.nav_ground.specs.declared.history.Entry.{Entry}
use Rattle.nav_ground.specs.declared.history.Reply.{Reply}
use Rattle.nav_ground.specs.declared.history.Reply.TheVariants.{Added, Removed, Full, Dead}
use Rattle.nav_ground.specs.declared.history.Request.{Request}
use Rattle.nav_ground.specs.declared.history.Request.TheVariants as requests
use Rattle.nav_text.specs.Forms.{line_text}
use Rattle.nav_script.specs.Spelling.{shape_spelling}

-- what became of a request, and the end of its line; a refusal says how many obstacles are alive, or which number is not
abbrev pub outcome_text : Reply → List ℕ
outcome_text (Added _) = codes " added\n"
outcome_text Removed = codes " removed\n"
outcome_text (Full live) = codes " full " ++ decimal live ++ codes "\n"
outcome_text (Dead number) = codes " dead " ++ decimal number ++ codes "\n"

-- the number of an entry, and what became of its request
abbrev pub reply_text : ℕ → Reply → List ℕ
reply_text entry reply = codes "entry " ++ decimal entry ++ outcome_text reply

-- a request as the history tells it: as a script spells it
abbrev pub request_spelling : Request → List ℕ
request_spelling (requests.Add shape) = shape_spelling shape
request_spelling (requests.Remove number) = line_text (codes "remove") (number ∷ [])

-- an entry of the history: its number, the lane that made the request, the request, and what became of it
abbrev pub entry_text : ℕ → Entry → List ℕ
entry_text number entry =
    codes "entry " ++ decimal number ++ codes " " ++ decimal entry.lane ++ codes " " ++ request_spelling entry.request ++ outcome_text entry.reply
