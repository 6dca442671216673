-- How a script is spelled: first its lanes and workers, then a line of words and numbers for each of its lines.
use Rattle.std.specs.Prelude.{ℕ, List, [], ◌∷◌, ◌++◌, map, codes, nat_abs}
use Rattle.nav_base.specs.declared.point.Point.{Point}
use Rattle.nav_base.specs.declared.point.Question.{Question}
use Rattle.nav_base.specs.declared.point.Question.TheVariants.{Floor, Path, Ray}
use Rattle.nav_ground.specs.declared.shape.Shape.{Shape}
use Rattle.nav_ground.specs.declared.shape.Shape.TheVariants.{Block, Cylinder, AreaBlock, AreaCylinder, Prism, Disc}
use Rattle.nav_text.specs.Lines.{text_of}
use Rattle.nav_text.specs.Forms.{line_text}
use Rattle.nav_script.specs.declared.script.Line.{Line}
use Rattle.nav_script.specs.declared.script.Line.TheVariants.{Lane, Ask, Add, Remove, Undo, Settle, Aim, Claim, Back, Submit, Publish, Jump, Hop, Send, March}
use Rattle.nav_script.specs.declared.script.Script.{Script}

-- two points with their heights: of each x and z, then the height
abbrev pub ends_of : Point → ℕ → Point → ℕ → List ℕ
ends_of from from_y to to_y = nat_abs from.x ∷ nat_abs from.z ∷ from_y ∷ nat_abs to.x ∷ nat_abs to.z ∷ to_y ∷ []

-- a question: its word, and for each point x and z, then the height if it has one
abbrev pub question_spelling : Question → List ℕ
question_spelling (Floor x z) = line_text (codes "floor") (x ∷ z ∷ [])
question_spelling (Path from from_y to to_y) = line_text (codes "path") (ends_of from from_y to to_y)
question_spelling (Ray from from_y to) =
    line_text (codes "ray") (nat_abs from.x ∷ nat_abs from.z ∷ from_y ∷ nat_abs to.x ∷ nat_abs to.z ∷ [])

-- an obstacle: its kind and its numbers, and before them the area where it sets one; of a prism and a disc, which no script adds, the kind
abbrev pub shape_spelling : Shape → List ℕ
shape_spelling (Block x0 x1 y0 y1 z0 z1) = line_text (codes "add block") (x0 ∷ x1 ∷ y0 ∷ y1 ∷ z0 ∷ z1 ∷ [])
shape_spelling (Cylinder cx cz r y0 y1) = line_text (codes "add cylinder") (cx ∷ cz ∷ r ∷ y0 ∷ y1 ∷ [])
shape_spelling (AreaBlock area x0 x1 y0 y1 z0 z1) =
    line_text (codes "add area") (area ∷ []) ++ line_text (codes " block") (x0 ∷ x1 ∷ y0 ∷ y1 ∷ z0 ∷ z1 ∷ [])
shape_spelling (AreaCylinder area cx cz r y0 y1) =
    line_text (codes "add area") (area ∷ []) ++ line_text (codes " cylinder") (cx ∷ cz ∷ r ∷ y0 ∷ y1 ∷ [])
shape_spelling (Prism base area y0 y1) = codes "add prism"
shape_spelling (Disc cx cz r area y0 y1) = codes "add disc"

-- the spelling of a line
abbrev pub line_of : Line → List ℕ
line_of (Lane lane) = line_text (codes "lane") (lane ∷ [])
line_of (Ask question) = question_spelling question
line_of (Add shape) = shape_spelling shape
line_of (Remove number) = line_text (codes "remove") (number ∷ [])
line_of (Undo back) = line_text (codes "drop") (back ∷ [])
line_of Settle = codes "settle"
line_of Aim = codes "aim"
line_of (Claim worker) = line_text (codes "claim") (worker ∷ [])
line_of (Back worker) = line_text (codes "back") (worker ∷ [])
line_of (Submit worker) = line_text (codes "submit") (worker ∷ [])
line_of Publish = codes "publish"
line_of (Jump jump) = line_text (codes "jump") (ends_of jump.from jump.from_y jump.to jump.to_y ++ jump.cost ∷ [])
line_of (Hop from from_y to to_y) = line_text (codes "hop") (ends_of from from_y to to_y)
line_of (Send from from_y to to_y) = line_text (codes "send") (ends_of from from_y to to_y)
line_of (March length) = line_text (codes "march") (length ∷ [])

-- the lines of a script's text
abbrev pub script_lines : Script → List (List ℕ)
script_lines script = line_text (codes "script") (script.lanes ∷ script.workers ∷ []) ∷ map line_of script.lines

-- the text of a script: each of its lines with a line feed
abbrev pub script_text : Script → List ℕ
script_text script = text_of (script_lines script)
