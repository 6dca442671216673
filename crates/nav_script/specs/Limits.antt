-- Which scripts there are, and their texts.
use Rattle.std.specs.Prelude.{◌≡◌, ℕ, ◌^◌, ◌<◌, ◌≤◌, pos, ◌≤ℤ◌, List, length, take, count_by, Some, slice_get, ⊤}
use Rattle.nav_base.specs.declared.point.Point.{Point}
use Rattle.nav_base.specs.declared.point.Question.{Question}
use Rattle.nav_base.specs.declared.point.Question.TheVariants.{Floor, Path, Ray}
use Rattle.nav_ground.specs.History.{history_limit}
use Rattle.nav_ground.specs.declared.shape.Shape.{Shape}
use Rattle.nav_ground.specs.declared.shape.Shape.TheVariants.{Block, Cylinder, AreaBlock, AreaCylinder, Prism, Disc}
use Rattle.nav_ground.specs.Limits.{IsArea, IsBox, IsRound}
use Rattle.mesh_types.specs.declared.answers.Jump as jumps
use Rattle.nav_script.specs.declared.script.Line.{Line}
use Rattle.nav_script.specs.declared.script.Line.TheVariants.{Lane, Ask, Add, Remove, Undo, Settle, Aim, Claim, Back, Submit, Publish, Jump, Hop, Send, March}
use Rattle.nav_script.specs.declared.script.Way.{Way}
use Rattle.nav_script.specs.declared.script.Way.TheVariants.{Play, Live}
use Rattle.nav_script.specs.declared.script.Script.{Script}
use Rattle.nav_script.specs.Lanes.{adds_before, is_request, is_jump}
use Rattle.nav_script.specs.Spelling.{script_text}

-- a point that a question may name: x and z are 0 to 16384 sixteenths of a cell
pub record IsPlace (point : Point) : Type 0 where
  pub x_least : pos 0 ≤ℤ point.x
  pub x_most : point.x ≤ℤ pos 16384
  pub z_least : pos 0 ≤ℤ point.z
  pub z_most : point.z ≤ℤ pos 16384

-- two such points, each with a height of at most 8191
abbrev pub AreEnds : Point → ℕ → Point → ℕ → Type 0
AreEnds from from_y to to_y = IsPlace from × (from_y ≤ 8191) × IsPlace to × (to_y ≤ 8191)

-- a jump between two such points, which costs 1 to 1000000
abbrev pub IsJump : jumps.Jump → Type 0
IsJump jump = AreEnds jump.from jump.from_y jump.to jump.to_y × (1 ≤ jump.cost) × (jump.cost ≤ 1000000)

-- a question names a column of at most 1023, or points, and heights of at most 8191
abbrev pub IsQuestion : Question → Type 0
IsQuestion (Floor x z) = (x ≤ 1023) × (z ≤ 1023)
IsQuestion (Path from from_y to to_y) = AreEnds from from_y to to_y
IsQuestion (Ray from from_y to) = IsPlace from × (from_y ≤ 8191) × IsPlace to

-- an obstacle that a script may add: a block or a cylinder within its limits, which stops agents or sets an area; a script has no line for
-- a prism or a disc
abbrev pub IsScriptShape : Shape → Type 0
IsScriptShape (Block x0 x1 y0 y1 z0 z1) = IsBox x0 x1 y0 y1 z0 z1
IsScriptShape (Cylinder cx cz r y0 y1) = IsRound cx cz r y0 y1
IsScriptShape (AreaBlock area x0 x1 y0 y1 z0 z1) = IsArea area × IsBox x0 x1 y0 y1 z0 z1
IsScriptShape (AreaCylinder area cx cz r y0 y1) = IsArea area × IsRound cx cz r y0 y1
IsScriptShape (Prism base area y0 y1) = ⊥
IsScriptShape (Disc cx cz r area y0 y1) = ⊥

-- a line may stand where so many adds of its lane stand before it: its numbers are in their limits, lanes and workers are below
-- their counts, a `drop` names one of those adds, counted from 1, and the lines that lead workers, declare jumps or ask for hop walks are
-- played only, and those of walkers run live only
abbrev pub IsLine : Way → (lanes workers adds : ℕ) → Line → Type 0
IsLine way lanes workers adds (Lane lane) = lane < lanes
IsLine way lanes workers adds (Ask question) = IsQuestion question
IsLine way lanes workers adds (Add shape) = IsScriptShape shape
IsLine way lanes workers adds (Remove number) = number < 2 ^ 32
IsLine way lanes workers adds (Undo back) = (1 ≤ back) × (back ≤ adds)
IsLine way lanes workers adds Settle = ⊤
IsLine way lanes workers adds Aim = way ≡ Play
IsLine way lanes workers adds (Claim worker) = (way ≡ Play) × (worker < workers)
IsLine way lanes workers adds (Back worker) = (way ≡ Play) × (worker < workers)
IsLine way lanes workers adds (Submit worker) = (way ≡ Play) × (worker < workers)
IsLine way lanes workers adds Publish = way ≡ Play
IsLine way lanes workers adds (Jump jump) = (way ≡ Play) × IsJump jump
IsLine way lanes workers adds (Hop from from_y to to_y) = (way ≡ Play) × AreEnds from from_y to to_y
IsLine way lanes workers adds (Send from from_y to to_y) = (way ≡ Live) × AreEnds from from_y to to_y
IsLine way lanes workers adds (March length) = (way ≡ Live) × (1 ≤ length) × (length ≤ 65535)

-- a script for a way to run it: 1 to 16 lanes, 1 to 8 workers, at most 300000 lines, each of which may stand after the lines
-- before it, at most 256 jumps, and where it runs live at most as many requests as a history has entries
pub record IsScript (way : Way) (script : Script) : Type 0 where
  pub lanes_least : 1 ≤ script.lanes
  pub lanes_most : script.lanes ≤ 16
  pub workers_least : 1 ≤ script.workers
  pub workers_most : script.workers ≤ 8
  pub few : length script.lines ≤ 300000
  pub requests : way ≡ Live → count_by is_request script.lines ≤ history_limit
  pub jumps : count_by is_jump script.lines ≤ 256
  pub each : (k : ℕ) (line : Line) → slice_get script.lines k ≡ Some line
      → IsLine way script.lanes script.workers (adds_before (take k script.lines)) line

-- these bytes are the text of this script, and it is one for this way
abbrev pub IsScriptText : Way → List ℕ → Script → Type 0
IsScriptText way bytes script = (bytes ≡ script_text script) × IsScript way script
