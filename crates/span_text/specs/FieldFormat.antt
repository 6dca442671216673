-- The formats of field texts and of their headers: what each line is, after what the lines before it have said.
use Rattle.std.specs.Prelude.{ℕ, false, List, [], ◌∷◌, ◌++◌, replicate, slice_set, codes, None, Result}
use Rattle.nav_ground.specs.declared.setting.Agent.{Agent}
use Rattle.nav_ground.specs.declared.setting.MeshKind.{MeshKind}
use Rattle.nav_ground.specs.declared.setting.Setting.{Setting}
use Rattle.nav_ground.specs.declared.field.Span.{Span}
use Rattle.nav_ground.specs.declared.field.Field.{Field}
use Rattle.nav_text.specs.declared.fault.TextFault.{TextFault}
use Rattle.nav_text.specs.Lines.{lines}
use Rattle.nav_text.specs.Reading.{Verdict, Goes, HopEnds, Refuses, Format, lead, read}
use Rattle.span_text.specs.declared.front.TextForm.{TextForm}
use Rattle.span_text.specs.declared.front.TextForm.TheVariants.{First, Second}
use Rattle.span_text.specs.declared.body.BodyLine.{BodyLine}
use Rattle.span_text.specs.declared.body.BodyLine.TheVariants.{Cost, Spans, End, Fails}
use Rattle.span_text.specs.Header.{nav_line, size_line, limited, agent_line, mesh_line, clear_line}
use Rattle.span_text.specs.Body.{body_line, header_line}

-- what the lines before have said: nothing; of which form the text is; its size; and so on; at last the setting as far as it is said,
-- the area of the last cost (0 at first), and the spans
pub data Place : Type 0 where
  AtNav : Place
  AtSize : (form : TextForm) → Place
  AtTile : (form : TextForm) (width depth : ℕ) → Place
  AtAgent : (form : TextForm) (width depth tile : ℕ) → Place
  AtError : (form : TextForm) (width depth tile : ℕ) (agent : Agent) → Place
  AtMesh : (form : TextForm) (width depth tile : ℕ) (agent : Agent) (error : ℕ) → Place
  AtLimit : (form : TextForm) (width depth tile : ℕ) (agent : Agent) (error : ℕ) (mesh : MeshKind) → Place
  AtClear : (setting : Setting) → Place
  AtBody : (setting : Setting) (before : ℕ) (spans : List Span) → Place

-- a field text's value
abbrev pub Value : Type 0
Value = Setting × Field

-- a setting in which every area costs 1, and agents keep no distance from obstacles
abbrev pub plain_setting : (width depth tile : ℕ) (agent : Agent) (error : ℕ) (mesh : MeshKind) (limit : ℕ) → Setting
plain_setting width depth tile agent error mesh limit = record {
  width = width;
  depth = depth;
  tile = tile;
  agent = agent;
  error = error;
  mesh = mesh;
  limit = limit;
  costs = replicate 64 1;
  clear = false;
}

-- what an area costs by a further line
abbrev pub set_cost : Setting → ℕ → ℕ → Setting
set_cost setting area cost = record setting { costs = slice_set setting.costs area cost }

-- a right line leads to a further place, and `end` to the text's value
abbrev pub body_verdict : Setting → ℕ → List Span → BodyLine → Verdict Place Value
body_verdict setting before spans (Cost area cost) = Goes (AtBody (set_cost setting area cost) area spans)
body_verdict setting before spans (Spans span) = Goes (AtBody setting before (spans ++ span ∷ []))
body_verdict setting before spans End = HopEnds (setting, record { width = setting.width; depth = setting.depth; spans = spans })
body_verdict setting before spans (Fails kind) = Refuses kind

-- behind the seventh line texts of the second form say whether agents keep their radius from obstacles
abbrev pub after_limit : TextForm → Setting → Place
after_limit First setting = AtBody setting 0 []
after_limit Second setting = AtClear setting

-- what a line behind those of the setting is: after a setting, the area of the last cost, and spans
abbrev pub BodyVerdict : Type 0 → Type 0
BodyVerdict V = Setting → ℕ → List Span → List ℕ → Verdict Place V

-- what a line is, in a text that begins with the lines of a setting
abbrev pub headed : {V : Type 0} → BodyVerdict V → Place → List ℕ → Verdict Place V
headed body AtNav line = lead (nav_line line) (λ form. AtSize form)
headed body (AtSize form) line = lead (size_line line) (λ size. AtTile form size.0 size.1)
headed body (AtTile form width depth) line = lead (limited (codes "tile") 4 128 line) (λ tile. AtAgent form width depth tile)
headed body (AtAgent form width depth tile) line = lead (agent_line line) (λ agent. AtError form width depth tile agent)
headed body (AtError form width depth tile agent) line = lead (limited (codes "error") 0 10000 line) (λ error. AtMesh form width depth tile agent error)
headed body (AtMesh form width depth tile agent error) line = lead (mesh_line line) (λ mesh. AtLimit form width depth tile agent error mesh)
headed body (AtLimit form width depth tile agent error mesh) line =
    lead (limited (codes "limit") 1 1024 line) (λ limit. after_limit form (plain_setting width depth tile agent error mesh limit))
headed body (AtClear setting) line = lead (clear_line setting.tile setting.agent.radius line) (λ clear. AtBody (record setting { clear = clear }) 0 [])
headed body (AtBody setting before spans) line = body setting before spans line

-- a text that begins with the lines of a setting may end nowhere but at a line of its own that ends it
abbrev pub headed_format : {V : Type 0} → BodyVerdict V → Format Place V
headed_format body = record { verdict = headed body; value = λ place. None }

-- in field texts costs, spans and the `end` line stand behind those of the setting
abbrev pub field_body : BodyVerdict Value
field_body setting before spans line = body_verdict setting before spans (body_line setting.width setting.depth before spans line)

-- field texts end with their `end` line, and nowhere else
abbrev pub field_format : Format Place Value
field_format = headed_format field_body

-- what is read of some bytes: the setting, the field and the number of lines, or the first fault
abbrev pub field_of : List ℕ → Result (Value × ℕ) TextFault
field_of bytes = read field_format AtNav 0 (lines bytes)

-- of a header's body a cost goes on, and any other line ends it
abbrev pub costs_verdict : Setting → ℕ → List Span → BodyLine → Verdict Place Setting
costs_verdict setting before spans (Cost area cost) = Goes (AtBody (set_cost setting area cost) area spans)
costs_verdict setting before spans (Spans span) = HopEnds setting
costs_verdict setting before spans End = HopEnds setting
costs_verdict setting before spans (Fails kind) = Refuses kind

-- in headers only costs stand behind those of the setting, and a line with another first word ends the header: it is no part of it
abbrev pub header_body : BodyVerdict Setting
header_body setting before spans line = costs_verdict setting before spans (header_line before line)

-- the format of headers: the lines of a setting, and then costs
abbrev pub header_format : Format Place Setting
header_format = headed_format header_body

-- what is read of some bytes as a header: the setting and the number of lines with the one behind it, or the first fault
abbrev pub header_of : List ℕ → Result (Setting × ℕ) TextFault
header_of bytes = read header_format AtNav 0 (lines bytes)
