-- The spelling of a field text: a plain function from what it says to its lines.
use Rattle.std.specs.Prelude.{◌≡◌, ℕ, ◌<◌, ◌≤◌, Bool, false, if◌then◌else◌, List, [], ◌∷◌, ◌++◌, map, fold, replicate, slice_set, codes, ⊤}
use Rattle.nav_ground.specs.declared.setting.Setting.{Setting}
use Rattle.nav_ground.specs.declared.setting.MeshKind.{MeshKind}
use Rattle.nav_ground.specs.declared.setting.MeshKind.TheVariants.{Strips, Contours}
use Rattle.nav_ground.specs.declared.field.Span.{Span}
use Rattle.nav_ground.specs.declared.field.Field.{Field}
use Rattle.nav_text.specs.Lines.{lines, text_of}
use Rattle.nav_text.specs.Forms.{line_text, has_word}
use Rattle.span_text.specs.declared.front.TextForm.{TextForm}
use Rattle.span_text.specs.declared.front.TextForm.TheVariants.{First, Second}

-- what a `cost` line says: what a unit of way costs in an area
pub record Cost : Type 0 where
  pub area : ℕ
  pub cost : ℕ

-- costs by rising areas, each above the one before and 63 at most, and each cost 1 to 1000
abbrev pub RiseAbove : ℕ → List Cost → Type 0
RiseAbove before [] = ⊤
RiseAbove before (line ∷ more) = (before < line.area) × (line.area ≤ 63) × (1 ≤ line.cost) × (line.cost ≤ 1000) × RiseAbove line.area more

-- a table of costs with the cost of one line
abbrev pub with_cost : List ℕ → Cost → List ℕ
with_cost table line = slice_set table line.area line.cost

-- what the 64 areas cost: those that have a line what it says, all others 1
abbrev pub costs_of : List Cost → List ℕ
costs_of costs = fold with_cost (replicate 64 1) costs

-- the lines
abbrev pub mesh_text : MeshKind → List ℕ
mesh_text Strips = codes "mesh strips"
mesh_text Contours = codes "mesh contours"

-- the first line, which names the form
abbrev pub nav_text : TextForm → List ℕ
nav_text First = codes "nav 1"
nav_text Second = codes "nav 2"

-- only texts of the second form say whether agents keep their radius from obstacles
abbrev pub clear_lines : TextForm → Bool → List (List ℕ)
clear_lines First clear = []
clear_lines Second clear = line_text (codes "clear") ((if clear then 1 else 0) ∷ []) ∷ []

-- the lines of a setting in one of the two forms
abbrev pub header_lines : TextForm → Setting → List (List ℕ)
header_lines form setting =
    nav_text form
    ∷ line_text (codes "size") (setting.width ∷ setting.depth ∷ [])
    ∷ line_text (codes "tile") (setting.tile ∷ [])
    ∷ line_text (codes "agent") (setting.agent.height ∷ setting.agent.climb ∷ setting.agent.radius ∷ [])
    ∷ line_text (codes "error") (setting.error ∷ [])
    ∷ mesh_text setting.mesh
    ∷ line_text (codes "limit") (setting.limit ∷ [])
    ∷ clear_lines form setting.clear

-- the line of a cost
abbrev pub cost_text : Cost → List ℕ
cost_text line = line_text (codes "cost") (line.area ∷ line.cost ∷ [])

-- the line of a span
abbrev pub span_text : Span → List ℕ
span_text span = line_text (codes "span") (span.x ∷ span.z ∷ span.bottom ∷ span.top ∷ span.area ∷ [])

-- the lines of a header: those of the setting, and the costs
abbrev pub all_header_lines : TextForm → Setting → List Cost → List (List ℕ)
all_header_lines form setting costs = header_lines form setting ++ map cost_text costs

-- A text spells a setting as the header of a further text, in one of the two forms: some rising cost lines give the setting's costs, and the
-- text is the lines of the setting and these costs. Texts of the first form say that agents keep no distance from obstacles.
pub record IsHeaderText (bytes : List ℕ) (setting : Setting) : Type 0 where
  pub form : TextForm
  pub costs : List Cost
  pub rise : RiseAbove 0 costs
  pub table : setting.costs ≡ costs_of costs
  pub clear : form ≡ First → setting.clear ≡ false
  pub spelled : bytes ≡ text_of (all_header_lines form setting costs)

-- a text goes on behind a header: it has a line, whose first word is not `cost`
pub record GoesOn (bytes : List ℕ) : Type 0 where
  pub line : List ℕ
  pub more : List (List ℕ)
  pub those : lines bytes ≡ line ∷ more
  pub other : has_word (codes "cost") line ≡ false

-- all lines of a field text: the header, the costs, the spans, and `end`
abbrev pub field_lines : TextForm → Setting → List Cost → List Span → List (List ℕ)
field_lines form setting costs spans = header_lines form setting ++ map cost_text costs ++ map span_text spans ++ codes "end" ∷ []

-- A text spells a setting and a field, in one of the two forms: some rising cost lines give the setting's costs, and the text is the lines of
-- the setting, these costs and the field's spans. Texts of the first form say that agents keep no distance from obstacles.
pub record IsFieldText (bytes : List ℕ) (setting : Setting) (field : Field) : Type 0 where
  pub form : TextForm
  pub costs : List Cost
  pub rise : RiseAbove 0 costs
  pub table : setting.costs ≡ costs_of costs
  pub clear : form ≡ First → setting.clear ≡ false
  pub width : field.width ≡ setting.width
  pub depth : field.depth ≡ setting.depth
  pub spelled : bytes ≡ text_of (field_lines form setting costs field.spans)
