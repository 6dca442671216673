-- What a triangle text is answered with: the text of the field of its triangles, or why there is none.
use Rattle.std.specs.Prelude.{◌≡◌, ℕ, ◌≤◌, List, [], ◌∷◌, ◌++◌, length, map, take, codes, Option, String, ⊤}
use Rattle.std.specs.declared.alloc.Global.{Global}
use Rattle.nav_ground.specs.declared.setting.Setting.{Setting}
use Rattle.nav_ground.specs.declared.field.Field.{Field}
use Rattle.nav_ground.specs.declared.field.Span.{Span}
use Rattle.nav_io.specs.Causes.{GivesAll}
use Rattle.nav_record.specs.FrameTexts.{fault_text}
use Rattle.nav_text.specs.declared.fault.TextFault.{TextFault}
use Rattle.nav_text.specs.Lines.{text_of}
use Rattle.span_text.specs.FieldText.{IsFieldText, span_text}
use Rattle.tri_raster.specs.declared.triangle.Tri.{Tri}
use Rattle.tri_raster.specs.Rasters.{IsRaster, HasManySpans}
use Rattle.tri_raster.specs.TriText.{IsTriText}
use Rattle.tri_raster.specs.TriFormat.{IsTextFault}
use Rattle.top_call.specs.declared.answer.InputAnswer.{InputAnswer}
use Rattle.top_call.specs.declared.answer.InputAnswer.TheVariants.{Text, Fault, TooManySpans, OutOfMemory}
use Rattle.top_call.specs.Inputs.{input_limit}
use Rattle.top_call.specs.Words.{IsRasterForm}

-- the bytes are a triangle text
pub record IsLevel (bytes : List ℕ) : Type 0 where
  pub setting : Setting
  pub header : ℕ
  pub tris : List Tri
  pub there : IsTriText bytes setting header tris

-- the bytes are a triangle text, and the text of no other setting and no other triangles
pub record IsOneLevel (bytes : List ℕ) : Type 0 where
  pub level : IsLevel bytes
  pub only : (other : IsLevel bytes) → (other.setting ≡ level.setting) × (other.header ≡ level.header) × (other.tris ≡ level.tris)

-- the bytes are the text of triangles that give at most as many spans as a field may have
pub record HasFewSpans (bytes : List ℕ) : Type 0 where
  pub level : IsLevel bytes
  pub field : Field
  pub raster : IsRaster level.setting level.tris field
  pub few : length field.spans ≤ 2000000

-- the bytes are the text of triangles that give more spans than a field may have
pub record HasTooManySpans (bytes : List ℕ) : Type 0 where
  pub level : IsLevel bytes
  pub many : HasManySpans level.setting level.tris

-- the text of a field behind a header as it was read: a line for each span in order, and `end`
abbrev pub field_text : List ℕ → List Span → List ℕ
field_text header spans = header ++ text_of (map span_text spans ++ codes "end" ∷ [])

-- the text is that of the field of the triangles: the header's bytes as they were read, its spans, and `end`. It is a field text of their setting
-- and that field
pub record IsRasterText (bytes text : List ℕ) : Type 0 where
  pub one : IsOneLevel bytes
  pub field : Field
  pub raster : IsRaster one.level.setting one.level.tris field
  pub few : length field.spans ≤ 2000000
  pub spelled : text ≡ field_text (take one.level.header bytes) field.spans
  pub reads : IsFieldText text one.level.setting field

-- the triangles give too many spans, whichever way the text is read, which is one
pub record IsOverfull (bytes : List ℕ) : Type 0 where
  pub one : IsOneLevel bytes
  pub many : HasManySpans one.level.setting one.level.tris

-- the text is the line of a fault of bytes that are no triangle text
pub record TellsTriFault (bytes text : List ℕ) : Type 0 where
  pub fault : TextFault
  pub wrong : IsTextFault bytes fault
  pub told : text ≡ fault_text fault
  pub no_level : ¬ IsLevel bytes

-- the answer to a triangle text is right
abbrev pub IsRastered : List ℕ → InputAnswer → Type 0
IsRastered bytes (Text text) = IsRasterText bytes text.items
IsRastered bytes (Fault text) = TellsTriFault bytes text.items
IsRastered bytes TooManySpans = IsOverfull bytes
IsRastered bytes OutOfMemory = ⊤

-- the line that tells that there are too many spans
abbrev pub too_many_text : List ℕ
too_many_text = codes "fault too many spans\n"

-- the words are `raster`, and the whole of an input was read
pub record HasReadLevel (words : List (String Global)) (before after : Option (List ℕ)) (input : List ℕ) : Type 0 where
  pub form : IsRasterForm words
  pub read : GivesAll before after input
  pub short : length input ≤ input_limit

-- this text is that of the field of the triangles that were read
pub record IsFieldDue (words : List (String Global)) (before after : Option (List ℕ)) (text : List ℕ) : Type 0 where
  pub input : List ℕ
  pub read : HasReadLevel words before after input
  pub raster : IsRasterText input text

-- this text tells the fault of what was read, which is no triangle text
pub record IsTriFaultDue (words : List (String Global)) (before after : Option (List ℕ)) (text : List ℕ) : Type 0 where
  pub input : List ℕ
  pub read : HasReadLevel words before after input
  pub tells : TellsTriFault input text

-- this text tells that the triangles that were read give too many spans
pub record IsManyDue (words : List (String Global)) (before after : Option (List ℕ)) (text : List ℕ) : Type 0 where
  pub input : List ℕ
  pub read : HasReadLevel words before after input
  pub over : IsOverfull input
  pub told : text ≡ too_many_text
