-- The format of what follows the header of a triangle text: what each line is, after what the lines before it have said.
use Rattle.std.specs.Prelude.{◌≡◌, ℕ, ◌+◌, ◌⊎◌, Bool, nat_le, ◌&&◌, ◌==◌, if◌then◌else◌, List, [], ◌∷◌, ◌++◌, length, bytes_eq, codes, slice_index, Option, Some, None, Result, Ok, Err, ⊤}
use Rattle.nav_ground.specs.declared.setting.Setting.{Setting}
use Rattle.nav_lists.specs.declared.items.Items.{Items}
use Rattle.nav_text.specs.declared.fault.TextFault.{TextFault}
use Rattle.nav_text.specs.declared.fault.FaultKind.{FaultKind}
use Rattle.nav_text.specs.declared.fault.FaultKind.TheVariants.{Form, Range, TooManyTriangles}
use Rattle.nav_text.specs.Forms.{numbers_of, has_word}
use Rattle.nav_text.specs.Lines.{lines, is_ended}
use Rattle.nav_text.specs.Reading.{Verdict, Goes, Refuses, Format, read, IsFirstFault}
use Rattle.span_text.specs.declared.field.FieldRefusal.{FieldRefusal}
use Rattle.span_text.specs.declared.field.FieldRefusal.TheVariants as refusals
use Rattle.span_text.specs.FieldFormat.{AtNav, header_format}
use Rattle.span_text.specs.FieldText.{GoesOn}
use Rattle.tri_raster.specs.declared.triangle.Corner3.{Corner3}
use Rattle.tri_raster.specs.declared.triangle.Tri.{Tri}
use Rattle.tri_raster.specs.declared.text.TriLine.{TriLine}
use Rattle.tri_raster.specs.declared.text.TriLine.TheVariants as told
use Rattle.tri_raster.specs.declared.text.TriText.{TriText}
use Rattle.tri_raster.specs.TriText.{BeginsWithHeader}

-- what the lines before have said: some triangles, or some triangles and the end
pub data Place : Type 0 where
  AtTris : (tris : List Tri) → Place
  AtEnd : (tris : List Tri) → Place

-- the corner that three numbers from a place on spell
abbrev pub corner_of : List ℕ → ℕ → Corner3
corner_of numbers i = record { x = slice_index numbers i; y = slice_index numbers (i + 1); z = slice_index numbers (i + 2) }

-- the triangle of ten numbers
abbrev pub tri_of : List ℕ → Tri
tri_of numbers = record { a = corner_of numbers 0; b = corner_of numbers 3; c = corner_of numbers 6; area = slice_index numbers 9 }

-- a corner and a triangle are within their limits
abbrev pub is_corner : Corner3 → Bool
is_corner corner = nat_le corner.x 16384 && nat_le corner.y 8190 && nat_le corner.z 16384

-- a triangle is within its limits
abbrev pub is_triangle : Tri → Bool
is_triangle tri = is_corner tri.a && is_corner tri.b && is_corner tri.c && nat_le tri.area 63

-- the triangle of ten numbers
abbrev pub tri_in : Option (List ℕ) → TriLine
tri_in None = told.Fails Form
tri_in (Some numbers) = if is_triangle (tri_of numbers) then told.Triangle (tri_of numbers) else told.Fails Range

-- a line after so many triangles is one too many
abbrev pub is_too_many : ℕ → List ℕ → Bool
is_too_many count line = count == 100000 && has_word (codes "tri") line

-- a line after so many triangles, before the end
unfoldable pub tri_line : ℕ → List ℕ → TriLine
tri_line count line =
    if is_too_many count line then told.Fails TooManyTriangles
    else (if bytes_eq line (codes "end") then told.End else tri_in (numbers_of (codes "tri") 10 line))

-- what is wrong with a line after the end
abbrev pub wrong_behind : ℕ → List ℕ → FaultKind
wrong_behind count line = if is_too_many count line then TooManyTriangles else Form

-- what a line among triangles leads to
abbrev pub tri_verdict : List Tri → TriLine → Verdict Place (List Tri)
tri_verdict tris (told.Triangle tri) = Goes (AtTris (tris ++ tri ∷ []))
tri_verdict tris told.End = Goes (AtEnd tris)
tri_verdict tris (told.Fails kind) = Refuses kind

-- what a line leads to at a place
abbrev pub verdict : Place → List ℕ → Verdict Place (List Tri)
verdict (AtTris tris) line = tri_verdict tris (tri_line (length tris) line)
verdict (AtEnd tris) line = Refuses (wrong_behind (length tris) line)

-- the triangles, where the text may end there: after its `end` line, and with every line ended
abbrev pub value_at : Bool → Place → Option (List Tri)
value_at ended (AtTris tris) = None
value_at ended (AtEnd tris) = if ended then Some tris else None

-- the format of what follows the header, where every line of it is ended or the last one is not
abbrev pub tri_format : Bool → Format Place (List Tri)
tri_format ended = record { verdict = verdict; value = value_at ended }

-- a text begins with a header, behind which a line follows, and the fault is that of the first line behind it that fails
pub record IsTriFault (bytes : List ℕ) (fault : TextFault) : Type 0 where
  pub setting : Setting
  pub front : List ℕ
  pub back : List ℕ
  pub begins : BeginsWithHeader bytes front back setting
  pub on : GoesOn back
  pub fails : IsFirstFault (tri_format (is_ended back)) (AtTris []) (length (lines front)) (lines back) fault

-- what is wrong with a text that is none of triangles: a line of its header fails, or one behind it, given the lines before
abbrev pub IsTextFault : List ℕ → TextFault → Type 0
IsTextFault bytes fault = IsFirstFault header_format AtNav 0 (lines bytes) fault ⊎ IsTriFault bytes fault

-- the triangles of what is read
abbrev pub value_of : Result (List Tri × ℕ) TextFault → Option (List Tri)
value_of (Ok x) = Some x.0
value_of (Err fault) = None

-- what reading gives is what is read, unless memory runs out
abbrev pub IsReading : Result (List Tri × ℕ) TextFault → Result (Items Tri) FieldRefusal → Type 0
IsReading read (Ok tris) = value_of read ≡ Some tris
IsReading read (Err (refusals.Fault fault)) = read ≡ Err fault
IsReading read (Err refusals.OutOfMemory) = ⊤

-- this setting and these triangles are read, of so long a header, unless memory runs out
abbrev pub Gives : Setting → ℕ → List Tri → Result TriText FieldRefusal → Type 0
Gives setting header tris (Ok text) = (text.setting ≡ setting) × (text.header ≡ header) × (text.tris ≡ tris)
Gives setting header tris (Err (refusals.Fault fault)) = ⊥
Gives setting header tris (Err refusals.OutOfMemory) = ⊤
