-- What reading a field text or a header leaves, against the lines of the bytes.
use Rattle.std.specs.Prelude.{◌≡◌, ℕ, ◌≤◌, ◌+◌, length, take, drop, Ok, Err, Result, ⊤}
use Rattle.nav_ground.specs.declared.setting.Setting.{Setting}
use Rattle.nav_ground.specs.declared.field.Field.{Field}
use Rattle.nav_ground.specs.declared.field.Span.{Span}
use Rattle.nav_text.specs.Lines.{lines, text_of}
use Rattle.span_text.specs.declared.field.FieldText.{FieldText}
use Rattle.span_text.specs.declared.field.FieldRefusal.{FieldRefusal}
use Rattle.span_text.specs.declared.field.FieldRefusal.TheVariants.{Fault, OutOfMemory}
use Rattle.span_text.specs.declared.front.HeaderText.{HeaderText}
use Rattle.span_text.specs.FieldText.{GoesOn}
use Rattle.span_text.specs.FieldFormat.{field_of, header_of}
use Rattle.span_text.specs.Words.{field_with}
use Rattle.std.specs.Prelude.{List}

-- a text with its setting and spans
abbrev pub text_with : Setting → List Span → ℕ → ℕ → FieldText
text_with setting spans used lines = record { setting = setting; field = field_with setting spans; used = used; lines = lines }

-- a text that was read is the value of the bytes' first lines, and its length is that of these lines; a fault is that of the bytes
abbrev pub IsRead : List ℕ → Result FieldText FieldRefusal → Type 0
IsRead bytes (Ok text) = (field_of bytes ≡ Ok ((text.setting, text.field), text.lines))
    × (take text.used bytes ≡ text_of (take text.lines (lines bytes))) × (text.used ≤ length bytes)
IsRead bytes (Err (Fault fault)) = field_of bytes ≡ Err fault
IsRead bytes (Err OutOfMemory) = ⊤

-- a setting and a field are read, of so many bytes, unless memory runs out
abbrev pub Gives : Setting → Field → ℕ → Result FieldText FieldRefusal → Type 0
Gives setting field used (Ok text) = (text.setting ≡ setting) × (text.field ≡ field) × (text.used ≡ used)
Gives setting field used (Err (Fault fault)) = ⊥
Gives setting field used (Err OutOfMemory) = ⊤

-- a header that was read has the setting of the bytes' first lines, and ends before the line that ended its reading; a fault is that of the bytes
abbrev pub IsHeaderRead : List ℕ → Result HeaderText FieldRefusal → Type 0
IsHeaderRead bytes (Ok header) = (header_of bytes ≡ Ok (header.setting, header.lines + 1))
    × (take header.used bytes ≡ text_of (take header.lines (lines bytes))) × (header.used ≤ length bytes)
    × GoesOn (drop header.used bytes) × (header.lines ≤ 71)
IsHeaderRead bytes (Err (Fault fault)) = header_of bytes ≡ Err fault
IsHeaderRead bytes (Err OutOfMemory) = ⊥

-- a header with this setting is read, of so many bytes
abbrev pub GivesHeader : Setting → ℕ → Result HeaderText FieldRefusal → Type 0
GivesHeader setting used (Ok header) = (header.setting ≡ setting) × (header.used ≡ used)
GivesHeader setting used (Err refusal) = ⊥
