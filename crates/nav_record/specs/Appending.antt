-- What is written of the fields of a line.
use Rattle.std.specs.Prelude.{ℕ, List, [], ◌∷◌, ◌++◌, codes, decimal, Option, Some, None}
use Rattle.std.specs.Fmt.{signed_decimal}
use Rattle.nav_record.specs.AnswerTexts.{poly_text, point_text, side_text}
use Rattle.nav_record.specs.declared.append.LineField.{LineField}
use Rattle.nav_record.specs.declared.append.LineField.TheVariants as fields

-- what is written of a field
abbrev pub value_text : LineField → List ℕ
value_text (fields.Number n) = decimal n
value_text (fields.Cost n) = decimal n
value_text (fields.Count n) = decimal n
value_text (fields.Signed z) = signed_decimal z
value_text (fields.Polygon at) = poly_text at
value_text (fields.Place at) = point_text at
value_text (fields.Side side) = side_text side

-- the same behind a space
abbrev pub field_text : LineField → List ℕ
field_text field = 32 ∷ value_text field

-- a text, and fields behind it, each behind a space
abbrev pub fields_text : List ℕ → List LineField → List ℕ
fields_text text [] = text
fields_text text (field ∷ more) = fields_text (text ++ codes " " ++ value_text field) more

-- a word and a number, then what ends the line; or a second number, and what stands between the two
abbrev pub phrase_text : List ℕ → ℕ → List ℕ → Option ℕ → List ℕ
phrase_text word n end None = word ++ codes " " ++ decimal n ++ end
phrase_text word n between (Some m) = word ++ codes " " ++ decimal n ++ (between ++ codes " ") ++ decimal m ++ codes "\n"
