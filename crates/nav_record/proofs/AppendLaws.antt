-- Fields behind a text.
use Rattle.std.proofs.Common.{◌≡◌, ◌∙◌, sym, append_assoc, ℕ, List, [], ◌∷◌, ◌++◌, codes}
use Rattle.std.specs.List.{flat_map}
use Rattle.std.proofs.lemmas.List.{append-nil}
use Rattle.nav_record.specs.Appending.{field_text, fields_text, value_text}
use Rattle.nav_record.specs.declared.append.LineField.{LineField}

-- fields behind a text are a text of their own behind it
pub fields_behind : (text : List ℕ) (fields : List LineField) → text ++ flat_map field_text fields ≡ fields_text text fields
fields_behind text [] = append-nil text
fields_behind text (field ∷ more) =
    let rest = flat_map field_text more in
    sym (append_assoc text (codes " ") (value_text field ++ rest)) ∙ sym (append_assoc (text ++ codes " ") (value_text field) rest)
    ∙ fields_behind (text ++ codes " " ++ value_text field) more
