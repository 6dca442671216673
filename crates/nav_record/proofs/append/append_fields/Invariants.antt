use Rattle.std.proofs.Common.{◌++◌, take}
use Rattle.std.specs.List.{flat_map}
use Rattle.nav_record.specs.Appending.{field_text}
use Rattle.nav_text.proofs.AppendLaws.{Appended}
use Rattle.nav_record.proofs.append.append_fields.Given as goal

-- the word and the fields so far are appended
abbrev pub invariant-loop-field : goal.invariant-loop-field
invariant-loop-field l = Appended l.fn.out l.out (l.word ++ flat_map field_text (take l.field-index l.fields))
