use Rattle.std.proofs.Common.{◌++◌, codes, decimal, length, take}
use Rattle.std.specs.List.{flat_map}
use Rattle.nav_record.specs.AnswerTexts.{floor_text}
use Rattle.nav_text.proofs.AppendLaws.{Appended}
use Rattle.nav_record.proofs.answer.append_floors.Given as goal

-- the front of the line and the floors so far are appended
abbrev pub invariant-loop-floor : goal.invariant-loop-floor
invariant-loop-floor l = Appended l.fn.out l.out (codes "floors " ++ decimal l.k ++ codes " " ++ decimal (length l.floors) ++ flat_map floor_text (take l.floor-index l.floors))
