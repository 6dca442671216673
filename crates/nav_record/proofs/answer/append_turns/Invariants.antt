use Rattle.std.proofs.Common.{take}
use Rattle.std.specs.List.{flat_map}
use Rattle.nav_record.specs.AnswerTexts.{turn_text}
use Rattle.nav_text.proofs.AppendLaws.{Appended}
use Rattle.nav_record.proofs.answer.append_turns.Given as goal

-- the lines of the turns so far are appended
abbrev pub invariant-loop-turn : goal.invariant-loop-turn
invariant-loop-turn l = Appended l.fn.out l.out (flat_map turn_text (take l.turn-index l.turns))
