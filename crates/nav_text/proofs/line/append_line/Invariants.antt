use Rattle.std.proofs.Common.{take}
use Rattle.nav_text.specs.Forms.{line_text}
use Rattle.nav_text.proofs.AppendLaws.{Appended}
use Rattle.nav_text.proofs.line.append_line.Given as goal

-- the word and the numbers so far are appended
abbrev pub invariant-loop-number : goal.invariant-loop-number
invariant-loop-number l = Appended l.fn.out l.out (line_text l.word (take l.number-index l.numbers))
