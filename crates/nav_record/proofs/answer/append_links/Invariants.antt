use Rattle.std.proofs.Common.{take}
use Rattle.std.specs.List.{flat_map}
use Rattle.nav_record.specs.AnswerTexts.{link_text}
use Rattle.nav_text.proofs.AppendLaws.{Appended}
use Rattle.nav_record.proofs.answer.append_links.Given as goal

-- the lines of the links so far are appended
abbrev pub invariant-loop-link : goal.invariant-loop-link
invariant-loop-link l = Appended l.fn.out l.out (flat_map link_text (take l.link-index l.links))
