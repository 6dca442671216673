use Rattle.std.proofs.Common.{arith}
use Rattle.std.proofs.lemmas.List.{drop-set, drop_all}
use Rattle.span_text.proofs.LineLaws.{line_is}
use Rattle.span_text.proofs.lines.spell_line.Goals as goal

pub returns-clause-text : goal.returns-clause-text
returns-clause-text c =
    rw (
      c.put_front.ensures.text,
      c.requires.front.spelled,
      c.put_number-at-3.ensures.text,
      c.put_number-at-2.ensures.text,
      c.put_number-at.ensures.text,
      drop-set c.args.bytes.now 65 10 (omega (arith, c.requires.room)),
      drop_all 66 c.args.bytes.now (omega (arith, c.requires.room)),
    )
    (line_is c.args.span.now)
