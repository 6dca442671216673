use Rattle.std.proofs.Common.{length, rules}
use Rattle.span_text.specs.Body.{body_line}
use Rattle.span_text.proofs.BodyLaws.{fits_other}
use Rattle.span_text.proofs.body.body_line.Goals as goal

pub returns-in-None-clause-fits : goal.returns-in-None-clause-fits
returns-in-None-clause-fits c =
    rw c.other_line.ensures (fits_other c.args.before (length c.args.spans.now) c.args.line.now)

pub returns-in-None-clause-value : goal.returns-in-None-clause-value
unfolding body_line
returns-in-None-clause-value c = search rules
