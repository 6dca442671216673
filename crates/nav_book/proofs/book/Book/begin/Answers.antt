use Rattle.std.proofs.Common.{◌∙◌}
use Rattle.std.specs.Prelude.{replicate, []}
use Rattle.nav_version.specs.Pairs.{eye_of}
use Rattle.nav_book.proofs.book.Book.begin.Goals as goal

pub returns-clause-eyes : goal.returns-clause-eyes
returns-clause-eyes g c =
    c.in_ok-press.ensures.eyes ∙ (λ i. replicate c.args.readers (eye_of c.in_ok-press.press.pair (c.in_ok-shown.ensures i) []))
