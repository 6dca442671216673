use Rattle.std.proofs.Common.{◌∙◌, ap, rules}
use Rattle.std.specs.Prelude.{replicate}
use Rattle.std.specs.Arc.{arc_value}
use Rattle.nav_version.specs.Pairs.{eye_of}
use Rattle.nav_book.specs.LevelResults.{published_mesh}
use Rattle.nav_book.proofs.Opening.{opening_is}
use Rattle.nav_book.proofs.book.Book.first_pair.Goals as goal

pub pair-requires : goal.pair-requires
pair-requires g c =
    opening_is (arc_value c.args.ground) (record { ground = c.args.ground; entries = c.in_ok-new.field-0; mesh = c.in_ok-prepared_mesh.field-0 })
    c.requires.ground (search rules) c.in_ok-new.ensures (c.in_ok-prepared_mesh.ensures.value ∙ ap published_mesh c.requires.level)
    c.in_ok-prepared_mesh.ensures.sound

pub returns-clause-eyes : goal.returns-clause-eyes
returns-clause-eyes g c =
    let none = c.in_ok-press.ensures.entries ∙ c.in_ok-new.ensures in
    c.in_ok-press.ensures.eyes ∙ (λ i. replicate c.args.readers (eye_of c.in_ok-press.press.pair (c.in_ok-press.ensures.ground i) (none i)))
