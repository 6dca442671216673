use Rattle.std.proofs.Common.{◌∙◌, ap, sym}
use Rattle.nav_version.specs.Pairs.{PressView}
use Rattle.tests_paths.proofs.versions.watched.Goals as goal

pub seen_by-seen-requires-clause-of : goal.seen_by-seen-requires-clause-of
seen_by-seen-requires-clause-of g c =
    (c.in-Some.ensures c.args.press.pair c.requires.eyes).1 ∙ ap (λ (view : PressView). view.pair) (sym c.sent-press.ensures)
