use Rattle.std.proofs.Common.{sym, ◌∙◌, ap}
use Rattle.nav_version.proofs.Adding.{adds_moves}
use Rattle.nav_version.proofs.entries.PublishedHistory.push.Goals as goal

pub compare_exchange-found-requires : goal.compare_exchange-found-requires
compare_exchange-found-requires c =
    let is = c.self.invariant.word in
    let offer = c.plain-offer.ensures in
    let pen = c.no_pen-pen.ensures in (
      ap (λ w. w.tracked) is,
      sym (ap (λ w. w.book) is),
      pen.0 ∙ sym (ap (λ w. w.book) is),
      offer.0,
      rw (ap (λ w. w.key) is, pen.1, offer.1, offer.3) (adds_moves c.self.inside.seen.log c.args.entry.now c.self.inside.length (sym c.self.invariant.length)),
    )
