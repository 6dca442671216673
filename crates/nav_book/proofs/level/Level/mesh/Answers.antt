use Rattle.std.proofs.Common.{◌∙◌}
use Rattle.nav_book.proofs.KeptTiles.{lasting}
use Rattle.nav_book.proofs.level.Level.mesh.Goals as goal

pub returns-clause-lasting : goal.returns-clause-lasting
returns-clause-lasting c =
    rw (← c.self.view_is) (λ more. c.get.ensures ∙ lasting c.self.inside.queue c.self.inside.fresh c.self.inside.mesh c.self.invariant.tiles more)
