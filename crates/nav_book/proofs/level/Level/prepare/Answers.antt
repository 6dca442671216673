use Rattle.nav_book.proofs.KeptTiles.{setting_fits}
use Rattle.nav_book.proofs.level.Level.prepare.Goals as goal

pub prepare-requires-clause-setting : goal.prepare-requires-clause-setting
prepare-requires-clause-setting c = setting_fits c.self.inside.queue c.self.inside.fresh c.self.inside.mesh c.self.invariant.tiles
