use Rattle.obstacle_registry.proofs.SavedLaws.{plain_fits}
use Rattle.obstacle_registry.proofs.saving.shape_saved.Goals as goal

pub returns-in_default-clause-fits : goal.returns-in_default-clause-fits
returns-in_default-clause-fits c = plain_fits c.args.shape.now c.in_default.not-Prism c.in_default.not-Disc
