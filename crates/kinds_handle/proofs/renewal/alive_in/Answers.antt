use Rattle.kinds_handle.proofs.AllShown.{alive_told}
use Rattle.kinds_handle.proofs.renewal.alive_in.Goals as goal

pub returns : goal.returns
returns c = alive_told c.args.held.now c.first_level.result.now c.first_level.ensures.rules c.first_level.ensures.value c.alive.result c.alive.ensures
